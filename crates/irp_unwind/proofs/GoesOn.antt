-- A descent that ends at its first device, and one that goes on from there.
use Rattle.std.proofs.Common.{◌≡◌, ℕ, ◌+◌, ◌-◌, ◌<◌, ◌≤◌, suc, Bool, true, false, cond, ◌||◌, is_some, List, [], ◌∷◌, ◌++◌, map, length, take, refl, sym, ◌∙◌, ap, subst, arith, append_assoc, Option, Some, None, inl, inr}
use Rattle.std.specs.List.{list_any, flat_map, AllByRecursion}
use Rattle.std.specs.Option.{option_map_or}
use Rattle.std.proofs.lemmas.Bool.{cases_lt}
use Rattle.std.proofs.lemmas.List.{append-nil}
use Rattle.irp_types.specs.Status.{pending}
use Rattle.irp_types.specs.Packet.{PacketValue, size_of, location_at, after_enter}
use Rattle.irp_types.specs.Unwinding.{Asking, as_asked}
use Rattle.irp_types.specs.Stacks.{DevicesValue, AreStacks, lower_of, stack_size_of}
use Rattle.irp_types.specs.State.{Tables}
use Rattle.irp_types.specs.Descent.{Frame, plans, is_copying, is_passing, marks_location, first_location, last_frame, shown_to, IsPlannedAs, IsPlanned, question_at, questions_of, AreFrames, PassedDown, Ends, final_status, replied_status}
use Rattle.irp_types.specs.declared.location.Location.{Location}
use Rattle.irp_types.specs.declared.names.IrpRef.{IrpRef}
use Rattle.irp_types.specs.declared.names.DeviceId.{DeviceId}
use Rattle.irp_types.specs.declared.names.DispatchId.{DispatchId}
use Rattle.irp_types.specs.declared.names.CancelId.{CancelId}
use Rattle.irp_types.specs.declared.status.Status.{Status}
use Rattle.irp_types.specs.declared.routine.RoutineId.{RoutineId}
use Rattle.irp_types.specs.declared.shown.Shown.{Shown}
use Rattle.irp_types.specs.declared.answer.Answer.{Answer}
use Rattle.irp_types.specs.declared.answer.CancelAnswer.{CancelAnswer}
use Rattle.irp_types.specs.declared.answer.Plan.{Plan}
use Rattle.irp_types.specs.declared.answer.Plan.TheVariants.{Finish, Hold, HoldSlot, Skip, Forward, ForwardPend}
use Rattle.irp_types.specs.declared.asked.Asked.{Asked}
use Rattle.irp_routines.specs.Answers.{IsAnswered}
use Rattle.irp_unwind.specs.declared.ending.Sent.{Sent}
use Rattle.irp_unwind.specs.Conditions.{HasDevices}
use Rattle.irp_unwind.specs.Endings.{IsGiven}
use Rattle.irp_unwind.specs.Devices.{marked_here, passed_on, stopped, frame_at, shown_here, ending_at, IsPlannedHere, EndsHere}
use Rattle.irp_unwind.specs.Descents.{Descends}
use Rattle.irp_unwind.proofs.Lists.{all_map, all_append}
use Rattle.irp_unwind.proofs.Frames.{IsBelow, is_below, devices_one, devices_more, IsPlaced, placed_more}
use Rattle.irp_unwind.proofs.SentOn.{Stood, stood_entered, stood_noted, SentOn, passed_one, passed_more, sent_skip, sent_copy}

-- what the dispatch is shown in the location that was entered
shown_entered : (irp : IrpRef) (packet : PacketValue) (devices : DevicesValue) (frame bare : Frame) → Stood packet (after_enter packet (record { 0 = frame.device })) bare → frame.location ≡ first_location packet
    → shown_here irp (after_enter packet (record { 0 = frame.device })) devices frame.device ≡ shown_to irp packet devices frame
shown_entered irp packet devices frame bare stood at = λ i. record {
  device = Some (record { 0 = frame.device });
  irp = irp;
  major = (stood.here i).major;
  location = sym at i;
  word = (stood.here i).word;
  status = packet.status;
  information = packet.information;
  pending_returned = false;
  cancel = packet.cancel;
  context = 0;
  has_lower = is_some (lower_of devices frame.device);
}

-- the frames below are shown the same
shown_sent : (irp : IrpRef) (packet next : PacketValue) (devices : DevicesValue) (frame follower : Frame) → SentOn packet frame next → shown_to irp next devices follower ≡ shown_to irp packet devices follower
shown_sent irp packet next devices frame follower sent = λ i. record {
  device = Some (record { 0 = follower.device });
  irp = irp;
  major = sent.major i;
  location = follower.location;
  word = sent.word i;
  status = (sent.rest i).status;
  information = (sent.rest i).information;
  pending_returned = false;
  cancel = (sent.rest i).cancel;
  context = 0;
  has_lower = is_some (lower_of devices follower.device);
}

-- the packet of a device that stops
stood_of : (packet : PacketValue) (device : DeviceId) (location : ℕ) (plan : Option Plan) → 2 ≤ packet.current → packet.current ≤ size_of packet + 1
    → option_map_or is_passing plan false ≡ false → Stood packet (stopped (after_enter packet device) plan) (record { device = device.0; location = location; plan = plan })
stood_of packet device location None low high stops = stood_entered packet device _ low high refl refl
stood_of packet device location (Some (Finish status information)) low high stops = stood_entered packet device _ low high refl refl
stood_of packet device location (Some (Hold cancel)) low high stops = stood_noted packet device _ low high refl refl
stood_of packet device location (Some HoldSlot) low high stops = stood_noted packet device _ low high refl refl
stood_of packet device location (Some Skip) low high stops = absurd (cc)
stood_of packet device location (Some (Forward set)) low high stops = absurd (cc)
stood_of packet device location (Some (ForwardPend set)) low high stops = absurd (cc)

-- the packet of a device that passes it on
sent_of : (packet : PacketValue) (device : DeviceId) (plan : Option Plan) → 3 ≤ packet.current → packet.current ≤ size_of packet + 1
    → option_map_or is_passing plan false ≡ true
    → SentOn packet (record { device = device.0; location = first_location packet; plan = plan }) (passed_on (after_enter packet device) plan)
sent_of packet device None low high passes = absurd (cc)
sent_of packet device (Some (Finish status information)) low high passes = absurd (cc)
sent_of packet device (Some (Hold cancel)) low high passes = absurd (cc)
sent_of packet device (Some HoldSlot) low high passes = absurd (cc)
sent_of packet device (Some Skip) low high passes =
    let frame : Frame = record { device = device.0; location = first_location packet; plan = Some Skip } in
    let two : 2 ≤ packet.current = omega arith in
    sent_skip packet (after_enter packet device) frame two refl refl refl (stood_entered packet device frame two high refl refl)
sent_of packet device (Some (Forward set)) low high passes =
    let frame : Frame = record { device = device.0; location = first_location packet; plan = Some (Forward set) } in
    let two : 2 ≤ packet.current = omega arith in
    sent_copy packet (after_enter packet device) frame set low high refl refl refl (stood_entered packet device frame two high refl refl)
sent_of packet device (Some (ForwardPend set)) low high passes =
    let frame : Frame = record { device = device.0; location = first_location packet; plan = Some (ForwardPend set) } in
    let two : 2 ≤ packet.current = omega arith in
    sent_copy packet (marked_here (after_enter packet device)) frame set low high refl refl refl (stood_noted packet device frame two high refl refl)

no_copy : (plan : Option Plan) → option_map_or is_passing plan false ≡ false → option_map_or is_copying plan false ≡ false
no_copy None stops = refl
no_copy (Some (Finish status information)) stops = refl
no_copy (Some (Hold cancel)) stops = refl
no_copy (Some HoldSlot) stops = refl
no_copy (Some Skip) stops = refl
no_copy (Some (Forward set)) stops = stops
no_copy (Some (ForwardPend set)) stops = stops

reply_one : (device location : ℕ) (plan : Option Plan) → final_status plan ≡ replied_status (record { device = device; location = location; plan = plan } ∷ [])
reply_one device location None = refl
reply_one device location (Some (Finish status information)) = refl
reply_one device location (Some (Hold cancel)) = refl
reply_one device location (Some HoldSlot) = refl
reply_one device location (Some Skip) = refl
reply_one device location (Some (Forward set)) = refl
reply_one device location (Some (ForwardPend set)) = refl

pub or_cond : (one two : Bool) (first second : Status) → cond one first (cond two first second) ≡ cond (one || two) first second
or_cond true two first second = refl
or_cond false two first second = refl

pub devices_sent : (packet next : PacketValue) (frame : Frame) → SentOn packet frame next → HasDevices packet packet.current → HasDevices next next.current
devices_sent packet next frame sent devices =
    let follower : Frame = record { device = 0; location = first_location next; plan = None } in
    let placed : IsPlaced (follower ∷ []) (first_location next) = placed_more follower [] (first_location next) (first_location next) refl (omega arith) (λ place within. absurd (omega arith)) in
    record {
      there = λ number from to.
          elim (cases_lt (first_location packet) number) as (λ _. is_some (location_at next number).device ≡ true) [
            | inl up ↦
                let top : number ≤ size_of packet = omega (arith, sent.size) in
                ap (λ (location : Location). is_some location.device) (sent.above number up) ∙ devices.there number (omega arith) top
            | inr down ↦
                let within : number ≤ first_location packet = omega arith in
                let above : first_location next < number = omega (arith, from, sent.low) in
                ap (λ (location : Location). is_some location.device) (sent.left follower [] placed number above within)
          ];
    }

module _ (may_plan : DispatchId → Shown → Plan → Type 0) (may_answer : RoutineId → Shown → Answer → Type 0) (may_cancel : CancelId → Shown → CancelAnswer → Type 0)
    (tables : Tables) (irp : IrpRef) (devices : DevicesValue) (packet : PacketValue) (before : List Asked) where
  abbrev May : Asked → Type 0
  May = IsAnswered may_plan may_answer may_cancel

  all_given : (asked : List Asking) → AllByRecursion (IsGiven may_answer) asked → AllByRecursion May (map as_asked asked)
  all_given [] given = tt
  all_given (asking ∷ asked) given = (given.0, all_given asked given.1)

  -- the frame of a device that the packet comes to
  abbrev pub frame_of : ℕ → Option Plan → Frame
  frame_of device plan = record { device = device; location = first_location packet; plan = plan }

  abbrev question : ℕ → Option Plan → List Asked
  question device plan = question_at tables devices (frame_of device plan) (shown_to irp packet devices (frame_of device plan))

  -- how the frame's own question is seen from the start
  pub record IsPlannedFirst (device : ℕ) (plan : Option Plan) (between : List Asked) : Type 0 where
    pub planned : IsPlanned tables irp packet devices (frame_of device plan)
    pub listed : between ≡ before ++ question device plan
    pub given : AllByRecursion May (question device plan)

  pub planned_first : (device : ℕ) (plan : Option Plan) (between : List Asked) → 2 ≤ packet.current → packet.current ≤ size_of packet + 1
      → IsPlannedHere May tables irp devices (after_enter packet (record { 0 = device })) (frame_of device plan) before between
      → IsPlannedFirst device plan between
  planned_first device plan between low high here =
      let bare : Frame = frame_of device None in
      let stood : Stood packet (after_enter packet (record { 0 = device })) bare = stood_entered packet (record { 0 = device }) bare low high refl refl in
      let same : shown_here irp (after_enter packet (record { 0 = device })) devices device ≡ shown_to irp packet devices (frame_of device plan) =
      shown_entered irp packet devices (frame_of device plan) bare stood refl in
      record {
        planned = subst (IsPlannedAs tables devices (frame_of device plan)) same here.planned;
        listed = here.listed ∙ ap (λ shown. before ++ question_at tables devices (frame_of device plan) shown) same;
        given = subst (λ shown. AllByRecursion May (question_at tables devices (frame_of device plan) shown)) same here.given;
      }

  -- it ends here
  pub ends_here : (device : ℕ) (plan : Option Plan) (new : PacketValue) (between after : List Asked) (sent : Sent) → 2 ≤ packet.current → packet.current ≤ size_of packet + 1
      → AreStacks devices → device < length devices.facts → option_map_or is_passing plan false ≡ false
      → IsPlannedHere May tables irp devices (after_enter packet (record { 0 = device })) (frame_of device plan) before between
      → EndsHere may_answer irp (after_enter packet (record { 0 = device })) device plan new between after sent.ending → sent.status ≡ final_status plan
      → Descends May tables irp devices packet device new before after sent
  ends_here device plan new between after sent low high stacked created stops here ends status =
      let frame : Frame = frame_of device plan in
      let copies : plans is_copying frame ≡ false = no_copy plan stops in
      let none_left : first_location packet + cond (plans is_copying frame) 1 0 ≡ first_location packet = ap (λ copying. first_location packet + cond copying 1 0) copies ∙ omega arith in
      let first = planned_first device plan between low high here in
      let alone : ◌≡◌ {A = List Asked} (question device plan ++ []) (question device plan) = append-nil (question device plan) in
      record {
        asked = questions_of tables irp packet devices (frame ∷ []) ++ map as_asked ends.asked;
        descended = record {
          frames = frame ∷ [];
          reached = stopped (after_enter packet (record { 0 = device })) plan;
          unwinding = ends.asked;
          right = record {
            some = omega arith;
            devices_are = sym (devices_one devices device stacked created);
            locations = placed_more frame [] (first_location packet) (first_location packet) refl none_left (λ place within. absurd (omega arith));
            down = tt;
            stops = stops;
            planned = (first.planned, tt);
          };
          passed = passed_one packet (stopped (after_enter packet (record { 0 = device })) plan) frame low refl (stood_of packet (record { 0 = device }) (first_location packet) plan low high stops);
          ended = ends.ends;
          listed = refl;
          replied = status ∙ reply_one device (first_location packet) plan;
        };
        listed = ends.listed ∙ ap (λ items. items ++ map as_asked ends.asked) (first.listed ∙ ap (λ items. before ++ items) (sym alone)) ∙ append_assoc before (questions_of tables irp packet devices (frame ∷ [])) (map as_asked ends.asked);
        given = all_append May (questions_of tables irp packet devices (frame ∷ [])) (map as_asked ends.asked)
            (subst (AllByRecursion May) (sym alone) first.given) (all_given ends.asked ends.given);
        ended = ends.ended;
      }

  more_pass : (P : Frame → Type 0) (frame follower : Frame) (others : List Frame) → P frame → AllByRecursion P (take (length (follower ∷ others) - 1) (follower ∷ others))
      → AllByRecursion P (take (length (frame ∷ follower ∷ others) - 1) (frame ∷ follower ∷ others))
  more_pass P frame follower others first rest =
      let count : length (frame ∷ follower ∷ others) - 1 ≡ suc (length (follower ∷ others) - 1) = omega arith in
      subst (λ n. AllByRecursion P (take n (frame ∷ follower ∷ others))) (sym count) (first, rest)

  -- it goes on to the lower device
  pub record GoesTo (device lower : ℕ) (plan : Option Plan) (next : PacketValue) (between : List Asked) : Type 0 where
    pub low : 2 ≤ packet.current
    pub high : packet.current ≤ size_of packet + 1
    pub stacked : AreStacks devices
    pub created : device < length devices.facts
    pub below : IsBelow devices device lower
    pub passes : plans is_passing (frame_of device plan) ≡ true
    pub here : IsPlannedHere May tables irp devices (after_enter packet (record { 0 = device })) (frame_of device plan) before between
    pub sent : SentOn packet (frame_of device plan) next

  pub goes_to : (device : DeviceId) (lower : ℕ) (plan : Option Plan) (entered next : PacketValue) (between : List Asked) → stack_size_of devices device.0 < packet.current → packet.current ≤ size_of packet + 1
      → AreStacks devices → device.0 < length devices.facts → lower_of devices device.0 ≡ Some lower → option_map_or is_passing plan false ≡ true
      → entered ≡ after_enter packet device → IsPlannedHere May tables irp devices entered (frame_at entered device.0 plan) before between → next ≡ passed_on entered plan
      → GoesTo device.0 lower plan next between
  goes_to device lower plan entered next between deep high stacked created found passes is_entered here is_next =
      let below : IsBelow devices device.0 lower = is_below devices device.0 lower stacked created found in
      let three : 3 ≤ packet.current = omega (arith, deep, below.depth) in
      let passed : next ≡ passed_on (after_enter packet device) plan = is_next ∙ ap (λ value. passed_on value plan) is_entered in
      record {
        low = omega (arith, three);
        high = high;
        stacked = stacked;
        created = created;
        below = below;
        passes = passes;
        here = subst (λ value. IsPlannedHere May tables irp devices value (frame_at value device.0 plan) before between) is_entered here;
        sent = subst (SentOn packet (frame_of device.0 plan)) (sym passed) (sent_of packet device plan three high passes);
      }

  -- the reply of a device that passes the packet on: PENDING where it marks its location
  abbrev pub reply_above : ℕ → Option Plan → Sent → Sent
  reply_above device plan sent = record sent { status = cond (plans marks_location (frame_of device plan)) pending sent.status }

  goes_more : (device lower : ℕ) (plan : Option Plan) (next reached new : PacketValue) (between after : List Asked) (sent : Sent) (frames : List Frame) (unwinding : List Asking)
      → GoesTo device lower plan next between
      → AreFrames tables irp devices next lower frames → PassedDown next frames reached → Ends irp (last_frame frames) reached unwinding new (last_frame frames).plan
      → sent.status ≡ replied_status frames → after ≡ between ++ (questions_of tables irp next devices frames ++ map as_asked unwinding)
      → AllByRecursion May (questions_of tables irp next devices frames ++ map as_asked unwinding)
      → sent.ending ≡ ending_at (last_frame frames) reached unwinding (last_frame frames).plan
      → Descends May tables irp devices packet device new before after (reply_above device plan sent)
  goes_more device lower plan next reached new between after sent [] unwinding to right passed ends replied listed given ended =
      let none : 0 < length {A = Frame} [] = right.some in
      absurd (omega (arith, none))
  goes_more device lower plan next reached new between after sent (follower ∷ others) unwinding to right passed ends replied listed given ended =
      let frame : Frame = frame_of device plan in
      let first = planned_first device plan between to.low to.high to.here in
      let same : (one : Frame) → shown_to irp next devices one ≡ shown_to irp packet devices one = λ one. shown_sent irp packet next devices frame one to.sent in
      let questions : questions_of tables irp next devices (follower ∷ others) ≡ questions_of tables irp packet devices (follower ∷ others) =
      λ i. flat_map (λ one. question_at tables devices one (same one i)) (follower ∷ others) in
      let here = question device plan in
      let rest = questions_of tables irp packet devices (follower ∷ others) in
      let all : AllByRecursion May (rest ++ map as_asked unwinding) = subst (λ items. AllByRecursion May (items ++ map as_asked unwinding)) questions given in
      let assoc : (here ++ rest) ++ map as_asked unwinding ≡ here ++ (rest ++ map as_asked unwinding) = append_assoc here rest (map as_asked unwinding) in
      record {
        asked = questions_of tables irp packet devices (frame ∷ follower ∷ others) ++ map as_asked unwinding;
        descended = record {
          frames = frame ∷ follower ∷ others;
          reached = reached;
          unwinding = unwinding;
          right = record {
            some = omega arith;
            devices_are = ap (λ items. device ∷ items) right.devices_are ∙ sym (devices_more devices device lower (length (follower ∷ others)) to.stacked to.created to.below);
            locations = placed_more frame (follower ∷ others) (first_location packet) (first_location next) refl to.sent.first right.locations;
            down = more_pass (λ one. plans is_passing one ≡ true) frame follower others to.passes right.down;
            stops = right.stops;
            planned = (first.planned, all_map (IsPlanned tables irp next devices) (IsPlanned tables irp packet devices) (λ one planned. subst (IsPlannedAs tables devices one) (same one) planned) (follower ∷ others) right.planned);
          };
          passed = passed_more packet next reached frame follower others to.sent right.locations passed;
          ended = ends;
          listed = refl;
          replied = ap (λ status. cond (plans marks_location frame) pending status) replied
              ∙ or_cond (plans marks_location frame) (list_any (plans marks_location) (follower ∷ others)) pending (final_status (last_frame (follower ∷ others)).plan);
        };
        listed = listed ∙ ap (λ items. between ++ (items ++ map as_asked unwinding)) questions ∙ ap (λ items. items ++ (rest ++ map as_asked unwinding)) first.listed
            ∙ append_assoc before here (rest ++ map as_asked unwinding) ∙ ap (λ items. before ++ items) (sym assoc);
        given = subst (AllByRecursion May) (sym assoc) (all_append May here (rest ++ map as_asked unwinding) first.given all);
        ended = ended;
      }

  pub goes_on : (device lower : ℕ) (plan : Option Plan) (next new : PacketValue) (between after : List Asked) (sent : Sent) → GoesTo device lower plan next between
      → Descends May tables irp devices next lower new between after sent
      → Descends May tables irp devices packet device new before after (reply_above device plan sent)
  goes_on device lower plan next new between after sent to rest =
      let down = rest.descended in
      goes_more device lower plan next down.reached new between after sent down.frames down.unwinding to down.right down.passed down.ended down.replied
      (rest.listed ∙ ap (λ items. between ++ items) down.listed) (subst (AllByRecursion May) down.listed rest.given) rest.ended

pub at_most_one : (copies : Bool) → cond copies 1 0 ≤ 1
at_most_one true = omega arith
at_most_one false = omega arith
