-- What one device of a descent leaves, and how the rest goes on from there.
use Rattle.std.proofs.Common.{◌≡◌, ℕ, ◌+◌, ◌-◌, ◌<◌, ◌≤◌, ◌≢◌, true, false, cond, ◌||◌, ◌&&◌, ◌==◌, List, [], ◌∷◌, length, set, refl, sym, ◌∙◌, ap, arith, Option, Some, None, ◌⊎◌, inl, inr}
use Rattle.std.specs.List.{list_any}
use Rattle.std.proofs.Math.Bool.{or-false, or-true}
use Rattle.std.proofs.lemmas.Bool.{cond-true, cond-false, cases_eq, cases_lt, eq-eqb, ne_eqb}
use Rattle.std.proofs.lemmas.List.{get_or-set_same, get_or-set_other, length-set}
use Rattle.irp_types.specs.Packet.{PacketValue, size_of, location_at, with_location, cleared, after_enter, after_copy}
use Rattle.irp_types.specs.Descent.{Frame, plans, is_copying, marks_location, first_location, last_frame, frames_in, used_location, PassedDown}
use Rattle.irp_types.specs.declared.location.Location.{Location}
use Rattle.irp_types.specs.declared.location.Preparation.TheVariants.{Nothing}
use Rattle.irp_types.specs.declared.names.DeviceId.{DeviceId}
use Rattle.irp_types.specs.declared.routine.Setting.{Setting}
use Rattle.irp_unwind.specs.Turns.{marked}
use Rattle.irp_unwind.specs.Devices.{marked_here}
use Rattle.irp_unwind.proofs.Frames.{set_at, IsPlaced, placed_first, placed_below, last_in, in_here, in_rest, none_above, last_after, any_after}

pub at_same : (packet : PacketValue) (number : ℕ) (l : Location) → number - 1 < size_of packet → location_at (with_location packet number l) number ≡ l
at_same packet number l h = get_or-set_same packet.locations (number - 1) l cleared h

pub at_other : (packet : PacketValue) (number k : ℕ) (l : Location) → 1 ≤ number → 1 ≤ k → (k ≡ number → ⊥) → location_at (with_location packet number l) k ≡ location_at packet k
at_other packet number k l hj hk n =
    let next : k - 1 ≢ number - 1 = omega (arith, n, hj, hk) in
    get_or-set_other packet.locations (number - 1) (k - 1) l cleared next

-- the current location of a device
abbrev pub stood : PacketValue → Frame → Location
stood packet frame = record {
  device = Some (record { 0 = frame.device });
  major = (location_at packet (first_location packet)).major;
  word = (location_at packet (first_location packet)).word;
  setting = (location_at packet (first_location packet)).setting;
  pending = (location_at packet (first_location packet)).pending || plans marks_location frame;
}

-- q is packet with the device of the frame in the next lower location, marked if the plan marks
pub record Stood (packet q : PacketValue) (frame : Frame) : Type 0 where
  pub size : length q.locations ≡ size_of packet
  pub here : location_at q (first_location packet) ≡ stood packet frame
  pub other : (number : ℕ) → 1 ≤ number → (number ≡ first_location packet → ⊥) → location_at q number ≡ location_at packet number
  pub rest : q ≡ record packet { locations = q.locations; current = first_location packet; preparation = Nothing }

pub stood_entered : (packet : PacketValue) (device : DeviceId) (frame : Frame) → 2 ≤ packet.current → packet.current ≤ size_of packet + 1 → frame.device ≡ device.0 → plans marks_location frame ≡ false → Stood packet (after_enter packet device) frame
stood_entered packet device frame low high dev e =
    let lt : first_location packet - 1 < size_of packet = omega arith in
    let one : 1 ≤ first_location packet = omega arith in
    let was = location_at packet (first_location packet) in
    let l : Location = record was { device = Some device } in
    record {
      size = length-set packet.locations (first_location packet - 1) l;
      here = at_same packet (first_location packet) l lt ∙ (λ i. record {
        device = Some (record { 0 = sym dev i });
        major = was.major;
        word = was.word;
        setting = was.setting;
        pending = sym (or-false was.pending) i;
      }) ∙ ap (λ b. record (stood packet frame) { pending = was.pending || b }) (sym e);
      other = λ number a n. at_other packet (first_location packet) number l one a n;
      rest = refl;
    }

pub stood_noted : (packet : PacketValue) (device : DeviceId) (frame : Frame) → 2 ≤ packet.current → packet.current ≤ size_of packet + 1 → frame.device ≡ device.0 → plans marks_location frame ≡ true → Stood packet (marked_here (after_enter packet device)) frame
stood_noted packet device frame low high dev e =
    let lt : first_location packet - 1 < size_of packet = omega arith in
    let one : 1 ≤ first_location packet = omega arith in
    let was = location_at packet (first_location packet) in
    let l : Location = record was { device = Some device } in
    let q = after_enter packet device in
    let size : length q.locations ≡ size_of packet = length-set packet.locations (first_location packet - 1) l in
    let lt2 : first_location packet - 1 < length q.locations = omega arith in
    let next : Location = marked (location_at q (first_location packet)) in
    record {
      size = length-set q.locations (first_location packet - 1) next ∙ size;
      here = at_same q (first_location packet) next lt2 ∙ ap marked (at_same packet (first_location packet) l lt) ∙ (λ i. record {
        device = Some (record { 0 = sym dev i });
        major = was.major;
        word = was.word;
        setting = was.setting;
        pending = sym (or-true was.pending) i;
      }) ∙ ap (λ b. record (stood packet frame) { pending = was.pending || b }) (sym e);
      other = λ number a n. at_other q (first_location packet) number next one a n ∙ at_other packet (first_location packet) number l one a n;
      rest = refl;
    }

-- next is left of packet for the next lower device
pub record SentOn (packet : PacketValue) (frame : Frame) (next : PacketValue) : Type 0 where
  pub size : size_of next ≡ size_of packet
  pub low : 2 ≤ next.current
  pub first : first_location next + cond (plans is_copying frame) 1 0 ≡ first_location packet
  pub major : (location_at next (first_location next)).major ≡ (location_at packet (first_location packet)).major
  pub word : (location_at next (first_location next)).word ≡ (location_at packet (first_location packet)).word
  pub below : (number : ℕ) → 1 ≤ number → number < first_location next → location_at next number ≡ location_at packet number
  pub above : (number : ℕ) → first_location packet < number → location_at next number ≡ location_at packet number
  pub used : (follower : Frame) (others : List Frame) → IsPlaced (follower ∷ others) (first_location next) → (number : ℕ) → 1 ≤ number → number ≤ first_location next → used_location next (follower ∷ others) number ≡ used_location packet (frame ∷ follower ∷ others) number
  pub left : (follower : Frame) (others : List Frame) → IsPlaced (follower ∷ others) (first_location next) → (number : ℕ) → first_location next < number → number ≤ first_location packet → location_at next number ≡ used_location packet (frame ∷ follower ∷ others) number
  pub settings : (number : ℕ) → first_location next ≤ number → ((first_location packet ≤ number) × ((location_at next number).setting ≡ (location_at packet number).setting)) ⊎ ((location_at next number).setting ≡ set_at frame)
  pub rest : next ≡ record packet { locations = next.locations; current = next.current; preparation = next.preparation }

-- one frame alone
pub passed_one : (packet q : PacketValue) (frame : Frame) → 2 ≤ packet.current → frame.location ≡ first_location packet → Stood packet q frame → PassedDown packet (frame ∷ []) q
passed_one packet q frame low at s =
    let only : frames_in (frame ∷ []) (first_location packet) ≡ frame ∷ [] = in_here frame [] (first_location packet) at in
    let yes : (first_location packet == first_location packet) ≡ true = eq-eqb (first_location packet) (first_location packet) refl in
    let was = location_at packet (first_location packet) in
    let e : stood packet frame ≡ used_location packet (frame ∷ []) (first_location packet) =
    (λ i. record {
      device = Some (record { 0 = (last_frame (sym only i)).device });
      major = was.major;
      word = was.word;
      setting = was.setting;
      pending = was.pending || (sym (or-false (plans marks_location frame)) i);
    }) ∙ (λ i. record {
      device = Some (record { 0 = (last_frame (frames_in (frame ∷ []) (first_location packet))).device });
      major = was.major;
      word = was.word;
      setting = cond (sym yes i) was.setting (set_at (last_frame (frames_in (frame ∷ []) (first_location packet + 1))));
      pending = ((sym yes i) && was.pending) || list_any (plans marks_location) (sym only i);
    }) in
    record {
      lowest = omega (arith, at);
      size = s.size;
      used = λ number from to.
          let j_is : number ≡ first_location packet = omega (arith, from, to, at) in
          ap (location_at q) j_is ∙ s.here ∙ e ∙ ap (used_location packet (frame ∷ [])) (sym j_is);
      below = λ number one less. s.other number one (λ q. absurd (omega (arith, q, less, at)));
      above = λ number more. s.other number (omega arith) (λ q. absurd (omega (arith, q, more)));
      others = s.rest ∙ (λ i. record packet { locations = q.locations; current = sym at i; preparation = Nothing });
    }

-- a frame before the others
pub passed_more : (packet next reached : PacketValue) (frame follower : Frame) (others : List Frame) → SentOn packet frame next → IsPlaced (follower ∷ others) (first_location next)
    → PassedDown next (follower ∷ others) reached → PassedDown packet (frame ∷ follower ∷ others) reached
passed_more packet next reached frame follower others s placed r =
    let last : (last_frame (follower ∷ others)).location ≤ first_location next = last_in (λ h. h.location ≤ first_location next) follower others (placed_below (follower ∷ others) (first_location next) placed) in
    let le : first_location next ≤ first_location packet = omega (arith, s.first) in
    let some : 1 ≤ (last_frame (follower ∷ others)).location = r.lowest in
    record {
      lowest = some;
      size = r.size ∙ s.size;
      used = λ number from to. elim (cases_lt (first_location next) number) as (λ _. location_at reached number ≡ used_location packet (frame ∷ follower ∷ others) number) [
        | inl up ↦ r.above number up ∙ s.left follower others placed number up to
        | inr down ↦ let device : number ≤ first_location next = omega arith in r.used number from device ∙ s.used follower others placed number (omega arith) device
      ];
      below = λ number one less. r.below number one less ∙ s.below number one (omega arith);
      above = λ number more. r.above number (omega arith) ∙ s.above number more;
      others = r.others ∙ (λ i. record (s.rest i) { locations = reached.locations; current = (last_frame (follower ∷ others)).location; preparation = Nothing });
    }

-- a skip
pub sent_skip : (packet q : PacketValue) (frame : Frame) → 2 ≤ packet.current → frame.location ≡ first_location packet → plans is_copying frame ≡ false → plans marks_location frame ≡ false → Stood packet q frame
    → SentOn packet frame (record q { current = q.current + 1; preparation = Nothing })
sent_skip packet q frame low at copy pend s =
    let cur : q.current ≡ first_location packet = ap (λ (value : PacketValue). value.current) s.rest in
    let next = record q { current = q.current + 1; preparation = Nothing } in
    let fst : first_location next ≡ first_location packet = omega (arith, cur) in
    let set_same : (number : ℕ) → 1 ≤ number → (location_at next number).setting ≡ (location_at packet number).setting = λ number a. elim (cases_eq number (first_location packet)) as (λ _. (location_at next number).setting ≡ (location_at packet number).setting) [
      | inl e ↦ ap (λ k. (location_at next k).setting) e ∙ ap (λ (location : Location). location.setting) s.here ∙ ap (λ k. (location_at packet k).setting) (sym e)
      | inr n ↦ ap (λ (location : Location). location.setting) (s.other number a n)
    ] in
    let content_setting : (location_at next (first_location next)).setting ≡ (location_at packet (first_location packet)).setting =
    ap (λ k. (location_at next k).setting) fst ∙ ap (λ (location : Location). location.setting) s.here in
    let content_pending : (location_at next (first_location next)).pending ≡ (location_at packet (first_location packet)).pending =
    ap (λ k. (location_at next k).pending) fst ∙ ap (λ (location : Location). location.pending) s.here
    ∙ ap (λ b. (location_at packet (first_location packet)).pending || b) pend ∙ or-false (location_at packet (first_location packet)).pending in
    let major : (location_at next (first_location next)).major ≡ (location_at packet (first_location packet)).major =
    ap (λ k. (location_at next k).major) fst ∙ ap (λ (location : Location). location.major) s.here in
    let word : (location_at next (first_location next)).word ≡ (location_at packet (first_location packet)).word =
    ap (λ k. (location_at next k).word) fst ∙ ap (λ (location : Location). location.word) s.here in
    record {
      size = s.size;
      low = omega (arith, cur);
      first = ap (λ b. first_location next + cond b 1 0) copy ∙ omega (arith, fst);
      major = major;
      word = word;
      below = λ number one less. s.other number one (λ e. absurd (omega (arith, e, less, fst)));
      above = λ number more. s.other number (omega arith) (λ e. absurd (omega (arith, e, more)));
      used = λ follower others placed number one le.
          let follow : frame.location ≡ follower.location = at ∙ sym fst ∙ sym (placed_first follower others (first_location next) placed) in
          let here : last_frame (frames_in (follower ∷ others) number) ≡ last_frame (frames_in (frame ∷ follower ∷ others) number) = sym (last_after frame follower others number follow) in
          let following : last_frame (frames_in (follower ∷ others) (number + 1)) ≡ last_frame (frames_in (frame ∷ follower ∷ others) (number + 1)) = sym (last_after frame follower others (number + 1) follow) in
          let any : list_any (plans marks_location) (frames_in (follower ∷ others) number) ≡ list_any (plans marks_location) (frames_in (frame ∷ follower ∷ others) number) = sym (any_after frame (follower ∷ others) number pend) in
          λ i. record {
            device = Some (record { 0 = (here i).device });
            major = major i;
            word = word i;
            setting = cond (number == fst i) (content_setting i) (set_at (following i));
            pending = ((number == fst i) && content_pending i) || any i;
          };
      left = λ follower others placed number more le. absurd (omega (arith, more, le, fst));
      settings = λ number from. inl (omega (arith, from, fst), set_same number (omega arith));
      rest = λ i. record (s.rest i) { locations = q.locations; current = q.current + 1; preparation = Nothing };
    }

-- a copy to the next lower location
pub sent_copy : (packet q : PacketValue) (frame : Frame) (set : Option Setting) → 3 ≤ packet.current → packet.current ≤ size_of packet + 1 → frame.location ≡ first_location packet
    → plans is_copying frame ≡ true → set_at frame ≡ set → Stood packet q frame → SentOn packet frame (after_copy q set)
sent_copy packet q frame set low high at copy planned s =
    let cur : q.current ≡ first_location packet = ap (λ (value : PacketValue). value.current) s.rest in
    let next = after_copy q set in
    let c : Location = record { device = None; major = (location_at q q.current).major; word = (location_at q q.current).word; setting = set; pending = false } in
    let fst : first_location next + 1 ≡ first_location packet = omega (arith, cur) in
    let lt : (q.current - 1) - 1 < length q.locations = omega (arith, cur, s.size) in
    let one_m : 1 ≤ q.current - 1 = omega (arith, cur) in
    let copy_at : location_at next (first_location next) ≡ c = at_same q (q.current - 1) c lt in
    let same_at : (number : ℕ) → 1 ≤ number → (number ≡ first_location next → ⊥) → location_at next number ≡ location_at q number = λ number a n. at_other q (q.current - 1) number c one_m a n in
    let major : (location_at next (first_location next)).major ≡ (location_at packet (first_location packet)).major =
    ap (λ (location : Location). location.major) copy_at ∙ ap (λ k. (location_at q k).major) cur ∙ ap (λ (location : Location). location.major) s.here in
    let word : (location_at next (first_location next)).word ≡ (location_at packet (first_location packet)).word =
    ap (λ (location : Location). location.word) copy_at ∙ ap (λ k. (location_at q k).word) cur ∙ ap (λ (location : Location). location.word) s.here in
    let was = location_at packet (first_location packet) in
    record {
      size = length-set q.locations ((q.current - 1) - 1) c ∙ s.size;
      low = omega (arith, cur);
      first = ap (λ b. first_location next + cond b 1 0) copy ∙ fst;
      major = major;
      word = word;
      below = λ number one less. same_at number one (λ e. absurd (omega (arith, e, less))) ∙ s.other number one (λ e. absurd (omega (arith, e, less, fst)));
      above = λ number more. same_at number (omega arith) (λ e. absurd (omega (arith, e, more, fst))) ∙ s.other number (omega arith) (λ e. absurd (omega (arith, e, more)));
      used = λ follower others placed number one le.
          let away : frame.location ≡ number → ⊥ = λ e. absurd (omega (arith, e, at, le, fst)) in
          let here : frames_in (follower ∷ others) number ≡ frames_in (frame ∷ follower ∷ others) number = sym (in_rest frame (follower ∷ others) number away) in
          let not_first : (number == first_location packet) ≡ false = ne_eqb number (first_location packet) (λ e. absurd (omega (arith, e, le, fst))) in
          let low_ones = placed_below (follower ∷ others) (first_location next) placed in
          let setting : cond (number == first_location next) (location_at next (first_location next)).setting (set_at (last_frame (frames_in (follower ∷ others) (number + 1))))
          ≡ set_at (last_frame (frames_in (frame ∷ follower ∷ others) (number + 1))) =
          elim (cases_eq number (first_location next)) as (λ _. cond (number == first_location next) (location_at next (first_location next)).setting (set_at (last_frame (frames_in (follower ∷ others) (number + 1))))
          ≡ set_at (last_frame (frames_in (frame ∷ follower ∷ others) (number + 1)))) [
            | inl e ↦
                let up : frame.location ≡ number + 1 = omega (arith, e, at, fst) in
                let lone : frames_in (frame ∷ follower ∷ others) (number + 1) ≡ frame ∷ [] =
                in_here frame (follower ∷ others) (number + 1) up ∙ ap (λ items. frame ∷ items) (none_above (follower ∷ others) (first_location next) (number + 1) low_ones (omega (arith, e))) in
                cond-true _ _ _ (eq-eqb number (first_location next) e) ∙ ap (λ (location : Location). location.setting) copy_at
                ∙ sym planned ∙ ap (λ items. set_at (last_frame items)) (sym lone)
            | inr n ↦
                let off : frame.location ≡ number + 1 → ⊥ = λ e. n (omega (arith, e, at, fst)) in
                cond-false _ _ _ (ne_eqb number (first_location next) n) ∙ ap (λ items. set_at (last_frame items)) (sym (in_rest frame (follower ∷ others) (number + 1) off))
          ] in
          let unmarked : ((number == first_location next) && (location_at next (first_location next)).pending) ≡ false =
          elim (cases_eq number (first_location next)) as (λ _. ((number == first_location next) && (location_at next (first_location next)).pending) ≡ false) [
            | inl e ↦ ap (λ b. b && (location_at next (first_location next)).pending) (eq-eqb number (first_location next) e) ∙ ap (λ (location : Location). location.pending) copy_at
            | inr n ↦ ap (λ b. b && (location_at next (first_location next)).pending) (ne_eqb number (first_location next) n)
          ] in
          (λ i. record {
            device = Some (record { 0 = (last_frame (here i)).device });
            major = major i;
            word = word i;
            setting = setting i;
            pending = unmarked i || list_any (plans marks_location) (here i);
          }) ∙ (λ i. record {
            device = Some (record { 0 = (last_frame (frames_in (frame ∷ follower ∷ others) number)).device });
            major = was.major;
            word = was.word;
            setting = cond (sym not_first i) was.setting (set_at (last_frame (frames_in (frame ∷ follower ∷ others) (number + 1))));
            pending = ((sym not_first i) && was.pending) || list_any (plans marks_location) (frames_in (frame ∷ follower ∷ others) number);
          });
      left = λ follower others placed number more le.
          let j_is : number ≡ first_location packet = omega (arith, more, le, fst) in
          let low_ones = placed_below (follower ∷ others) (first_location next) placed in
          let only : frames_in (frame ∷ follower ∷ others) (first_location packet) ≡ frame ∷ [] =
          in_here frame (follower ∷ others) (first_location packet) at ∙ ap (λ items. frame ∷ items) (none_above (follower ∷ others) (first_location next) (first_location packet) low_ones (omega (arith, fst))) in
          let yes : (first_location packet == first_location packet) ≡ true = eq-eqb (first_location packet) (first_location packet) refl in
          let e : stood packet frame ≡ used_location packet (frame ∷ follower ∷ others) (first_location packet) =
          (λ i. record {
            device = Some (record { 0 = (last_frame (sym only i)).device });
            major = was.major;
            word = was.word;
            setting = was.setting;
            pending = was.pending || (sym (or-false (plans marks_location frame)) i);
          }) ∙ (λ i. record {
            device = Some (record { 0 = (last_frame (frames_in (frame ∷ follower ∷ others) (first_location packet))).device });
            major = was.major;
            word = was.word;
            setting = cond (sym yes i) was.setting (set_at (last_frame (frames_in (frame ∷ follower ∷ others) (first_location packet + 1))));
            pending = ((sym yes i) && was.pending) || list_any (plans marks_location) (sym only i);
          }) in
          let far : first_location packet ≡ first_location next → ⊥ = λ q. absurd (omega (arith, q, fst)) in
          ap (location_at next) j_is ∙ same_at (first_location packet) (omega arith) far ∙ s.here ∙ e ∙ ap (used_location packet (frame ∷ follower ∷ others)) (sym j_is);
      settings = λ number from. elim (cases_eq number (first_location next)) as (λ _. ((first_location packet ≤ number) × ((location_at next number).setting ≡ (location_at packet number).setting)) ⊎ ((location_at next number).setting ≡ set_at frame)) [
        | inl e ↦ inr (ap (λ k. (location_at next k).setting) e ∙ ap (λ (location : Location). location.setting) copy_at ∙ sym planned)
        | inr n ↦
            let one : 1 ≤ number = omega (arith, from) in
            let up : first_location packet ≤ number = omega (arith, from, n, fst) in
            inl (
              up,
              ap (λ (location : Location). location.setting) (same_at number one n) ∙ elim (cases_eq number (first_location packet)) as (λ _. (location_at q number).setting ≡ (location_at packet number).setting) [
                | inl e ↦ ap (λ k. (location_at q k).setting) e ∙ ap (λ (location : Location). location.setting) s.here ∙ ap (λ k. (location_at packet k).setting) (sym e)
                | inr o ↦ ap (λ (location : Location). location.setting) (s.other number one o)
              ],
            )
      ];
      rest = λ i. record (s.rest i) { locations = next.locations; current = next.current; preparation = next.preparation };
    }
