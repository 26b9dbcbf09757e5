-- Where each closure has one answer to what it is shown, a descent settles its frames, what it asks and what it leaves.
use Rattle.std.proofs.Common.{◌≡◌, ℕ, ◌+◌, ◌-◌, ◌<◌, ◌≤◌, suc, true, false, cond, List, [], ◌∷◌, ◌++◌, map, length, take, reverse, get_or, refl, sym, ◌∙◌, ap, subst, arith, Option, Some, None, MatchOption, inl, inr}
use Rattle.std.specs.List.{count_by, AllByRecursion}
use Rattle.std.proofs.lemmas.Bool.{cases_lt}
use Rattle.std.proofs.lemmas.List.{ext_get_or}
use Rattle.std.proofs.lemmas.List.Sums.{sum_by-cons}
use Rattle.irp_types.specs.Packet.{PacketValue, size_of, location_at, cleared, with_status}
use Rattle.irp_types.specs.Unwinding.{Asking, as_asked, unwound_packet, Unwound}
use Rattle.irp_types.specs.Stacks.{DevicesValue, stack_of, stack_size_of}
use Rattle.irp_types.specs.State.{Tables}
use Rattle.irp_types.specs.Status.{invalid_device_request}
use Rattle.irp_types.specs.Descent.{Frame, plans, is_copying, is_passing, first_location, last_frame, shown_to, dispatch_at, as_question, IsPlanOf, IsPlanned, question_at, questions_of, PassedDown, Ends, replied_status, Descended}
use Rattle.irp_types.specs.declared.location.Preparation.TheVariants.{Nothing}
use Rattle.irp_types.specs.declared.names.IrpRef.{IrpRef}
use Rattle.irp_types.specs.declared.status.Status.{Status}
use Rattle.irp_types.specs.declared.names.DispatchId.{DispatchId}
use Rattle.irp_types.specs.declared.routine.RoutineId.{RoutineId}
use Rattle.irp_types.specs.declared.shown.Shown.{Shown}
use Rattle.irp_types.specs.declared.answer.Answer.{Answer}
use Rattle.irp_types.specs.declared.answer.Plan.{Plan}
use Rattle.irp_types.specs.declared.answer.Plan.TheVariants.{Finish, Hold, HoldSlot, Skip, Forward, ForwardPend}
use Rattle.irp_types.specs.declared.asked.Asked.{Asked}
use Rattle.irp_types.specs.declared.names.CancelId.{CancelId}
use Rattle.irp_types.specs.declared.answer.CancelAnswer.{CancelAnswer}
use Rattle.irp_unwind.specs.Laws.{IsReplyOf}
use Rattle.irp_unwind.proofs.Frames.{IsPlaced, placed_first, last_low}
use Rattle.irp_unwind.proofs.Settled.{same_asking}

pub all_split : {X : Type 0} (P : X → Type 0) (xs ys : List X) → AllByRecursion P (xs ++ ys) → AllByRecursion P xs × AllByRecursion P ys
all_split P [] ys a = (tt, a)
all_split P (x ∷ xs) ys a = let b = all_split P xs ys a.1 in ((a.0, b.0), b.1)

placed_tail : (frame : Frame) (frames : List Frame) (n : ℕ) → IsPlaced (frame ∷ frames) n → IsPlaced frames (n - cond (plans is_copying frame) 1 0)
placed_tail frame frames n placed k h =
    let e = placed (suc k) (omega arith) in
    let c : count_by (plans is_copying) (frame ∷ take k frames) ≡ cond (plans is_copying frame) 1 0 + count_by (plans is_copying) (take k frames) =
    sum_by-cons (λ x. cond (plans is_copying x) 1 0) frame (take k frames) in
    omega (arith, e, c)

passes_tail : (frame other : Frame) (others : List Frame) → AllByRecursion (λ frame. plans is_passing frame ≡ true) (take (length (frame ∷ other ∷ others) - 1) (frame ∷ other ∷ others))
    → (plans is_passing frame ≡ true) × AllByRecursion (λ frame. plans is_passing frame ≡ true) (take (length (other ∷ others) - 1) (other ∷ others))
passes_tail frame other others a =
    let e : length (frame ∷ other ∷ others) - 1 ≡ suc (length (other ∷ others) - 1) = omega arith in
    let b : AllByRecursion (λ frame. plans is_passing frame ≡ true) (take (suc (length (other ∷ others) - 1)) (frame ∷ other ∷ others)) = subst (λ n. AllByRecursion (λ frame. plans is_passing frame ≡ true) (take n (frame ∷ other ∷ others))) e a in
    (b.0, b.1)

module _ (planned_by : DispatchId → Shown → Plan) (reply : RoutineId → Shown → Answer) (cancel_reply : CancelId → Shown → CancelAnswer) (tables : Tables) (irp : IrpRef) (devices : DevicesValue) (packet : PacketValue) where
  abbrev Told : Asked → Type 0
  Told = IsReplyOf planned_by reply cancel_reply

  -- a frame is settled by its device, its location and what its dispatch was told to answer
  same_frame : (frame other : Frame) → frame.device ≡ other.device → frame.location ≡ other.location → IsPlanned tables irp packet devices frame → IsPlanned tables irp packet devices other
      → AllByRecursion Told (question_at tables devices frame (shown_to irp packet devices frame)) → AllByRecursion Told (question_at tables devices other (shown_to irp packet devices other)) → frame ≡ other
  same_frame frame other d l a b ta tb =
      let one : Frame = record { device = other.device; location = other.location; plan = frame.plan } in
      let e : frame ≡ one = λ i. record { device = d i; location = l i; plan = frame.plan } in
      let a' : IsPlanned tables irp packet devices one = subst (IsPlanned tables irp packet devices) e a in
      let ta' : AllByRecursion Told (question_at tables devices one (shown_to irp packet devices one)) = subst (λ h. AllByRecursion Told (question_at tables devices h (shown_to irp packet devices h))) e ta in
      let shown = shown_to irp packet devices other in
      let same : frame.plan ≡ other.plan = by_dispatch (dispatch_at tables devices other.device shown.major) shown frame.plan other.plan a' b ta' tb in
      e ∙ (λ i. record { device = other.device; location = other.location; plan = same i })
    where
      by_dispatch : (o : Option DispatchId) (shown : Shown) (x y : Option Plan)
          → MatchOption o (x ≡ None) (λ id. IsPlanOf tables id shown x)
          → MatchOption o (y ≡ None) (λ id. IsPlanOf tables id shown y)
          → AllByRecursion Told (as_question shown o x) → AllByRecursion Told (as_question shown o y) → x ≡ y
      by_dispatch None shown x y a b ta tb = a ∙ sym b
      by_dispatch (Some id) shown x y a b ta tb =
          let tx : AllByRecursion Told (as_question shown (Some id) (Some a.1)) = subst (λ z. AllByRecursion Told (as_question shown (Some id) z)) a.3 ta in
          let ty : AllByRecursion Told (as_question shown (Some id) (Some b.1)) = subst (λ z. AllByRecursion Told (as_question shown (Some id) z)) b.3 tb in
          a.3 ∙ ap Some (tx.0 ∙ sym ty.0) ∙ sym b.3

  -- frames from location n down, on the first devices of floors
  record IsRun (floors : List ℕ) (n : ℕ) (frames : List Frame) : Type 0 where
    some : 0 < length frames
    devices_are : map (λ frame. frame.device) frames ≡ take (length frames) floors
    placed : IsPlaced frames n
    down : AllByRecursion (λ frame. plans is_passing frame ≡ true) (take (length frames - 1) frames)
    stops : plans is_passing (last_frame frames) ≡ false
    planned : AllByRecursion (IsPlanned tables irp packet devices) frames
    told : AllByRecursion Told (questions_of tables irp packet devices frames)

  run_tail : (r : ℕ) (floors : List ℕ) (n : ℕ) (frame other : Frame) (others : List Frame) → IsRun (r ∷ floors) n (frame ∷ other ∷ others) → (plans is_passing frame ≡ true) × IsRun floors (n - cond (plans is_copying frame) 1 0) (other ∷ others)
  run_tail r floors n frame other others a =
      let d = passes_tail frame other others a.down in
      let e : frame.device ∷ map (λ frame. frame.device) (other ∷ others) ≡ r ∷ take (length (other ∷ others)) floors = a.devices_are in
      let devices_are : map (λ frame. frame.device) (other ∷ others) ≡ take (length (other ∷ others)) floors = cc in (
        d.0,
        record {
          some = omega arith;
          devices_are = devices_are;
          placed = placed_tail frame (other ∷ others) n a.placed;
          down = d.1;
          stops = a.stops;
          planned = a.planned.1;
          told = (all_split Told (question_at tables devices frame (shown_to irp packet devices frame)) (questions_of tables irp packet devices (other ∷ others)) a.told).1;
        },
      )

  same_heads : (r : ℕ) (floors : List ℕ) (n : ℕ) (frame other : Frame) (frames others : List Frame) → IsRun (r ∷ floors) n (frame ∷ frames) → IsRun (r ∷ floors) n (other ∷ others) → frame ≡ other
  same_heads r floors n frame other frames others a b =
      let ef : frame.device ∷ map (λ frame. frame.device) frames ≡ r ∷ take (length frames) floors = a.devices_are in
      let eg : other.device ∷ map (λ frame. frame.device) others ≡ r ∷ take (length others) floors = b.devices_are in
      let d : frame.device ≡ other.device = cc in
      let l : frame.location ≡ other.location = placed_first frame frames n a.placed ∙ sym (placed_first other others n b.placed) in
      same_frame frame other d l a.planned.0 b.planned.0
      (all_split Told (question_at tables devices frame (shown_to irp packet devices frame)) (questions_of tables irp packet devices frames) a.told).0
      (all_split Told (question_at tables devices other (shown_to irp packet devices other)) (questions_of tables irp packet devices others) b.told).0

  same_tails : (r : ℕ) (floors : List ℕ) (n : ℕ) (frame other : Frame) (frames others : List Frame) → IsRun (r ∷ floors) n (frame ∷ frames) → IsRun (r ∷ floors) n (other ∷ others) → frame ≡ other
      → ((m : ℕ) (hs ks : List Frame) → IsRun floors m hs → IsRun floors m ks → hs ≡ ks) → frames ≡ others
  same_tails r floors n frame other [] [] a b e rec = refl
  same_tails r floors n frame other [] (h ∷ hs) a b e rec =
      let on : plans is_passing other ≡ true = (run_tail r floors n other h hs b).0 in
      let off : plans is_passing other ≡ false = ap (plans is_passing) (sym e) ∙ a.stops in
      absurd (cc)
  same_tails r floors n frame other (h ∷ hs) [] a b e rec =
      let on : plans is_passing frame ≡ true = (run_tail r floors n frame h hs a).0 in
      let off : plans is_passing frame ≡ false = ap (plans is_passing) e ∙ b.stops in
      absurd (cc)
  same_tails r floors n frame other (h ∷ hs) (k ∷ ks) a b e rec =
      rec (n - cond (plans is_copying frame) 1 0) (h ∷ hs) (k ∷ ks) (run_tail r floors n frame h hs a).1
      (subst (λ q. IsRun floors (n - cond (plans is_copying q) 1 0) (k ∷ ks)) (sym e) (run_tail r floors n other k ks b).1)

  same_frames : (floors : List ℕ) (n : ℕ) (frames others : List Frame) → IsRun floors n frames → IsRun floors n others → frames ≡ others
  same_frames floors n [] others a b = let h : 0 < length {A = Frame} [] = a.some in absurd (omega (arith, h))
  same_frames floors n (frame ∷ frames) [] a b = let h : 0 < length {A = Frame} [] = b.some in absurd (omega (arith, h))
  same_frames [] n (frame ∷ frames) (other ∷ others) a b =
      let e : frame.device ∷ map (λ frame. frame.device) frames ≡ [] = a.devices_are in
      absurd (cc)
  same_frames (r ∷ floors) n (frame ∷ frames) (other ∷ others) a b =
      let e : frame ≡ other = same_heads r floors n frame other frames others a b in
      let rest : frames ≡ others = same_tails r floors n frame other frames others a b e (λ m hs ks x y. same_frames floors m hs ks x y) in
      λ i. e i ∷ rest i

  same_reached : (frames : List Frame) (m n : PacketValue) → PassedDown packet frames m → PassedDown packet frames n → m ≡ n
  same_reached frames m n a b =
      let e : m.locations ≡ n.locations = ext_get_or cleared m.locations n.locations (a.size ∙ sym b.size) (λ i h.
      let at : location_at m (i + 1) ≡ location_at n (i + 1) = elim (cases_lt (i + 1) (last_frame frames).location) as (λ _. location_at m (i + 1) ≡ location_at n (i + 1)) [
        | inl low ↦ a.below (i + 1) (omega arith) low ∙ sym (b.below (i + 1) (omega arith) low)
        | inr up ↦ elim (cases_lt (first_location packet) (i + 1)) as (λ _. location_at m (i + 1) ≡ location_at n (i + 1)) [
          | inl high ↦ a.above (i + 1) high ∙ sym (b.above (i + 1) high)
          | inr mid ↦
              let from : (last_frame frames).location ≤ i + 1 = omega arith in
              let to : i + 1 ≤ first_location packet = omega arith in
              a.used (i + 1) from to ∙ sym (b.used (i + 1) from to)
        ]
      ] in
      let one : (i + 1) - 1 ≡ i = omega arith in
      sym (ap (λ k. get_or m.locations k cleared) one) ∙ at ∙ ap (λ k. get_or n.locations k cleared) one) in
      a.others ∙ (λ i. record packet { locations = e i; current = (last_frame frames).location; preparation = Nothing }) ∙ sym b.others

  told_asking : (A : List Asking) → AllByRecursion Told (map as_asked A) → AllByRecursion (λ x. x.answer ≡ reply x.id x.shown) A
  told_asking [] a = tt
  told_asking (x ∷ A) a = (a.0, told_asking A a.1)

  same_unwinding : (q n m : PacketValue) (A B : List Asking) → 1 ≤ q.current → q.current ≤ length q.locations → Unwound irp q A n → Unwound irp q B m
      → AllByRecursion (λ x. x.answer ≡ reply x.id x.shown) A → AllByRecursion (λ x. x.answer ≡ reply x.id x.shown) B → (A ≡ B) × (n ≡ m)
  same_unwinding q n m A B some h u w ma mb =
      let frame : length q.locations ≤ q.current + length q.locations = omega arith in
      let e : A ≡ B = same_asking (λ id shown a. a ≡ reply id shown) (λ id shown a b ea eb. ea ∙ sym eb) irp (length q.locations) q n m A B some h frame u w ma mb in
      (e, u.left ∙ ap (unwound_packet q) e ∙ sym w.left)

  same_end : (frame : Frame) (plan : Option Plan) (mid n m : PacketValue) (A B : List Asking) → 1 ≤ mid.current → mid.current ≤ length mid.locations
      → Ends irp frame mid A n plan → Ends irp frame mid B m plan
      → AllByRecursion (λ x. x.answer ≡ reply x.id x.shown) A → AllByRecursion (λ x. x.answer ≡ reply x.id x.shown) B → (A ≡ B) × (n ≡ m)
  same_end frame None mid n m A B some h u w ma mb = same_unwinding (with_status mid invalid_device_request 0) n m A B some h u w ma mb
  same_end frame (Some (Finish status information)) mid n m A B some h u w ma mb = same_unwinding (with_status mid status information) n m A B some h u w ma mb
  same_end frame (Some (Hold cancel)) mid n m A B some h u w ma mb = (u.0 ∙ sym w.0, u.1 ∙ sym w.1)
  same_end frame (Some HoldSlot) mid n m A B some h u w ma mb = (u.0 ∙ sym w.0, u.1 ∙ sym w.1)
  same_end frame (Some Skip) mid n m A B some h u w ma mb = absurd u
  same_end frame (Some (Forward set)) mid n m A B some h u w ma mb = absurd u
  same_end frame (Some (ForwardPend set)) mid n m A B some h u w ma mb = absurd u

  pub same_descent : (target : ℕ) (n m : PacketValue) (A B : List Asked) (x y : Status) → packet.current ≤ size_of packet + 1
      → (first : Descended tables irp devices packet target A n x) → (second : Descended tables irp devices packet target B m y)
      → AllByRecursion Told A → AllByRecursion Told B → (first.frames ≡ second.frames) × (A ≡ B) × (n ≡ m) × (x ≡ y)
  same_descent target n m A B x y high a b ta tb =
      let sa = all_split Told (questions_of tables irp packet devices a.frames) (map as_asked a.unwinding) (subst (AllByRecursion Told) a.listed ta) in
      let sb = all_split Told (questions_of tables irp packet devices b.frames) (map as_asked b.unwinding) (subst (AllByRecursion Told) b.listed tb) in
      let floors = reverse (take (stack_size_of devices target) (stack_of devices target)) in
      let ra : IsRun floors (first_location packet) a.frames = record {
        some = a.right.some;
        devices_are = a.right.devices_are;
        placed = a.right.locations;
        down = a.right.down;
        stops = a.right.stops;
        planned = a.right.planned;
        told = sa.0;
      } in
      let rb : IsRun floors (first_location packet) b.frames = record {
        some = b.right.some;
        devices_are = b.right.devices_are;
        placed = b.right.locations;
        down = b.right.down;
        stops = b.right.stops;
        planned = b.right.planned;
        told = sb.0;
      } in
      let e : a.frames ≡ b.frames = same_frames floors (first_location packet) a.frames b.frames ra rb in
      let pb : PassedDown packet a.frames b.reached = subst (λ frames. PassedDown packet frames b.reached) (sym e) b.passed in
      let em : b.reached ≡ a.reached = same_reached a.frames b.reached a.reached pb a.passed in
      let fb : Ends irp (last_frame a.frames) a.reached b.unwinding m (last_frame a.frames).plan =
      subst (λ (z : List Frame × PacketValue). Ends irp (last_frame z.0) z.1 b.unwinding m (last_frame z.0).plan) (λ i. (sym e i, em i)) b.ended in
      let cur : a.reached.current ≡ (last_frame a.frames).location = ap (λ (z : PacketValue). z.current) a.passed.others in
      let size : length a.reached.locations ≡ size_of packet = a.passed.size in
      let some : 1 ≤ a.reached.current = omega (arith, a.passed.lowest, cur) in
      let low : (last_frame a.frames).location ≤ first_location packet = last_low a.frames (first_location packet) a.right.some a.right.locations in
      let one : 1 ≤ (last_frame a.frames).location = a.passed.lowest in
      let within : a.reached.current ≤ length a.reached.locations = omega arith in
      let ends = same_end (last_frame a.frames) (last_frame a.frames).plan a.reached n m a.unwinding b.unwinding some within a.ended fb (told_asking a.unwinding sa.1) (told_asking b.unwinding sb.1) in (
        e,
        a.listed ∙ (λ i. questions_of tables irp packet devices (e i) ++ map as_asked (ends.0 i)) ∙ sym b.listed,
        ends.1,
        a.replied ∙ ap replied_status e ∙ sym b.replied,
      )
