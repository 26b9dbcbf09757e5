-- The list of an entry settles the frames of a descent.
use Rattle.std.proofs.Common.{◌≡◌, ℕ, ◌+◌, ◌-◌, ◌<◌, suc, true, false, cond, List, [], ◌∷◌, ◌++◌, map, length, take, refl, sym, ◌∙◌, ap, subst, arith, append_assoc, Option, Some, None, MatchOption}
use Rattle.std.specs.Prelude.{EachIndex, slice_index_or, count_by}
use Rattle.std.specs.List.{AllByRecursion}
use Rattle.std.proofs.lemmas.List.Sums.{sum_by-cons}
use Rattle.irp_types.specs.Packet.{PacketValue}
use Rattle.irp_types.specs.Unwinding.{Asking, as_asked}
use Rattle.irp_types.specs.Stacks.{DevicesValue}
use Rattle.irp_types.specs.State.{Tables}
use Rattle.irp_types.specs.Descent.{Frame, plans, is_copying, is_passing, no_frame, last_frame, shown_to, dispatch_at, as_question, IsPlanOf, IsPlanned, question_at, questions_of}
use Rattle.irp_types.specs.declared.names.IrpRef.{IrpRef}
use Rattle.irp_types.specs.declared.names.DispatchId.{DispatchId}
use Rattle.irp_types.specs.declared.shown.Shown.{Shown}
use Rattle.irp_types.specs.declared.answer.Plan.{Plan}
use Rattle.irp_types.specs.declared.asked.Asked.{Asked}

-- how many copies a frame makes
abbrev copies : Frame → ℕ
copies frame = cond (plans is_copying frame) 1 0

-- the frames stand from location n down, one lower for each copy
abbrev pub ArePlaced : List Frame → ℕ → Type 0
ArePlaced frames n = EachIndex frames (λ place. (slice_index_or frames place no_frame).location + count_by (plans is_copying) (take place frames) ≡ n)

first_placed : (frame : Frame) (others : List Frame) (n : ℕ) → ArePlaced (frame ∷ others) n → frame.location ≡ n
first_placed frame others n placed = let first = placed 0 (omega arith) in omega (arith, first)

others_placed : (frame : Frame) (others : List Frame) (n : ℕ) → ArePlaced (frame ∷ others) n → ArePlaced others (n - copies frame)
others_placed frame others n placed place within =
    let at = placed (suc place) (omega arith) in
    let counted : count_by (plans is_copying) (frame ∷ take place others) ≡ copies frame + count_by (plans is_copying) (take place others) =
    sum_by-cons (λ given. cond (plans is_copying given) 1 0) frame (take place others) in
    omega (arith, at, counted)

-- the frames before the last pass the packet down
abbrev pub PassDown : List Frame → Type 0
PassDown frames = AllByRecursion (λ frame. plans is_passing frame ≡ true) (take (length frames - 1) frames)

first_passes : (frame next : Frame) (others : List Frame) → PassDown (frame ∷ next ∷ others) → (plans is_passing frame ≡ true) × PassDown (next ∷ others)
first_passes frame next others down =
    let count : length (frame ∷ next ∷ others) - 1 ≡ suc (length (next ∷ others) - 1) = omega arith in
    let all : AllByRecursion (λ given. plans is_passing given ≡ true) (take (suc (length (next ∷ others) - 1)) (frame ∷ next ∷ others)) =
    subst (λ n. AllByRecursion (λ given. plans is_passing given ≡ true) (take n (frame ∷ next ∷ others))) count down in
    (all.0, all.1)

-- a dispatch's question, if there is one, is the first item of the list, and has the plan
same_plan : (tables : Tables) (shown : Shown) (found : Option DispatchId) (one two : Option Plan) (after_one after_two : List Asked)
    → MatchOption found (one ≡ None) (λ dispatch. IsPlanOf tables dispatch shown one)
    → MatchOption found (two ≡ None) (λ dispatch. IsPlanOf tables dispatch shown two)
    → as_question shown found one ++ after_one ≡ as_question shown found two ++ after_two
    → (one ≡ two) × (after_one ≡ after_two)
same_plan tables shown None one two after_one after_two planned_one planned_two same = (planned_one ∙ sym planned_two, same)
same_plan tables shown (Some dispatch) one two after_one after_two planned_one planned_two same =
    let first = planned_one.1 in
    let second = planned_two.1 in
    let is_first : one ≡ Some first = planned_one.3 in
    let is_second : two ≡ Some second = planned_two.3 in
    let lists : as_question shown (Some dispatch) (Some first) ++ after_one ≡ as_question shown (Some dispatch) (Some second) ++ after_two =
    ap (λ plan. as_question shown (Some dispatch) plan ++ after_one) (sym is_first) ∙ same ∙ ap (λ plan. as_question shown (Some dispatch) plan ++ after_two) is_second in
    let plan : first ≡ second = cc in
    let after : after_one ≡ after_two = cc in
    (is_first ∙ ap Some plan ∙ sym is_second, after)

module _ (tables : Tables) (irp : IrpRef) (devices : DevicesValue) (packet : PacketValue) where
  abbrev pub question : Frame → List Asked
  question frame = question_at tables devices frame (shown_to irp packet devices frame)

  abbrev pub questions : List Frame → List Asked
  questions frames = questions_of tables irp packet devices frames

  -- a frame is settled by its device, its location and what was asked from there on
  same_frame : (one two : Frame) (after_one after_two : List Asked) → one.device ≡ two.device → one.location ≡ two.location
      → IsPlanned tables irp packet devices one → IsPlanned tables irp packet devices two
      → question one ++ after_one ≡ question two ++ after_two → (one ≡ two) × (after_one ≡ after_two)
  same_frame one two after_one after_two device location planned_one planned_two same =
      let moved : Frame = record { device = two.device; location = two.location; plan = one.plan } in
      let is_moved : one ≡ moved = λ i. record { device = device i; location = location i; plan = one.plan } in
      let planned_moved : IsPlanned tables irp packet devices moved = subst (IsPlanned tables irp packet devices) is_moved planned_one in
      let shown = shown_to irp packet devices two in
      let lists : question moved ++ after_one ≡ question two ++ after_two = ap (λ frame. question frame ++ after_one) (sym is_moved) ∙ same in
      let settled = same_plan tables shown (dispatch_at tables devices two.device shown.major) one.plan two.plan after_one after_two planned_moved planned_two lists in
      let plan = settled.0 in
      (is_moved ∙ (λ i. record { device = two.device; location = two.location; plan = plan i }), settled.1)

  -- frames from location n down, on the first of these devices
  pub record AreRun (down : List ℕ) (n : ℕ) (frames : List Frame) : Type 0 where
    pub some : 0 < length frames
    pub devices_are : map (λ frame. frame.device) frames ≡ take (length frames) down
    pub placed : ArePlaced frames n
    pub passing : PassDown frames
    pub stops : plans is_passing (last_frame frames) ≡ false
    pub planned : AllByRecursion (IsPlanned tables irp packet devices) frames

  run_on : (device : ℕ) (down : List ℕ) (n : ℕ) (frame next : Frame) (others : List Frame) → AreRun (device ∷ down) n (frame ∷ next ∷ others)
      → (plans is_passing frame ≡ true) × AreRun down (n - copies frame) (next ∷ others)
  run_on device down n frame next others run =
      let passing = first_passes frame next others run.passing in
      let names : frame.device ∷ map (λ given. given.device) (next ∷ others) ≡ device ∷ take (length (next ∷ others)) down = run.devices_are in
      let devices_are : map (λ given. given.device) (next ∷ others) ≡ take (length (next ∷ others)) down = cc in (
        passing.0,
        record {
          some = omega arith;
          devices_are = devices_are;
          placed = others_placed frame (next ∷ others) n run.placed;
          passing = passing.1;
          stops = run.stops;
          planned = run.planned.1;
        },
      )

  -- two runs down the same devices with the same list of questions, and of completion routines after these
  pub record AreAlike (down : List ℕ) (n : ℕ) (one two : List Frame) (after_one after_two : List Asking) : Type 0 where
    pub run_one : AreRun down n one
    pub run_two : AreRun down n two
    pub listed : questions one ++ map as_asked after_one ≡ questions two ++ map as_asked after_two

  heads_alike : (device : ℕ) (down : List ℕ) (n : ℕ) (head first : Frame) (tail others : List Frame) (after_one after_two : List Asking)
      → AreAlike (device ∷ down) n (head ∷ tail) (first ∷ others) after_one after_two
      → (head ≡ first) × (questions tail ++ map as_asked after_one ≡ questions others ++ map as_asked after_two)
  heads_alike device down n head first tail others after_one after_two alike =
      let names_one : head.device ∷ map (λ given. given.device) tail ≡ device ∷ take (length tail) down = alike.run_one.devices_are in
      let names_two : first.device ∷ map (λ given. given.device) others ≡ device ∷ take (length others) down = alike.run_two.devices_are in
      let same_device : head.device ≡ first.device = cc in
      let same_location : head.location ≡ first.location = first_placed head tail n alike.run_one.placed ∙ sym (first_placed first others n alike.run_two.placed) in
      let lists : question head ++ (questions tail ++ map as_asked after_one) ≡ question first ++ (questions others ++ map as_asked after_two) =
      sym (append_assoc (question head) (questions tail) (map as_asked after_one)) ∙ alike.listed ∙ append_assoc (question first) (questions others) (map as_asked after_two) in
      same_frame head first (questions tail ++ map as_asked after_one) (questions others ++ map as_asked after_two) same_device same_location
      alike.run_one.planned.0 alike.run_two.planned.0 lists

  -- the frames, and the questions after those of dispatches, are the same
  abbrev pub AreSame : List Frame → List Frame → List Asking → List Asking → Type 0
  AreSame one two after_one after_two = (one ≡ two) × (map as_asked after_one ≡ map as_asked after_two)

  tails_alike : (device : ℕ) (down : List ℕ) (n : ℕ) (head first : Frame) (tail others : List Frame) (after_one after_two : List Asking)
      → AreAlike (device ∷ down) n (head ∷ tail) (first ∷ others) after_one after_two
      → head ≡ first
      → questions tail ++ map as_asked after_one ≡ questions others ++ map as_asked after_two
      → ((m : ℕ) (one two : List Frame) → AreAlike down m one two after_one after_two → AreSame one two after_one after_two)
      → AreSame tail others after_one after_two
  tails_alike device down n head first [] [] after_one after_two alike same lists further = (refl, lists)
  tails_alike device down n head first [] (next ∷ rest) after_one after_two alike same lists further =
      let passes : plans is_passing first ≡ true = (run_on device down n first next rest alike.run_two).0 in
      let stops : plans is_passing first ≡ false = ap (plans is_passing) (sym same) ∙ alike.run_one.stops in
      absurd (cc)
  tails_alike device down n head first (next ∷ rest) [] after_one after_two alike same lists further =
      let passes : plans is_passing head ≡ true = (run_on device down n head next rest alike.run_one).0 in
      let stops : plans is_passing head ≡ false = ap (plans is_passing) same ∙ alike.run_two.stops in
      absurd (cc)
  tails_alike device down n head first (next ∷ rest) (later ∷ last) after_one after_two alike same lists further =
      further (n - copies head) (next ∷ rest) (later ∷ last) (record {
        run_one = (run_on device down n head next rest alike.run_one).1;
        run_two = subst (λ frame. AreRun down (n - copies frame) (later ∷ last)) (sym same) (run_on device down n first later last alike.run_two).1;
        listed = lists;
      })

  pub same_frames : (down : List ℕ) (n : ℕ) (one two : List Frame) (after_one after_two : List Asking) → AreAlike down n one two after_one after_two → AreSame one two after_one after_two
  same_frames down n [] two after_one after_two alike = let some : 0 < length {A = Frame} [] = alike.run_one.some in absurd (omega (arith, some))
  same_frames down n (head ∷ tail) [] after_one after_two alike = let some : 0 < length {A = Frame} [] = alike.run_two.some in absurd (omega (arith, some))
  same_frames [] n (head ∷ tail) (first ∷ others) after_one after_two alike =
      let names : head.device ∷ map (λ given. given.device) tail ≡ [] = alike.run_one.devices_are in
      absurd (cc)
  same_frames (device ∷ down) n (head ∷ tail) (first ∷ others) after_one after_two alike =
      let heads = heads_alike device down n head first tail others after_one after_two alike in
      let same : head ≡ first = heads.0 in
      let tails = tails_alike device down n head first tail others after_one after_two alike same heads.1
      (λ m one two further. same_frames down m one two after_one after_two further) in
      let rest : tail ≡ others = tails.0 in
      (λ i. same i ∷ rest i, tails.1)
