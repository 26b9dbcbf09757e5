-- The setup of a script is made whole: each of its steps is one atomic step of its seat.
use Rattle.std.proofs.Common.{◌≡◌, ◌≢◌, ℕ, ◌+◌, ◌<◌, ◌^◌, suc, Bool, true, false, List, [], ◌∷◌, drop, length, get_or, replicate, set, Option, Some, None, refl, sym, ap, subst, ◌∙◌, inl, inr, arith, if◌then◌else◌}
use Rattle.std.specs.Prelude.{cond, slice_get}
use Rattle.std.specs.List.{AllByRecursion, find}
use Rattle.std.specs.Option.{option_and_then}
use Rattle.std.proofs.lemmas.Bool.{cases_eq, eq-eqb, lt-leb, lt-ltb, ne_eqb}
use Rattle.std.proofs.lemmas.List.{get_or-replicate, get_or-set_other, get_or-set_same, length-replicate, length-set}
use Rattle.std.proofs.lemmas.List.Elements.{recursion_from_All}
use Rattle.std.proofs.lemmas.Option.{none-some, same_Some, slice_get-get_or}
use Rattle.irp_types.specs.declared.names.IrpRef.{IrpRef}
use Rattle.irp_transcript.specs.declared.header.Header.{Header}
use Rattle.irp_transcript.specs.declared.word_line.WordReply.TheVariants.{NoToken}
use Rattle.irp_script_reader.specs.Forms.{suits_setup}
use Rattle.irp_script_reader.specs.Sound.{IsSound}
use Rattle.irp_script_reader.specs.declared.act.Step.{Step}
use Rattle.irp_script_reader.specs.declared.act.StepAct.{StepAct}
use Rattle.irp_script_reader.specs.declared.act.StepAct.TheVariants as does
use Rattle.irp_script_reader.specs.declared.script.ScriptParts.{ScriptParts}
use Rattle.irp_plain.specs.Changes.{only, told}
use Rattle.irp_plain.specs.Lists.{with_item}
use Rattle.irp_plain.specs.Seats.{SeatValue, new_seat, after_step, made_after, one_more, stage_after}
use Rattle.irp_plain.specs.declared.answered.Answered.{Answered}
use Rattle.irp_plain.specs.declared.answered.Answered.TheVariants.{Reply as Replied, Word}
use Rattle.irp_plain.specs.declared.parts.After.TheVariants.{In, Told}
use Rattle.irp_plain.specs.declared.parts.Change.{Change}
use Rattle.irp_plain.specs.declared.parts.Given.{Given}
use Rattle.irp_plain.specs.declared.parts.Stage.{Stage}
use Rattle.irp_plain.specs.declared.parts.Stage.TheVariants.{Between, Read}
use Rattle.irp_machine.specs.declared.parts.Calling.{Calling}
use Rattle.irp_machine.specs.declared.parts.Next.{Next}
use Rattle.irp_machine.specs.declared.parts.Next.TheVariants.{Changes, Calls}
use Rattle.irp_machine.specs.declared.parts.Planned.{Planned}
use Rattle.irp_machine.specs.Headers.{IsHeaderOf}
use Rattle.irp_machine.specs.Conditions.{act_now, holds, is_due}
use Rattle.irp_machine.specs.Machine.{RulesValue, IsNext, StepsTo, act_of, seat_at}
use Rattle.irp_steps.specs.Labels.{packet_of}
use Rattle.irp_machine.specs.Next.{after_call, binding, is_tokenless, naming, naming_at, next_by, next_of, with_packet}
use Rattle.irp_machine.specs.Openings.{IsStuck, first_standing, rules_of, seats_of}
use Rattle.irp_machine.specs.Planning.{is_bound_elsewhere, is_named_elsewhere, own_acts, planned}
use Rattle.irp_machine.specs.Standings.{StandingValue, with_given}
use Rattle.irp_machine.proofs.Stuck.{Stops, stops_of}
use Rattle.irp_machine.proofs.Plans.{acts_at, left_rest, left_within, own_few}

-- ---- one step

-- a step that ends its act, and gives nothing
abbrev Ends : Change → Type 0
Ends change = (answer : Answered) × (change.after ≡ Told answer) × (change.gives ≡ None)

module _ (rules : RulesValue) (standing : StandingValue) (seat : ℕ) (act : Planned) where
  -- each change that can come next ends the act
  abbrev EndsBy : Next → Type 0
  EndsBy next = (change : Change) → IsNext rules standing seat act next change → Ends change

  told_ends : EndsBy (Changes (told NoToken))
  told_ends change is = subst Ends (sym is) (Word NoToken, refl, refl)

  call_ends : (call : Calling) → act.binds_alone ≡ false → EndsBy (Calls call)
  call_ends call bound change is =
      let after = ap (λ alone. after_call alone (binding act.act is.reply) is.reply) bound in
      subst Ends (sym is.changes) (Replied is.reply, after, refl)

  packet_ends : (own : SeatValue) (does : StepAct) (irp : IrpRef) → suits_setup does ≡ true → act.binds_alone ≡ false → EndsBy (with_packet standing own does irp)
  packet_ends own (does.Call call) irp suits bound = call_ends _ bound
  packet_ends own (does.Allocate size label) irp suits bound = call_ends _ bound
  packet_ends own (does.OnLock on) irp suits bound = call_ends _ bound
  packet_ends own (does.Hand hand) irp suits bound = call_ends _ bound
  packet_ends own (does.Publish slot named) irp suits bound = (let bad : ⊥ = cc in absurd bad)
  packet_ends own (does.Withdraw slot) irp suits bound = call_ends _ bound
  packet_ends own (does.Request slot) irp suits bound = call_ends _ bound

  module _ (own : SeatValue) (between : own.stage ≡ Between) (read : act.reads_alone ≡ false) (bound : act.binds_alone ≡ false) (suits : suits_setup act.act ≡ true) where
    between_ends : (alone : Bool) → alone ≡ false
        → EndsBy (if alone then Changes (only (In (Read (packet_of standing.labels act.act))))
        else with_packet standing own act.act (packet_of standing.labels act.act))
    between_ends true is = (let bad : ⊥ = cc in absurd bad)
    between_ends false is = packet_ends own act.act (packet_of standing.labels act.act) suits bound

    naming_ends : EndsBy (naming standing own act)
    naming_ends = subst (λ (stage : Stage). EndsBy (naming_at stage standing own act)) (sym between) (between_ends act.reads_alone read)

    token_ends : (tokenless : Bool) → EndsBy (if tokenless then Changes (told NoToken) else naming standing own act)
    token_ends true = told_ends
    token_ends false = naming_ends

    act_ends : (does : StepAct) → suits_setup does ≡ true → EndsBy (next_by does standing own act)
    act_ends (does.Call call) suited = token_ends (is_tokenless own.taken act.act)
    act_ends (does.Allocate size label) suited = token_ends (is_tokenless own.taken act.act)
    act_ends (does.OnLock on) suited = (let bad : ⊥ = cc in absurd bad)
    act_ends (does.Hand hand) suited = (let bad : ⊥ = cc in absurd bad)
    act_ends (does.Publish slot named) suited = (let bad : ⊥ = cc in absurd bad)
    act_ends (does.Withdraw slot) suited = (let bad : ⊥ = cc in absurd bad)
    act_ends (does.Request slot) suited = (let bad : ⊥ = cc in absurd bad)

    next_ends : EndsBy (next_of standing own act)
    next_ends = act_ends act.act suits

-- ---- seats behind it

none_elsewhere : (seat : ℕ) (label : Option ℕ) → is_bound_elsewhere [] seat label ≡ false
none_elsewhere seat None = refl
none_elsewhere seat (Some label) = refl

none_named : (seat : ℕ) (label : Option ℕ) → is_named_elsewhere [] seat label ≡ false
none_named seat None = refl
none_named seat (Some label) = refl

changed_seat : (seats : List SeatValue) (seat : ℕ) (after : SeatValue) → seat < length seats → get_or (with_item seat after seats) seat new_seat ≡ after
changed_seat seats seat after below =
    ap (λ (test : Bool). get_or (if test then set seats seat after else seats) seat new_seat) (lt-ltb seat (length seats) below)
    ∙ get_or-set_same seats seat after new_seat below

other_seat : (seats : List SeatValue) (seat other : ℕ) (after : SeatValue) → seat < length seats → other ≢ seat
    → get_or (with_item seat after seats) other new_seat ≡ get_or seats other new_seat
other_seat seats seat other after below apart =
    ap (λ (test : Bool). get_or (if test then set seats seat after else seats) other new_seat) (lt-ltb seat (length seats) below)
    ∙ get_or-set_other seats seat other after new_seat apart

as_many : (seats : List SeatValue) (seat : ℕ) (after : SeatValue) → seat < length seats → length (with_item seat after seats) ≡ length seats
as_many seats seat after below =
    ap (λ (test : Bool). length (if test then set seats seat after else seats)) (lt-ltb seat (length seats) below)
    ∙ length-set seats seat after

-- ---- all steps

module _ (header : Header) (script : ScriptParts) (few : length script.setup < 2 ^ 32) where
  abbrev setting : RulesValue
  setting = rules_of header script [] script.setup false

  -- each seat is between two acts, and what it has left are its acts of the rest of the steps
  record AreLeft (standing : StandingValue) (rest : List Step) (place : ℕ) : Type 0 where
    many : length standing.seats ≡ script.seats
    left : (seat : ℕ) → seat < script.seats → drop (seat_at standing seat).made (own_acts [] script.setup 0 0 seat) ≡ own_acts [] rest place (seat_at standing seat).made seat
    between : (seat : ℕ) → seat < script.seats → (seat_at standing seat).stage ≡ Between

  module _ (standing : StandingValue) (step : Step) (rest : List Step) (place : ℕ) (are : AreLeft standing (step ∷ rest) place)
      (seated : step.seat < script.seats) (suits : suits_setup step.act ≡ true) (free : step.condition ≡ None) where
    abbrev own : SeatValue
    own = seat_at standing step.seat

    abbrev acts : List Planned
    acts = own_acts [] script.setup 0 0 step.seat

    abbrev act : Planned
    act = planned [] place own.made step

    abbrev others : List Planned
    others = own_acts [] rest (place + 1) (own.made + 1) step.seat

    own_left : drop own.made acts ≡ act ∷ others
    own_left =
        are.left step.seat seated
        ∙ ap (λ (mine : Bool). if mine then act ∷ others else own_acts [] rest (place + 1) own.made step.seat)
        (eq-eqb step.seat step.seat refl)

    there : step.seat < length standing.seats
    there = (let many = are.many in omega (arith, many, seated))

    -- it hangs on nothing
    act_first : act_now acts own ≡ Some act
    act_first =
        ap (find (is_due own.heard)) own_left
        ∙ ap (λ condition. cond (holds own.heard condition) (Some act) (find (is_due own.heard) others)) free

    -- the seat has a step left
    has_act : act_of setting standing step.seat ≡ Some act
    has_act =
        ap (option_and_then (λ (own : SeatValue). option_and_then (λ (acts : List Planned). act_now acts own) (slice_get setting.acts step.seat)))
        (slice_get-get_or standing.seats step.seat new_seat there)
        ∙ ap (option_and_then (λ (acts : List Planned). act_now acts own)) (acts_at [] script.setup script.seats step.seat seated)
        ∙ act_first

    -- it is one of few, so that it is counted
    made_more : one_more own.made ≡ suc own.made
    made_more =
        let low = left_within acts own.made act others own_left in
        let long = own_few [] script.setup 0 0 step.seat in
        let count : own.made < 2 ^ 62 = omega (arith, low, long, few) in
        ap (λ (full : Bool). if full then own.made else own.made + 1) (lt-leb (2 ^ 62) own.made count) ∙ omega arith

    module _ (middle : StandingValue) (steps : StepsTo setting standing step.seat (Some act) (Some middle)) where
      abbrev new : StandingValue
      new = steps.0

      abbrev change : Change
      change = steps.2.0

      ends : Ends change
      ends =
          next_ends setting standing step.seat act own (are.between step.seat seated) (none_elsewhere step.seat _) (none_named step.seat _) suits change steps.2.1

      abbrev after : SeatValue
      after = after_step change act.place false own

      seats_behind : new.seats ≡ with_item step.seat after standing.seats
      seats_behind =
          ap (λ (standing : StandingValue). standing.seats) steps.2.2
          ∙ ap (λ (given : Option Given). with_given given (with_item step.seat after standing.seats)) ends.2

      made_behind : after.made ≡ suc own.made
      made_behind = ap (made_after act.place own.made) ends.1 ∙ made_more

      stage_behind : after.stage ≡ Between
      stage_behind = ap stage_after ends.1

      seat_is : seat_at new step.seat ≡ after
      seat_is = ap (λ (seats : List SeatValue). get_or seats step.seat new_seat) seats_behind ∙ changed_seat standing.seats step.seat after there

      other_is : (seat : ℕ) → seat ≢ step.seat → seat_at new seat ≡ seat_at standing seat
      other_is seat apart = ap (λ (seats : List SeatValue). get_or seats seat new_seat) seats_behind ∙ other_seat standing.seats step.seat seat after there apart

      made_is : (seat_at new step.seat).made ≡ suc own.made
      made_is = ap (λ (own : SeatValue). own.made) seat_is ∙ made_behind

      -- what a seat has left now
      abbrev IsLeft : ℕ → Type 0
      IsLeft seat = drop (seat_at new seat).made (own_acts [] script.setup 0 0 seat) ≡ own_acts [] rest (place + 1) (seat_at new seat).made seat

      own_after : (seat : ℕ) → seat ≡ step.seat → IsLeft seat
      own_after seat same =
          let counted : own.made + 1 ≡ (seat_at new step.seat).made = omega (arith, made_is) in
          subst IsLeft (sym same)
          (ap (λ made. drop made acts) made_is
          ∙ left_rest acts own.made act others own_left
          ∙ ap (λ made. own_acts [] rest (place + 1) made step.seat) counted)

      others_after : (seat : ℕ) → seat < script.seats → seat ≢ step.seat → IsLeft seat
      others_after seat below apart =
          let made : ℕ = (seat_at standing seat).made in
          ap (λ (own : SeatValue). drop own.made (own_acts [] script.setup 0 0 seat)) (other_is seat apart)
          ∙ are.left seat below
          ∙ ap (λ (mine : Bool). if mine then planned [] place made step ∷ own_acts [] rest (place + 1) (made + 1) seat else own_acts [] rest (place + 1) made seat)
          (ne_eqb step.seat seat (λ same. apart (sym same)))
          ∙ ap (λ (own : SeatValue). own_acts [] rest (place + 1) own.made seat) (sym (other_is seat apart))

      left_after : AreLeft new rest (place + 1)
      left_after = record {
        many = ap length seats_behind ∙ as_many standing.seats step.seat after there ∙ are.many;
        left = λ seat below.
            elim (cases_eq seat step.seat) as (λ _. IsLeft seat) [
              | inl same ↦ own_after seat same
              | inr apart ↦ others_after seat below apart
            ];
        between = λ seat below.
            elim (cases_eq seat step.seat) as (λ _. (seat_at new seat).stage ≡ Between) [
              | inl same ↦
                  subst (λ seat. (seat_at new seat).stage ≡ Between) (sym same) (ap (λ (own : SeatValue). own.stage) seat_is ∙ stage_behind)
              | inr apart ↦ ap (λ (own : SeatValue). own.stage) (other_is seat apart) ∙ are.between seat below
            ];
      }

  -- a step that the setup may have
  abbrev IsOfSetup : Step → Type 0
  IsOfSetup step = (step.seat < script.seats) × (suits_setup step.act ≡ true) × (step.condition ≡ None)

  never_stuck : (standing : StandingValue) (rest : List Step) (place : ℕ) → AreLeft standing rest place → AllByRecursion IsOfSetup rest
      → Stops setting standing (seats_of rest) → ⊥
  never_stuck standing [] place are all stuck = stuck
  never_stuck standing (step ∷ rest) place are all (inl none) =
      none-some (planned [] place (seat_at standing step.seat).made step) (sym none ∙ has_act standing step rest place are all.0.0 all.0.1 all.0.2)
  never_stuck standing (step ∷ rest) place are all (inr (middle, steps, stuck)) =
      let act = has_act standing step rest place are all.0.0 all.0.1 all.0.2 in
      let made = subst (λ (act : Option Planned). StepsTo setting standing step.seat act (Some middle)) act steps in
      let after = left_after standing step rest place are all.0.0 all.0.1 all.0.2 middle made in
      let same : middle ≡ made.0 = same_Some middle made.0 made.1 in
      never_stuck made.0 rest (place + 1) after all.1 (subst (λ (middle : StandingValue). Stops setting middle (seats_of rest)) same stuck)

  seats_new : (seat : ℕ) → seat < header.seats → get_or (replicate header.seats new_seat) seat new_seat ≡ new_seat
  seats_new seat below = get_or-replicate header.seats seat new_seat new_seat below

  goes_on : header.seats ≡ script.seats → AllByRecursion IsOfSetup script.setup → Stops setting (first_standing header script) (seats_of script.setup) → ⊥
  goes_on seats all stuck =
      let new : (seat : ℕ) → seat < script.seats → seat_at (first_standing header script) seat ≡ new_seat =
      λ seat below. seats_new seat (omega (arith, below, seats)) in
      never_stuck (first_standing header script) script.setup 0
      (record {
        many = length-replicate header.seats new_seat ∙ seats;
        left = λ seat below. subst (λ (own : SeatValue). drop own.made (own_acts [] script.setup 0 0 seat) ≡ own_acts [] script.setup 0 own.made seat) (sym (new seat below)) refl;
        between = λ seat below. ap (λ (own : SeatValue). own.stage) (new seat below);
      })
      all stuck

  pub setup_goes_on : IsSound script → IsHeaderOf script header → (rules : RulesValue) (first : StandingValue) (path : List ℕ)
      → rules ≡ setting → first ≡ first_standing header script → path ≡ seats_of script.setup → IsStuck rules first path → ⊥
  setup_goes_on sound headed rules first path is_rules is_first is_path stuck =
      let all = recursion_from_All IsOfSetup script.setup (λ k d low. (let step = sound.setup k d low in (step.0.0, step.1, sound.unconditioned k d low))) in
      let by_rules = subst (λ (rules : RulesValue). IsStuck rules first path) is_rules stuck in
      let by_first = subst (λ (first : StandingValue). IsStuck setting first path) is_first by_rules in
      let by_path = subst (λ (path : List ℕ). IsStuck setting (first_standing header script) path) is_path by_first in
      goes_on headed.seats all (stops_of setting (first_standing header script) (seats_of script.setup) by_path)
