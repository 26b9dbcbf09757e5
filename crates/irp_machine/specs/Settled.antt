-- In a place a seat has one next step at most.
use Rattle.std.specs.Prelude.{ℕ, ◌≡◌, ◌≤◌, ◌+◌, Bool, true, false, List, [], ◌∷◌, length, nat_lt, Option, Some, None}
use Rattle.std.specs.List.{AllByRecursion}
use Rattle.std.specs.Option.{option_map}
use Rattle.std.proofs.Common.{ap, sym, subst, ◌∙◌, refl, arith}
use Rattle.irp_types.specs.Calls.{Call}
use Rattle.irp_types.specs.State.{StateValue, Fixed}
use Rattle.irp_types.specs.Packet.{size_of}
use Rattle.irp_types.specs.Unwinding.{unwound_packet}
use Rattle.irp_types.specs.Refusals.{first_refusal}
use Rattle.irp_types.specs.Steps.{Step}
use Rattle.irp_types.specs.declared.asked.Asked.{Asked}
use Rattle.irp_types.specs.declared.asked.Asked.TheVariants.{Dispatch, Completion, Cancel}
use Rattle.irp_types.specs.declared.names.LockNo.{LockNo}
use Rattle.irp_types.specs.declared.reply.Reply.{Reply}
use Rattle.irp_unwind.specs.Laws.{IsReplyOf, UnwindingIsSettled}
use Rattle.irp_unwind.proofs.Settled.{same_asking}
use Rattle.irp_unwind.proofs.SettledDown.{same_descent}
use Rattle.irp_manager.proofs.SettledSteps.{same_step}
use Rattle.irp_manager.specs.Laws.{StepIsSettled, IsSameSlot}
use Rattle.irp_script_reader.specs.declared.script.ScriptParts.{ScriptParts}
use Rattle.irp_explore.specs.Orders.{IsSettled}
use Rattle.irp_machine.specs.declared.parts.Calling.{Calling}
use Rattle.irp_plain.specs.declared.parts.Change.{Change}
use Rattle.irp_machine.specs.declared.parts.Next.{Next}
use Rattle.irp_machine.specs.declared.parts.Next.TheVariants.{Changes, Calls}
use Rattle.irp_machine.specs.declared.parts.Planned.{Planned}
use Rattle.irp_machine.specs.declared.place.Place.{Place}
use Rattle.irp_machine.specs.declared.place.Place.TheVariants.{Running, Over}
use Rattle.irp_machine.specs.Asking.{AreTold, plan_told, answer_told, cancel_told}
use Rattle.irp_machine.specs.Standings.{ManagerValue, StandingValue, after_change, with_manager}
use Rattle.irp_machine.specs.Next.{next_of, called}
use Rattle.irp_machine.specs.Calling.{IsCalled}
use Rattle.irp_plain.specs.Keeps.{freed_if}
use Rattle.irp_machine.specs.declared.outcome.End.{End}
use Rattle.irp_machine.specs.Machine.{RulesValue, allocates, IsCallOf, IsNext, Makes, StepsTo, ClosesIf, RunningSteps, PlaceSteps, act_of, has_ended, seat_at, knows_of, manager_behind}

-- ---- calls

-- unwinding and descent are settled, and so is a step
unwinding : UnwindingIsSettled
unwinding reply irp packet first second asked others some within one two answered answers =
    let enough : size_of packet ≤ packet.current + size_of packet = omega arith in
    let same : asked ≡ others =
    same_asking (λ id shown answer. answer ≡ reply id shown)
    (λ id shown answer other first_is other_is. first_is ∙ sym other_is) irp
    (size_of packet) packet first second asked others some within enough one two answered answers in
    (same, one.left ∙ ap (unwound_packet packet) same ∙ sym two.left)

step_settled : StepIsSettled
step_settled plan_of reply_of cancel_reply_of fixed old drained call asked others reply other new another stands first
    second slots given answers =
    same_step plan_of reply_of cancel_reply_of unwinding same_descent fixed old drained call asked others reply other new
    another (first_refusal fixed old drained call) stands refl first second slots given answers

-- what the script tells is one answer
told_replies : (fixed : Fixed) (script : ScriptParts) (asked : List Asked) → AreTold fixed.tables script asked
    → AllByRecursion
    (IsReplyOf (plan_told fixed.tables script) (answer_told script) (cancel_told fixed.tables script)) asked
told_replies fixed script [] told = told
told_replies fixed script (Dispatch id shown plan ∷ others) told =
    (told.0.told, told_replies fixed script others told.1)
told_replies fixed script (Completion id shown answer ∷ others) told =
    (told.0.told, told_replies fixed script others told.1)
told_replies fixed script (Cancel id shown answer ∷ others) told =
    (told.0.told, told_replies fixed script others told.1)

module _ (fixed : Fixed) (script : ScriptParts) (kept : Bool) where
  -- a call has one answer, and one list of questions
  pub called_settled : (knows : LockNo → Bool) (old : ManagerValue) (call : Call) (drained known : Bool)
      (reply other : Reply) (new another : ManagerValue)
      → (one : IsCalled fixed script kept knows old call drained reply new)
      → (two : IsCalled fixed script kept knows old call known other another)
      → (drained ≡ known) × (one.asked ≡ two.asked) × (reply ≡ other) × (new ≡ another)
  called_settled knows old call drained known reply other new another one two =
      let same : drained ≡ known = one.noted ∙ sym two.noted in
      let step : Step fixed old.state known call one.asked reply new.state =
      subst (λ (drained : Bool). Step fixed old.state drained call one.asked reply new.state) same one.step in
      let slots : IsSameSlot call reply other =
      λ size irp next is first second. one.slot size irp is first ∙ sym (two.slot size next is second) in
      let all =
      step_settled (plan_told fixed.tables script) (answer_told script)
      (cancel_told fixed.tables script) fixed old.state known call one.asked two.asked reply other new.state another.state
      one.stands step two.step slots (told_replies fixed script one.asked one.told)
      (told_replies fixed script two.asked two.told) in
      let freed : new.freed ≡ another.freed =
      one.freed ∙ ap (λ (reply : Reply). freed_if kept call reply old.freed) all.1 ∙ sym two.freed in (
        same,
        all.0,
        all.1,
        ap (λ (state : StateValue). record new { state = state }) all.2
            ∙ ap (λ (freed : List ℕ). record another { freed = freed }) freed,
      )

-- ---- steps

module _ (rules : RulesValue) (standing : StandingValue) where
  call_settled : (seat : ℕ) (planned : Planned) (calling : Calling) (change other : Change)
      → (one : IsCallOf rules standing seat planned calling change)
      → (two : IsCallOf rules standing seat planned calling other) → (change ≡ other) × (one.after ≡ two.after)
  call_settled seat planned calling change other one two =
      let same =
      called_settled rules.fixed rules.script (allocates rules.acts) (knows_of (seat_at standing seat).learned) standing.manager calling.call
      one.drained two.drained one.reply two.reply one.after two.after one.call two.call in
      (one.changes ∙ ap (λ (reply : Reply). called planned calling reply) same.2 ∙ sym two.changes, same.3)

  pub next_settled : (seat : ℕ) (planned : Planned) (next : Next) (change other : Change)
      → (one : IsNext rules standing seat planned next change) → (two : IsNext rules standing seat planned next other)
      → (change ≡ other)
      × (manager_behind rules standing seat planned next change one ≡ manager_behind rules standing seat planned next other two)
  next_settled seat planned (Changes given) change other one two = (one ∙ sym two, refl)
  next_settled seat planned (Calls calling) change other one two =
      call_settled seat planned calling change other one two

  pub makes_settled : (seat : ℕ) (planned : Planned) (next : Next) (new another : StandingValue)
      → Makes rules standing seat planned next new → Makes rules standing seat planned next another → new ≡ another
  makes_settled seat planned next new another one two =
      let same = next_settled seat planned next one.0 two.0 one.1 two.1 in
      let behind = manager_behind rules standing seat planned next one.0 one.1 in
      one.2
      ∙ ap (λ (change : Change). after_change seat change planned.place rules.tells (with_manager standing behind)) same.0
      ∙ ap (λ (manager : ManagerValue). after_change seat two.0 planned.place rules.tells (with_manager standing manager)) same.1
      ∙ sym two.2

  pub steps_settled : (seat : ℕ) (act : Option Planned) (after other : Option StandingValue)
      → StepsTo rules standing seat act after → StepsTo rules standing seat act other → after ≡ other
  steps_settled seat None after other one two = one ∙ sym two
  steps_settled seat (Some planned) after other one two =
      one.1 ∙ ap (λ (new : StandingValue). Some new)
      (makes_settled seat planned (next_of standing (seat_at standing seat) planned) one.0 two.0 one.2 two.2)
      ∙ sym two.1

  closes_settled : (ended : Bool) (after other : Option End)
      → ClosesIf rules standing ended after → ClosesIf rules standing ended other → after ≡ other
  closes_settled true after other one two = one ∙ sym two
  closes_settled false after other one two = one ∙ sym two

  running_settled : (seat : ℕ) (below : Bool) (after other : Option Place)
      → RunningSteps rules standing seat below after → RunningSteps rules standing seat below other → after ≡ other
  running_settled seat true after other one two =
      one.2 ∙ ap (λ (next : Option StandingValue). option_map (λ (each : StandingValue). Running each) next)
      (steps_settled seat (act_of rules standing seat) one.0 two.0 one.1 two.1) ∙ sym two.2
  running_settled seat false after other one two =
      one.2 ∙ ap (λ (end : Option End). option_map (λ (each : End). Over each) end)
      (closes_settled (has_ended rules standing) one.0 two.0 one.1 two.1) ∙ sym two.2

pub moves_settled : (rules : RulesValue) → IsSettled (PlaceSteps rules)
moves_settled rules (Running standing) seat one other first second =
    running_settled rules standing seat (nat_lt seat (length rules.acts)) one other first second
moves_settled rules (Over end) seat one other first second = first ∙ sym second
