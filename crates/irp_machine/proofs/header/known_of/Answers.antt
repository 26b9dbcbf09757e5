use Rattle.std.proofs.Common.{◌≡◌, ◌+◌, ◌∷◌, List, drop, get_or, sym, subst, arith}
use Rattle.irp_types.specs.Rules.{IsWithin}
use Rattle.irp_types.specs.State.{most_known}
use Rattle.irp_types.specs.declared.routine.Known.{Known}
use Rattle.irp_types.specs.declared.routine.Rule.TheVariants.{Watch}
use Rattle.irp_script_reader.specs.Sound.{with_all, with_one}
use Rattle.irp_script_reader.specs.declared.script.CompletionRoutine.{CompletionRoutine}
use Rattle.irp_script_reader.specs.declared.script.Behaviour.TheVariants.{Continue}
use Rattle.irp_machine.proofs.Counts.{completions_within, front_within}
use Rattle.irp_machine.proofs.Later.{drop_here}
use Rattle.irp_machine.proofs.header.known_of.Goals as goal

pub one_more-known-requires : goal.one_more-known-requires
one_more-known-requires c =
    let routines = c.args.routines.now in
    let place = c.loop-routine.routine-index in
    let known = c.loop-routine.known in
    let none : CompletionRoutine = record { rule = Watch; on_ok = Continue; on_err = Continue } in
    let routine = get_or routines place none in
    let rest : List CompletionRoutine = drop (place + 1) routines in
    let here : drop place routines ≡ routine ∷ rest =
    drop_here routines place none (omega (arith, c.loop-routine-test.true)) in
    let whole = subst (λ (counts : Known). IsWithin counts most_known) (sym c.loop-routine.invariant) (completions_within routines c.args.cancels c.requires) in
    front_within (with_one known routine.rule) rest
    (subst (λ (items : List CompletionRoutine). IsWithin (with_all known items) most_known) here whole)
