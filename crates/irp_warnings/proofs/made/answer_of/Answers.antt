use Rattle.std.proofs.Common.{[], ◌∷◌, Option, sym, ap, subst, ◌∙◌}
use Rattle.irp_plain.specs.declared.answered.Answered.{Answered}
use Rattle.irp_plain.specs.declared.parts.After.{After}
use Rattle.irp_machine.specs.Machine.{act_of}
use Rattle.irp_machine.specs.Runs.{RunsOn, act_in}
use Rattle.irp_warnings.specs.Warned.{last_answer}
use Rattle.irp_warnings.proofs.Ordered.{played_out}
use Rattle.irp_warnings.proofs.made.answer_of.Goals as goal

pub loop-part-preserved : goal.loop-part-preserved
loop-part-preserved c = λ behind last plays.
    let run = c.loop-part.run in
    let next = c.in_ok-next.next in
    let runs =
    subst (λ (after : Option After). RunsOn run c.args.seat (act_in c.args.place (act_of run.rules run.standing c.args.seat)) after next)
    c.in-Some.is c.in_ok-next.ensures.plays in
    let all = c.loop-part.invariant (c.in-Some.behind ∷ behind) last (next, runs, plays) in
    (all.0, all.1, all.2 ∙ ap (λ (answer : Option Answered). last_answer answer behind) (sym c.answer_behind-answer.ensures))

pub returns-in-None : goal.returns-in-None
returns-in-None c =
    let next = c.in_ok-next.next in
    let all =
    c.loop-part.invariant [] next
    (played_out c.loop-part.run next c.args.seat c.args.place c.in_ok-next.behind c.in-None.is c.in_ok-next.ensures.plays) in
    (all.0, all.1, sym all.2)
