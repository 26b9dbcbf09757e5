use Rattle.std.proofs.Common.{◌≡◌, true, List, sym, ap, subst, ◌∙◌}
use Rattle.irp_types.specs.Rules.{is_allowed}
use Rattle.irp_types.specs.declared.answer.Answer.{Answer}
use Rattle.irp_routines.specs.Guarded.{guarded_answer}
use Rattle.irp_script_reader.specs.declared.script.CompletionRoutine.{CompletionRoutine}
use Rattle.irp_machine.specs.Asking.{answer_at}
use Rattle.irp_routines.specs.GuardedFacts.{guarded_allowed}
use Rattle.irp_machine.proofs.asker.ScriptAskerAsk.answer.Goals as goal

pub returns : goal.returns
returns c =
    let rule = c.args.id.rule in
    let shown = c.args.shown in record {
      allowed = record {
        there = c.requires;
        allowed = subst (λ (answer : Answer). is_allowed rule shown answer ≡ true) (sym c.guarded_answer.ensures) (guarded_allowed rule shown c.answer_at-answer.result);
      };
      told = c.guarded_answer.ensures ∙ ap (guarded_answer rule shown) c.answer_at-answer.ensures
          ∙ ap (λ (routines : List CompletionRoutine). guarded_answer rule shown (answer_at routines rule c.args.id.no shown)) c.as_slice.ensures;
    }
