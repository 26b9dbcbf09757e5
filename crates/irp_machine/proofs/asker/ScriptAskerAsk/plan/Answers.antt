use Rattle.std.proofs.Common.{◌≡◌, true, Option, List, sym, ap, subst, ◌∙◌}
use Rattle.std.specs.Option.{option_map_or}
use Rattle.irp_types.specs.Rules.{is_plan_allowed}
use Rattle.irp_types.specs.declared.routine.Known.{Known}
use Rattle.irp_types.specs.declared.answer.Plan.{Plan}
use Rattle.irp_routines.specs.Guarded.{fixed_plan, guarded_plan}
use Rattle.irp_routines.specs.GuardedFacts.{guarded_plan_allowed}
use Rattle.irp_machine.specs.Asking.{plan_at}
use Rattle.irp_machine.proofs.asker.ScriptAskerAsk.plan.Goals as goal

pub returns : goal.returns
returns c =
    let known = c.known_of-known.result in
    let shown = c.args.shown in record {
      allowed = record {
        known = known;
        there = c.known_of-known.ensures;
        allowed = subst (λ (plan : Plan). is_plan_allowed known shown plan ≡ true) (sym c.guarded_plan.ensures) (guarded_plan_allowed known shown c.plan_at-plan.result);
      };
      told =
          c.guarded_plan.ensures ∙ ap (guarded_plan known shown) c.plan_at-plan.ensures
          ∙ ap (λ (plans : List Plan). guarded_plan known shown (plan_at plans c.args.id.0 shown)) c.as_slice.ensures
          ∙ ap (λ (given : Option Known). option_map_or (λ (known : Known). guarded_plan known shown (plan_at c.args.self.now.script.now.dispatches c.args.id.0 shown)) given fixed_plan) (sym c.known_of-known.ensures);
    }
