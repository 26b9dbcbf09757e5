use Rattle.std.proofs.Common.{◌∙◌, ◌++◌, ◌∷◌, [], All, List, reverse, ap, refl, subst, sym, append_assoc}
use Rattle.std.proofs.lemmas.List.{reverse-append}
use Rattle.std.proofs.lemmas.List.Elements.{All-push}
use Rattle.irp_machine.specs.declared.outcome.Outcome.{Outcome}
use Rattle.irp_orders.specs.Founds.{outcomes_of}
use Rattle.irp_orders.specs.declared.found.Found.{Found}
use Rattle.irp_orders.specs.Rows.{IsAnswered, IsOwn}
use Rattle.irp_orders.proofs.found.found_of.Goals as goal

pub loop-outcome-preserved : goal.loop-outcome-preserved
loop-outcome-preserved c =
    let rest = c.pop.new.self.items in
    let before = c.loop-outcome.founds.items in
    record {
      outcomes =
          c.loop-outcome.invariant.outcomes
          ∙ ap (λ (items : List Outcome). items ++ outcomes_of (reverse before)) c.in-Some.ensures.items
          ∙ append_assoc rest (c.in-Some.outcome ∷ []) (outcomes_of (reverse before))
          ∙ ap (λ (items : List Found). rest ++ outcomes_of items)
          (sym (ap (λ (items : List Found). reverse items) c.in_ok-push.ensures.items ∙ reverse-append before _));
      own =
          subst (λ (items : List Found). All IsOwn items) (sym c.in_ok-push.ensures.items)
          (All-push IsOwn before _ c.loop-outcome.invariant.own (record { orders = refl; joined = refl }));
      answered =
          subst (λ (items : List Found). All (IsAnswered c.args.steps.now) items) (sym c.in_ok-push.ensures.items)
          (All-push (IsAnswered c.args.steps.now) before _ c.loop-outcome.invariant.answered c.in_ok-answers.ensures);
    }
