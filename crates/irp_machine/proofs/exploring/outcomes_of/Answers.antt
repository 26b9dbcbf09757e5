use Rattle.std.proofs.Common.{◌≡◌, All, ◌++◌, ◌∷◌, [], List, reverse, sym, ap, subst, ◌∙◌, append_assoc}
use Rattle.std.proofs.lemmas.List.{append-nil, reverse-append}
use Rattle.irp_explore.specs.declared.node.Node.{Node}
use Rattle.irp_machine.specs.declared.outcome.Outcome.{Outcome}
use Rattle.irp_machine.specs.declared.place.Place.{Place}
use Rattle.irp_machine.specs.Orders.{AllTell, IsClosed}
use Rattle.irp_machine.proofs.Outcomes.{closed_node}
use Rattle.irp_machine.proofs.exploring.outcomes_of.Goals as goal

pub loop-node-init : goal.loop-node-init
loop-node-init c =
    ([], sym (append-nil c.args.found.items), subst (λ (outcomes : List Outcome). AllTell [] (reverse outcomes)) (sym c.new-outcomes.ensures.items) tt)

pub outcome_of-requires : goal.outcome_of-requires
outcome_of-requires c =
    let taken = c.loop-node.invariant.0 in
    let node = c.in-Some.node in
    let rest = c.pop.new.self.items in
    let whole : c.args.found.items ≡ rest ++ node ∷ taken =
    c.loop-node.invariant.1 ∙ ap (λ (items : List (Node Place)). items ++ taken) c.in-Some.ensures.items ∙ append_assoc rest (node ∷ []) taken in
    closed_node rest taken node (subst (λ (found : List (Node Place)). All IsClosed found) whole c.requires)

pub loop-node-preserved : goal.loop-node-preserved
loop-node-preserved c =
    let taken = c.loop-node.invariant.0 in
    let node = c.in-Some.node in
    let outcome = c.outcome_of.result in
    let rest = c.pop.new.self.items in
    let front : reverse (c.loop-node.outcomes.items ++ outcome ∷ []) ≡ outcome ∷ reverse c.loop-node.outcomes.items =
    reverse-append c.loop-node.outcomes.items (outcome ∷ []) in (
      node ∷ taken,
      c.loop-node.invariant.1 ∙ ap (λ (items : List (Node Place)). items ++ taken) c.in-Some.ensures.items ∙ append_assoc rest (node ∷ []) taken,
      subst (λ (outcomes : List Outcome). AllTell (node ∷ taken) outcomes)
          (sym (ap (λ (items : List Outcome). reverse items) c.in_ok-push.ensures.items ∙ front))
          (c.outcome_of.ensures, c.loop-node.invariant.2),
    )
