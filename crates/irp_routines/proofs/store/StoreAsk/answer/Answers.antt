use Rattle.std.proofs.Common.{◌≡◌, true, subst, ap, ◌∙◌}
use Rattle.irp_types.specs.Rules.{is_allowed, count_of_rule}
use Rattle.irp_types.specs.declared.routine.Rule.{Rule}
use Rattle.irp_routines.proofs.ToldAlike.{found_at, told_at}
use Rattle.irp_routines.proofs.store.StoreAsk.answer.Goals as goal

pub returns : goal.returns
returns g c =
    let found = c.index-shelf-id.result in
    let id = c.args.id in
    let ruled = ap (λ given. given.rule) c.index-shelf-id.is
    ∙ told_at (λ routine. routine.rule) c.shelf.result.now (count_of_rule c.args.self.now.tables.counts id.rule) id.rule id.no found c.shelf.ensures.told c.requires in (
      record {
        there = c.requires;
        allowed = subst (λ (rule : Rule). is_allowed rule c.args.shown c.ask.result ≡ true) ruled c.ask.ensures.allowed;
      },
      found_at _ c.shelf.ensures.own id.no found c.index-shelf-id.is c.ask.ensures.asked,
    )
