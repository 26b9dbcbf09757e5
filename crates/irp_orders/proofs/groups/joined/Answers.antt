use Rattle.std.proofs.Common.{◌≡◌, [], List, sym, subst}
use Rattle.std.proofs.Common.{arith}
use Rattle.std.proofs.lemmas.Grind.{common_steps}
use Rattle.irp_orders.specs.Rows.{AreGrouped}
use Rattle.irp_orders.specs.declared.found.Found.{Found}
use Rattle.irp_orders.proofs.Grouping.{grouped_none, taken, grouped_all, twice}
use Rattle.irp_orders.proofs.groups.joined.Goals as goal

pub loop-found-init : goal.loop-found-init
loop-found-init c = (
  [],
  twice c.args.founds.items _ c.reverse.ensures.items,
  subst (λ (rows : List Found). AreGrouped [] rows) (sym c.new-groups.ensures.items) grouped_none,
)

pub loop-found-preserved : goal.loop-found-preserved
loop-found-preserved c =
    taken c.args.founds.items c.loop-found.invariant.0 c.loop-found.founds.items c.pop.new.self.items c.in-Some.found c.loop-found.groups.items c.join.new.groups.items
    c.loop-found.invariant.1 c.in-Some.ensures.items c.loop-found.invariant.2 c.requires c.in_ok-join.ensures

pub returns : goal.returns
returns c =
    let none : c.loop-found.founds.items ≡ [] = grind (arith, common_steps, c.in_default.ensures) in
    grouped_all c.args.founds.items c.loop-found.invariant.0 c.loop-found.founds.items c.loop-found.groups.items c.loop-found.invariant.1 none c.loop-found.invariant.2
