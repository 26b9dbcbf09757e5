use Rattle.irp_orders.specs.Alike.{AreOneToOne, Extends}
use Rattle.irp_orders.proofs.alike.has_partner.Given as goal

abbrev pub invariant-loop-place : goal.invariant-loop-place
invariant-loop-place l = record {
  once : AreOneToOne l.pairs.items;
  more : Extends l.fn.pairs.items l.pairs.items;
}
