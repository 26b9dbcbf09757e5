use Rattle.std.proofs.Common.{All, Any, take}
use Rattle.irp_orders.specs.Alike.{AreOneToOne, Extends, IsPartner}
use Rattle.irp_orders.proofs.alike.pair_packets.Given as goal

abbrev pub invariant-loop-place : goal.invariant-loop-place
invariant-loop-place l = record {
  once : AreOneToOne l.pairs.items;
  more : Extends l.fn.pairs.items l.pairs.items;
  partners : All (λ one. Any (IsPartner l.pairs.items one) l.others) (take l.place l.ones);
}
