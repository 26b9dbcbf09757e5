use Rattle.std.proofs.Common.{take}
use Rattle.std.specs.List.{AllZip}
use Rattle.irp_orders.specs.Alike.{AreOneToOne, ArePartners}
use Rattle.irp_orders.proofs.alike.pair_all.Given as goal

abbrev pub invariant-loop-place : goal.invariant-loop-place
invariant-loop-place l = record {
  once : AreOneToOne l.pairs.items;
  partners : AllZip (ArePartners l.pairs.items) (take l.place l.ones) (take l.place l.others);
}
