use Rattle.std.proofs.Common.{arith, ◌∙◌}
use Rattle.irp_plain.proofs.KeepMaps.{found_at, none_at}
use Rattle.irp_plain.proofs.keep.PlainKeepKeep.get.Goals as goal

pub returns : goal.returns
returns c =
    c.as_ref.ensures.value ∙ found_at c.self.inside.places.items c.args.self.now c.self.view_is c.args.slot _ (omega (arith, c.if-slot-len.false, c.len.ensures)) c.index-place.ensures

pub returns-then-slot-len : goal.returns-then-slot-len
returns-then-slot-len c = none_at c.self.inside.places.items c.args.self.now c.self.view_is c.args.slot (omega (arith, c.if-slot-len.true, c.len.ensures))
