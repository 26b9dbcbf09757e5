-- The remove seats that are left were opened with the locks, as all were.
use Rattle.std.proofs.lemmas.List.Elements.{All-pop}
use Rattle.irp_remove.specs.Pairing.{IsSeatOf}
use Rattle.irp_example.proofs.bench.callers_of.Goals as goal

pub loop-seat-preserved : goal.loop-seat-preserved
loop-seat-preserved g c =
    (All-pop (IsSeatOf c.args.locks.now) c.loop-seat.removes.items c.pop-in-Some.new.self.items c.pop-in-Some.result c.pop-in-Some.ensures.items c.loop-seat.invariant).0
