-- What went out so far is the front of the text that is done, and no put failed.
use Rattle.std.proofs.Common.{◌≡◌, ◌≤◌, ◌-◌, length, take}
use Rattle.std.specs.Io.KnownBytes.{Appends}
use Rattle.irp_streams.proofs.out.put_all.Given as goal

abbrev pub invariant-loop-done : goal.invariant-loop-done
invariant-loop-done g l = record {
  within : l.done ≤ length l.text;
  gone : Appends (g.O.Out.gone l.fn.out) (g.O.Out.gone l.out) (take l.done l.text);
  calm : g.O.Out.failures l.out ≡ g.O.Out.failures l.fn.out;
}

abbrev pub decreases-loop-done : goal.decreases-loop-done
decreases-loop-done g l = length l.text - l.done
