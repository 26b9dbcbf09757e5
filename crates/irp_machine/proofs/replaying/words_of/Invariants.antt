use Rattle.std.proofs.Common.{◌≡◌}
use Rattle.irp_machine.specs.Replays.{words_below}
use Rattle.irp_machine.proofs.replaying.words_of.Given as goal

abbrev pub invariant-loop-seat : goal.invariant-loop-seat
invariant-loop-seat l = l.words.items ≡ words_below l.steps l.standing.seats l.seat
