use Rattle.std.proofs.Common.{◌≡◌, ◌++◌, drop}
use Rattle.std.specs.Prelude.{filter_map}
use Rattle.irp_machine.specs.Replays.{line_of}
use Rattle.irp_machine.proofs.replaying.add_words.Given as goal

-- the lines so far and those of the rest are all
abbrev pub invariant-loop-one : goal.invariant-loop-one
invariant-loop-one l =
    l.words.items ++ filter_map (line_of l.steps l.seat) (drop l.one-index l.told)
    ≡ l.initial.words.items ++ filter_map (line_of l.steps l.seat) l.told
