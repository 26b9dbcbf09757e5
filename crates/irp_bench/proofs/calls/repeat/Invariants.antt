use Rattle.irp_bench.specs.Bench.{MakesOne, Repeats}
use Rattle.irp_bench.proofs.calls.repeat.Given as goal

-- so many were made
abbrev pub invariant-loop-made : goal.invariant-loop-made
invariant-loop-made g l = Repeats (MakesOne g.C.Caller.makes l.work) l.made l.initial.caller l.caller
