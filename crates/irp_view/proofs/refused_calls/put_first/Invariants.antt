use Rattle.std.proofs.Common.{◌≡◌, ◌++◌, take}
use Rattle.std.specs.List.{flat_map}
use Rattle.irp_view.specs.RefusedCalls.{refused_text}
use Rattle.irp_view.proofs.refused_calls.put_first.Given as goal

-- the calls so far stand there
abbrev pub invariant-loop-call : goal.invariant-loop-call
invariant-loop-call l = l.words.bytes.items ≡ l.fn.words.bytes.items ++ flat_map refused_text (take l.call-index l.first)
