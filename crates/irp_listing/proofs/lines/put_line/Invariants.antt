use Rattle.std.proofs.Common.{◌≡◌, ◌++◌, map, take}
use Rattle.irp_listing.specs.Lines.{on_one_line}
use Rattle.irp_listing.proofs.lines.put_line.Given as goal

-- the bytes so far stand there, on one line
abbrev pub invariant-loop-byte : goal.invariant-loop-byte
invariant-loop-byte l = l.out.items ≡ l.fn.out.items ++ map on_one_line (take l.byte-index l.byte-items)
