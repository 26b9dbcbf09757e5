-- What is written and the rest of the row are the whole.
use Rattle.std.proofs.Common.{◌≡◌, ◌++◌, drop}
use Rattle.irp_transcript_writer.specs.Rows.{row_text}
use Rattle.irp_transcript_writer.proofs.rows.put_row.Given as goal

abbrev pub invariant-loop-member : goal.invariant-loop-member
invariant-loop-member l =
    l.out.items ++ row_text (drop l.member-index l.row) ≡ l.fn.out.items ++ row_text l.row
