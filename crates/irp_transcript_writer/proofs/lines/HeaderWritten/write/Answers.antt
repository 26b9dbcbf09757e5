-- The members stand one behind another.
use Rattle.std.proofs.Common.{append_assoc}
use Rattle.json.specs.Print.{escape_byte}
use Rattle.irp_transcript_writer.proofs.lines.HeaderWritten.write.Goals as goal

pub returns-in_ok-put-in-One-2 : goal.returns-in_ok-put-in-One-2
unfolding escape_byte
returns-in_ok-put-in-One-2 c =
    rw c.in-One.is
    (rw (
      c.in_ok-put-in-One-2.ensures,
      c.in_ok-put-in-One.ensures,
      c.in_ok-put-3.ensures,
      c.in_ok-put-2.ensures,
      c.in_ok-put_completions.ensures,
      c.in_ok-put_text.ensures,
      c.in_ok-put.ensures,
      append_assoc,
      append_assoc,
      append_assoc,
      append_assoc,
      append_assoc,
      append_assoc,
      append_assoc,
    ) at c.put_one.ensures)

pub returns-in_ok-put-in-Two-3 : goal.returns-in_ok-put-in-Two-3
unfolding escape_byte
returns-in_ok-put-in-Two-3 c =
    rw c.in-Two.is
    (rw (
      c.in_ok-put-in-Two-3.ensures,
      c.in_ok-put-in-Two-2.ensures,
      c.in_ok-put-in-Two.ensures,
      c.in_ok-put-3.ensures,
      c.in_ok-put-2.ensures,
      c.in_ok-put_completions.ensures,
      c.in_ok-put_text.ensures,
      c.in_ok-put.ensures,
      append_assoc,
      append_assoc,
      append_assoc,
      append_assoc,
      append_assoc,
      append_assoc,
      append_assoc,
      append_assoc,
    ) at c.put_one-in-Two.ensures)
