-- The items stand one behind another.
use Rattle.std.proofs.Common.{append_assoc}
use Rattle.irp_transcript_writer.proofs.parts.ShownWritten.write.Goals as goal

pub returns : goal.returns
returns c =
    rw (
      c.in_ok-put-10.ensures,
      c.in_ok-put-9.ensures,
      c.in_ok-put-8.ensures,
      c.in_ok-put-7.ensures,
      c.in_ok-put-6.ensures,
      c.in_ok-put-5.ensures,
      c.in_ok-put-4.ensures,
      c.in_ok-put-3.ensures,
      c.in_ok-put-2.ensures,
      c.in_ok-put.ensures,
      append_assoc,
      append_assoc,
      append_assoc,
      append_assoc,
      append_assoc,
      append_assoc,
      append_assoc,
      append_assoc,
      append_assoc,
      append_assoc,
    )
    at c.put_two.ensures
