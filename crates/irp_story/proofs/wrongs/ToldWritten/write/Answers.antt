-- The members stand one behind another.
use Rattle.std.proofs.Common.{append_assoc}
use Rattle.json.specs.Print.{escape_byte}
use Rattle.irp_story.proofs.wrongs.ToldWritten.write.Goals as goal

pub returns : goal.returns
unfolding escape_byte
returns c =
    rw (
      c.in_ok-put-6.ensures,
      c.in_ok-put-5.ensures,
      c.in_ok-put-4.ensures,
      c.in_ok-put-3.ensures,
      c.in_ok-put-2.ensures,
      c.in_ok-put.ensures,
      append_assoc,
      append_assoc,
      append_assoc,
      append_assoc,
      append_assoc,
      append_assoc,
    )
    at c.put_one.ensures
