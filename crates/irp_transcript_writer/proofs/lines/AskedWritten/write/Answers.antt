-- The members stand one behind another.
use Rattle.std.proofs.Common.{append_assoc}
use Rattle.json.specs.Print.{escape_byte}
use Rattle.irp_transcript_writer.proofs.lines.AskedWritten.write.Goals as goal

pub returns-in_ok-put-in-Dispatch : goal.returns-in_ok-put-in-Dispatch
unfolding escape_byte
returns-in_ok-put-in-Dispatch c = rw c.in-Dispatch.is (rw (c.in_ok-put-in-Dispatch.ensures, append_assoc) at c.put_two.ensures)

pub returns-in_ok-put-in-Completion : goal.returns-in_ok-put-in-Completion
unfolding escape_byte
returns-in_ok-put-in-Completion c = rw c.in-Completion.is (rw (c.in_ok-put-in-Completion.ensures, append_assoc) at c.put_two-in-Completion.ensures)
