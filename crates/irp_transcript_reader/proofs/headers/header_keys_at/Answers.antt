-- The keys that were looked for are those of the form.
use Rattle.irp_transcript_reader.specs.Lines.{header_keys_at}
use Rattle.irp_transcript_reader.proofs.headers.header_keys_at.Goals as goal

pub returns : goal.returns
unfolding header_keys_at
returns c = c.only_keys.ensures
