-- Where a line didn't end it is refused.
use Rattle.std.proofs.Common.{ℕ, ◌≡◌, ◌+◌, ◌<◌, Err, length, sym, subst, arith}
use Rattle.irp_transcript.specs.Transcripts.{no_lines}
use Rattle.irp_transcript_reader.specs.Reading.{ReadsFrom, cut}
use Rattle.irp_transcript_reader.specs.declared.read_fault.ReadFault.TheVariants.{Line}
use Rattle.irp_fast_reader.proofs.Fed.{cut_off, few}
use Rattle.irp_fast_reader.proofs.reader.Reader.finish.Goals as goal

pub returns-else-is_empty-clause-ended : goal.returns-else-is_empty-clause-ended
returns-else-is_empty-clause-ended c = λ text before read short.
    (let some : 0 < length c.args.self.now.kept.items = grind arith in
    let low = (few c.args.self.now text before read).1 in
    let counted : c.saturating_add.result ≡ c.args.self.now.count + 1 = grind (arith, low, some, short) in
    subst (λ (line : ℕ). ReadsFrom no_lines 0 (Err (Line line)) (cut text)) (sym counted) (cut_off c.args.self.now text before read some))
