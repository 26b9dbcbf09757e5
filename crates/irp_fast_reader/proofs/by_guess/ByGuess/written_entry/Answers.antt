-- What was written of the guess is the line.
use Rattle.std.proofs.Common.{◌≡◌, ◌++◌, rules, sym, ap, ◌∙◌, List, ℕ}
use Rattle.serde_json.specs.Written.{compact_text}
use Rattle.irp_types.specs.declared.entry.Entry.{Entry}
use Rattle.irp_transcript_writer.specs.Lines.{entry_json}
use Rattle.irp_fast_reader.proofs.by_guess.ByGuess.written_entry.Goals as goal

pub returns-then-eq : goal.returns-then-eq
returns-then-eq c =
    let entry : Entry = c.in_ok-entry.entry in
    let put : c.write.new.out.items ≡ c.clear.new.self.items ++ compact_text (entry_json entry) = search rules in
    let same : c.as_slice-written.result.now ≡ c.args.line.now = search rules in
    sym (sym c.as_slice-written.ensures.value ∙ same) ∙ put ∙ ap (λ (front : List ℕ). front ++ compact_text (entry_json entry)) c.clear.ensures.items
