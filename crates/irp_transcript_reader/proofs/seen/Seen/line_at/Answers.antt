-- What the entry or the word line is where it may stand, the value is.
use Rattle.std.proofs.Common.{rules, ◌≡◌, Some, true, false}
use Rattle.serde_json.specs.View.{view}
use Rattle.irp_transcript_reader.specs.Reading.{is_entry}
use Rattle.irp_transcript_reader.specs.WordLines.{word_line_at}
use Rattle.irp_transcript_reader.proofs.Said.{entry_says, word_says}
use Rattle.irp_transcript_reader.proofs.seen.Seen.line_at.Goals as goal

pub returns-in_ok-entry : goal.returns-in_ok-entry
returns-in_ok-entry c =
    let named : is_entry (view c.args.value.now) ≡ true = search rules in
    rw c.entry_line.ensures (entry_says c.args.self (view c.args.value.now) c.in_ok-entry.entry named c.in_ok-entry.ensures)

pub returns-in_ok-word : goal.returns-in_ok-word
returns-in_ok-word c =
    let named : is_entry (view c.args.value.now) ≡ false = search rules in
    let is : word_line_at (view c.args.value.now) ≡ Some c.in_ok-word.word = search rules in
    rw c.word_line.ensures (word_says c.args.self (view c.args.value.now) c.in_ok-word.word named is)
