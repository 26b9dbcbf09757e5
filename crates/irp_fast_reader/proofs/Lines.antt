-- The text of the form of an entry that fits is a line that is read as the entry.
use Rattle.std.proofs.Common.{ℕ, ◌≡◌, ◌≤◌, List, length, Option, Some, Result, refl, sym, subst}
use Rattle.irp_types.specs.declared.entry.Entry.{Entry}
use Rattle.irp_forms.specs.declared.unread.Unread.{Unread}
use Rattle.irp_transcript_reader.specs.Reading.{IsEntryLine, ReadsLine, entry_line, most_bytes}
use Rattle.irp_transcript_reader.specs.declared.{line.Line.Line, seen.Seen.Seen}
use Rattle.irp_transcript_reader.proofs.Said.{entry_gives}
use Rattle.irp_transcript_writer.specs.Lines.{entry_json}
use Rattle.irp_fast_reader.specs.Fits.{EntryFits, IsWritten}
use Rattle.irp_fast_reader.specs.Laws.{EntryIsRead}

pub known : (entry : Entry) (line : List ℕ) → EntryIsRead → EntryFits entry → length line ≤ most_bytes
    → IsWritten line entry → IsEntryLine line entry
known entry line law fits short same =
    let read = law entry fits (subst (λ (bytes : List ℕ). length bytes ≤ most_bytes) same short) in
    subst (λ (bytes : List ℕ). IsEntryLine bytes entry) (sym same) (entry_json entry, read.0, read.1, refl)

-- a line that is read as an entry is that entry, where it may stand
pub known_gives : (result : Result Line Unread) (seen : Option Seen) (under : Seen) (line : List ℕ) (entry : Entry) → seen ≡ Some under → IsEntryLine line entry
    → result ≡ entry_line under entry → ReadsLine result seen line
known_gives result seen under line entry is known same =
    subst (λ (it : Option Seen). ReadsLine result it line) (sym is) (subst (λ (it : Result Line Unread). ReadsLine it (Some under) line) (sym same) (entry_gives under line entry known))
