-- What is told of a line that is refused.
use Rattle.std.specs.Prelude.{ℕ, List, ◌++◌, codes, string_bytes}
use Rattle.std.specs.Fmt.{decimal}
use Rattle.irp_view.specs.declared.refusal.Expected.{Expected}
use Rattle.irp_view.specs.declared.refusal.Expected.TheVariants as expected

-- what was expected, where that has no number; behind the line's number
abbrev pub plain_text : Expected → List ℕ
plain_text expected.Newline = codes ": the last line has no newline"
plain_text expected.Shorter = codes ": a line has at most 65536 bytes"
plain_text (expected.Json column) = codes ""
plain_text (expected.Part column words) = codes ""
plain_text expected.NoEntry = codes ": an entry stands behind a word line"
plain_text expected.NoMore = codes ": a transcript has at most 1000000 entries"
plain_text expected.Other = codes ": the line has none of the forms of docs/FORMATS.md"
plain_text expected.Fitting = codes ""

-- the same with the column, and the words for a part, which aren't fixed here
abbrev pub expected_text : Expected → List ℕ
expected_text (expected.Json column) = codes ", column " ++ (decimal column ++ codes ": this isn't JSON")
expected_text (expected.Part column words) = codes ", column " ++ (decimal column ++ string_bytes words)
expected_text other = plain_text other
