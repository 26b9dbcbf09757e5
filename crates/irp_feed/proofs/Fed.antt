-- The text of an input that is read block after block.
use Rattle.std.proofs.Common.{◌≡◌, ℕ, ◌+◌, ◌-◌, ◌<◌, ◌≤◌, ◌^◌, Bool, List, [], ◌++◌, length, take, drop, Option, Some, None, IfSome, Ok, Err, refl, sym, subst, ap, ◌∙◌, append_assoc, append-nil, arith, length-append}
use Rattle.std.proofs.lemmas.List.{drop-take, take-append-drop, take-append-le, take_all}
use Rattle.std.proofs.lemmas.Option.{none-some}
use Rattle.std.specs.Io.KnownBytes.{Consumes, IsAtEnd}
use Rattle.irp_transcript.specs.Transcripts.{TranscriptValue, no_lines}
use Rattle.irp_transcript.specs.declared.header.Header.{Header}
use Rattle.irp_transcript_reader.specs.Reading.{ReadsFrom, TakesAll, cut, with_line}
use Rattle.irp_transcript_reader.specs.declared.read_fault.ReadFault.{ReadFault}
use Rattle.irp_transcript_reader.specs.declared.read_fault.ReadFault.TheVariants.{Line as LineFault, NoMemory as FaultMemory}
use Rattle.irp_fast_reader.specs.Fed.{Gives, IsInPlace, IsLineFault, IsNextLine}
use Rattle.irp_transcript_reader.specs.declared.line.Line.{Line}
use Rattle.irp_transcript_reader.specs.declared.line.Line.TheVariants.{Header as HeaderLine, Entry as EntryLine, Word as WordLine}
use Rattle.irp_fast_reader.specs.declared.reader.Reader.{Reader}
use Rattle.irp_fast_reader.proofs.Blocks.{Cut, cut_onward}
use Rattle.irp_fast_reader.proofs.Whole.{refused_last}
use Rattle.irp_feed.specs.Input.{Bytes, IsInput, TakesAtMost, most_bytes, most_taken}
use Rattle.irp_feed.specs.Feeding.{AreAllBefore, Drains, Fails, FailsBehind, HoldsNone, IsHopeless, IsNoBlock, IsNoneOf, IsSoFar, IsTextOfNone, SayFirst, Stops, line_in, piece_of, refused_line, unfed_of}
use Rattle.irp_feed.specs.declared.input.InputFailed.{InputFailed}
use Rattle.irp_feed.specs.declared.unfed.RefusedLine.{RefusedLine}
use Rattle.irp_feed.specs.declared.unfed.RefusedLine.TheVariants.{NoNewline}
use Rattle.irp_feed.proofs.Pieces.{reads_on}

-- a line behind the header leaves the header
pub header_stays : (before : TranscriptValue) (line : Line) (header : Header) → IsInPlace before line → before.header ≡ Some header → (with_line before line).header ≡ Some header
header_stays before (HeaderLine other) header place is = absurd (none-some header (sym (ap (λ (it : TranscriptValue). it.header) place) ∙ is))
header_stays before (EntryLine entry) header place is = is
header_stays before (WordLine word) header place is = is

-- ---- within a block

-- some of it was read, and this is left
pub joined : (text block piece rest : List ℕ) → block ≡ piece ++ rest → (text ++ piece) ++ rest ≡ text ++ block
joined text block piece rest whole = append_assoc text piece rest ∙ ap (λ (given : List ℕ). text ++ given) (sym whole)

-- the numbers of its lines are exact
pub fits_within : (text block piece rest : List ℕ) → block ≡ piece ++ rest → length text + length block ≤ most_bytes → length (text ++ piece) + length rest + 1 < 2 ^ 64
fits_within text block piece rest whole few =
    let size : length block ≡ length piece + length rest = ap length whole ∙ length-append piece rest in
    omega (arith, size, length-append text piece, few)

-- ---- blocks

-- the next block of the input
pub so_far_on : (old now next : Bytes) (left count : ℕ) (text block : List ℕ) → IsSoFar old now left text → Consumes now next block → length block ≡ count → count ≤ left
    → IsSoFar old next (left - count) (text ++ block)
so_far_on old now next left count text block so_far took is few = record {
  took = reads_on text block old now next so_far.took took;
  count = omega (arith, length-append text block, is, few, so_far.count);
}

pub so_far_more : (old now next : Bytes) (left count : ℕ) (text more block : List ℕ) → IsSoFar old now left (text ++ more) → Consumes now next block → length block ≡ count → count ≤ left
    → IsSoFar old next (left - count) (text ++ (more ++ block))
so_far_more old now next left count text more block so_far took is few =
    subst (IsSoFar old next (left - count)) (append_assoc text more block) (so_far_on old now next left count (text ++ more) block so_far took is few)

-- and where it has none
pub so_far_end : (old now next : Bytes) (left count : ℕ) (text buffer : List ℕ) → count ≡ 0 → IsSoFar old now left text → Consumes now next (take count buffer)
    → IsSoFar old next left text
so_far_end old now next left count text buffer none so_far took = record {
  took = subst (Consumes old next) (append-nil text) (reads_on text [] old now next so_far.took (subst (λ (given : ℕ). Consumes now next (take given buffer)) none took));
  count = so_far.count;
}

-- a text and a block aren't too long
pub few_so_far : (old now : Bytes) (left : ℕ) (text block : List ℕ) → IsSoFar old now left (text ++ block) → length text + length block ≤ most_bytes
few_so_far old now left text block so_far = omega (arith, length-append text block, so_far.count)

at_end : (old now : Bytes) (text : List ℕ) → Consumes old now text → IsAtEnd now → IfSome old (λ left. text ≡ left)
at_end None now text took end = tt
at_end (Some left) None text took end = absurd took
at_end (Some left) (Some rest) text took end = sym (took ∙ ap (λ (given : List ℕ). text ++ given) end ∙ append-nil text)

-- at its end
pub is_input : (old now : Bytes) (left : ℕ) (text : List ℕ) → IsSoFar old now left text → IsAtEnd now → IsInput old now text
is_input old now left text so_far end = record {
  few = omega (arith, so_far.count);
  whole = at_end old now text so_far.took end;
  took = so_far.took;
}

-- ---- first lines

-- all lines of a text
pub say_all : (text : List ℕ) (transcript : TranscriptValue) → TakesAll no_lines (cut text).0 transcript → SayFirst (length (cut text).0) text transcript
say_all text transcript taken =
    (omega arith, subst (λ (lines : List (List ℕ)). TakesAll no_lines lines transcript) (sym (take_all (length (cut text).0) (cut text).0 (omega arith))) taken)

-- more of the text comes
pub say_more : (count : ℕ) (text more : List ℕ) (transcript : TranscriptValue) → SayFirst count text transcript → SayFirst count (text ++ more) transcript
say_more count text more transcript say =
    let others : List (List ℕ) = (cut ((cut text).1 ++ more)).0 in
    let whole : (cut (text ++ more)).0 ≡ (cut text).0 ++ others = ap (λ (given : Cut). given.0) (cut_onward text more) in
    let first : take count (cut (text ++ more)).0 ≡ take count (cut text).0 = ap (take count) whole ∙ take-append-le count (cut text).0 others say.0 in (
      omega (arith, say.0, ap length whole, length-append (cut text).0 others),
      subst (λ (lines : List (List ℕ)). TakesAll no_lines lines transcript) (sym first) say.1,
    )

-- a line that is refused is the next one
pub all_before : (fault : ReadFault) (text : List ℕ) → IsNextLine text fault → AreAllBefore (line_in fault) (length (cut text).0)
all_before (LineFault line) text next = next
all_before FaultMemory text next = tt

-- and so is what has no newline
pub all_before_end : (fault : ReadFault) (text : List ℕ) (before : TranscriptValue) → TakesAll no_lines (cut text).0 before → ReadsFrom no_lines 0 (Err fault) (cut text)
    → AreAllBefore (line_in fault) (length (cut text).0)
all_before_end (LineFault line) text before taken reads =
    let last = refused_last reads.0 no_lines before (cut text).0 (cut text).1 taken reads.2 in
    omega (arith, reads.1, last.0)
all_before_end FaultMemory text before taken reads = tt

-- ---- endings

pub line_told : (fault : ReadFault) (refused : RefusedLine) → refused_line (unfed_of fault refused) ≡ line_in fault
line_told (LineFault line) refused = refl
line_told FaultMemory refused = refl

-- a line without a newline is refused at the end
pub no_block : (fault : ReadFault) → IsLineFault fault → IsNoBlock (unfed_of fault NoNewline)
no_block (LineFault line) is = tt
no_block FaultMemory is = absurd is

-- the first line that is refused
pub hopeless_of : (fault : ReadFault) (after : Reader) (text : List ℕ) (before : TranscriptValue) (block : List ℕ) → Gives (Err fault) after text before block
    → IsHopeless (line_in fault) (text ++ block)
hopeless_of (LineFault line) after text before block gives = λ more.
    subst (λ (given : List ℕ). ReadsFrom no_lines 0 (Err (LineFault line)) (cut given)) (sym (append_assoc text block more)) (gives more)
hopeless_of FaultMemory after text before block gives = tt

pub refused_of : (fault : ReadFault) (text : List ℕ) → ReadsFrom no_lines 0 (Err fault) (cut text) → IsTextOfNone text (line_in fault)
refused_of (LineFault line) text reads = reads
refused_of FaultMemory text reads = tt

-- the input is at its end, and its text is refused
pub none_of_end : (line : Option ℕ) (old now : Bytes) (text : List ℕ) → IsInput old now text → IsTextOfNone text line → IsNoneOf old now text line
none_of_end (Some line) old now text input none = (input, none)
none_of_end None old now text input none = tt

-- it is at its end, and a beginning of its text is refused
none_of : (line : Option ℕ) (old now : Bytes) (text more : List ℕ) → IsInput old now (text ++ more) → IsHopeless line text → IsNoneOf old now (text ++ more) line
none_of (Some line) old now text more input hopeless = (input, hopeless more)
none_of None old now text more input hopeless = tt

-- the rest of it was taken, or couldn't be
pub drained : (has_newline : Bool) (old now : Bytes) (left : ℕ) (text more : List ℕ) → IsSoFar old now left (text ++ more) → IsAtEnd now → Drains (Ok has_newline) old now text
drained has_newline old now left text more so_far end = (more, is_input old now left (text ++ more) so_far end)

pub not_drained : (failed : InputFailed) (old now next : Bytes) (left : ℕ) (text more : List ℕ) → IsSoFar old now left (text ++ more) → TakesAtMost (left + 1) now next
    → Drains (Err failed) old next text
not_drained failed old now next left text more so_far rest =
    let whole : (text ++ more) ++ rest.0 ≡ text ++ (more ++ rest.0) = append_assoc text more rest.0 in
    let size : length ((text ++ more) ++ rest.0) ≡ length (text ++ (more ++ rest.0)) = ap length whole in (
      more ++ rest.0,
      omega (arith, size, length-append (text ++ more) rest.0, so_far.count, rest.1),
      subst (Consumes old next) whole (reads_on (text ++ more) rest.0 old now next so_far.took rest.2),
    )

pub refused_fails : (line : Option ℕ) (has_newline : Bool) (old now : Bytes) (text : List ℕ) → Drains (Ok has_newline) old now text → IsHopeless line text → FailsBehind text old now line
refused_fails line has_newline old now text all hopeless = record {
  more = all.0;
  none = none_of line old now text all.0 all.1 hopeless;
  few = omega (arith, all.1.few);
  took = all.1.took;
}

pub input_fails : (failed : InputFailed) (old now : Bytes) (text : List ℕ) → Drains (Err failed) old now text → FailsBehind text old now None
input_fails failed old now text part = record { more = part.0; none = tt; few = part.1; took = part.2 }

-- no more is taken
pub behind_none : (line : Option ℕ) (old now : Bytes) (left : ℕ) (text : List ℕ) → IsSoFar old now left text → IsNoneOf old now text line → FailsBehind text old now line
behind_none line old now left text so_far none =
    let whole : text ++ [] ≡ text = append-nil text in
    record {
      more = [];
      none = subst (λ (given : List ℕ). IsNoneOf old now given line) (sym whole) none;
      few = subst (λ (given : List ℕ). length given ≤ most_taken) (sym whole) (omega (arith, so_far.count));
      took = subst (Consumes old now) (sym whole) so_far.took;
    }

-- whatever its text begins with
holds_none : (line : Option ℕ) (old now : Bytes) (text : List ℕ) → IsNoneOf old now text line → HoldsNone old now line
holds_none (Some line) old now text none = (text, none.0, none.1)
holds_none None old now text none = tt

pub fails_of : (line : Option ℕ) (old now : Bytes) (transcript : TranscriptValue) → Stops old now line transcript → Fails old now line
fails_of line old now transcript stops = (holds_none line old now stops.first.text stops.none, (stops.first.text, stops.first.few, stops.first.took))

-- so many lines of a text say this transcript
pub stops_behind : (line : Option ℕ) (count : ℕ) (text : List ℕ) (transcript : TranscriptValue) (old now : Bytes) → AreAllBefore line count → SayFirst count text transcript
    → FailsBehind text old now line → Stops old now line transcript
stops_behind line count text transcript old now all say behind = record {
  first = record {
    text = text ++ behind.more;
    few = behind.few;
    took = behind.took;
    count = count;
    say = say_more count text behind.more transcript say;
  };
  none = behind.none;
  all = all;
}

-- ---- pieces of a buffer

pub whole_piece : (buffer : List ℕ) (to : ℕ) → take to buffer ≡ piece_of buffer 0 to
whole_piece buffer to = (let same : to ≡ to - 0 = omega arith in ap (λ (count : ℕ). take count (drop 0 buffer)) same)

two_pieces : (buffer : List ℕ) (from rest : ℕ) → take from (take (from + rest) buffer) ++ take rest (drop from buffer) ≡ take (from + rest) buffer
two_pieces buffer from rest =
    ap (λ (last : List ℕ). take from (take (from + rest) buffer) ++ last) (sym (drop-take from rest buffer)) ∙ take-append-drop from (take (from + rest) buffer)

pub both_pieces : (buffer : List ℕ) (from to : ℕ) → from ≤ to → take from (take to buffer) ++ piece_of buffer from to ≡ take to buffer
both_pieces buffer from to order =
    let same : from + (to - from) ≡ to = omega (arith, order) in
    subst (λ (count : ℕ). take from (take count buffer) ++ piece_of buffer from to ≡ take count buffer) same (two_pieces buffer from (to - from))
