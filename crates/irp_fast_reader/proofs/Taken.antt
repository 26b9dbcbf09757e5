-- What a reader of lines has taken, with one line more.
use Rattle.std.proofs.Common.{◌≡◌, ◌≤◌, ◌<◌, ℕ, ◌+◌, ◌==◌, ◌^◌, nat_lt, false, List, [], ◌∷◌, ◌++◌, length, Option, Some, None, IfSome, OnOk, OnErr, Result, Ok, Err, refl, sym, subst, ap, ◌∙◌, arith, length-append}
use Rattle.std.proofs.lemmas.Bool.{and_parts, eqb-true, ltb-true, ne_eqb}
use Rattle.serde_json.specs.Data.{Data}
use Rattle.irp_forms.proofs.Texts.{some_text}
use Rattle.irp_forms.specs.declared.unread.Unread.{Unread}
use Rattle.irp_forms.specs.declared.unread.Unread.TheVariants as unread
use Rattle.irp_types.specs.declared.entry.Entry.{Entry}
use Rattle.irp_transcript.specs.Transcripts.{TranscriptValue, IsTranscript}
use Rattle.irp_transcript.specs.declared.{header.Header.Header, word_line.WordLine.WordLine}
use Rattle.irp_transcript_reader.specs.Reading.{IsLineOf, ReadsLine, Says, TakesLine, most_entries, seen_behind, seen_of, with_line}
use Rattle.irp_transcript_reader.specs.declared.{line.Line.Line, seen.Seen.Seen}
use Rattle.irp_transcript_reader.specs.declared.line.Line.TheVariants.{Header as HeaderLine, Entry as EntryLine, Word as WordLineOf}
use Rattle.irp_transcript_reader.proofs.Said.{kept}
use Rattle.irp_fast_reader.specs.Fed.{Given, HasTaken, IsInPlace}
use Rattle.irp_fast_reader.specs.declared.line_reader.LineReader.{LineReader}

nothing : {X : Type 0} (items : List X) → length items ≡ 0 → items ≡ []
nothing [] none = refl
nothing (first ∷ rest) none = absurd (omega (arith, none))

more_words : {X : Type 0} (front : List X) (last : X) → (length (front ++ last ∷ []) == 0) ≡ false
more_words front last = ne_eqb (length (front ++ last ∷ [])) 0 (λ none. omega (arith, none, length-append front (last ∷ [])))

abbrev under : Option Header → List Entry → List WordLine → TranscriptValue
under known entries words = record { header = known; entries = entries; words = words }

-- a line stands in its place, and what was seen goes on
record Follows (before : TranscriptValue) (line : Line) : Type 0 where
  place : IsInPlace before line
  seen : seen_of (with_line before line) ≡ seen_behind (seen_of before) line
  few : length before.entries ≤ most_entries → length (with_line before line).entries ≤ most_entries

follows_under : (known : Option Header) (entries : List Entry) (words : List WordLine) (form : Data) (line : Line) → IsTranscript (under known entries words)
    → Says (seen_of (under known entries words)) form line → Follows (under known entries words) line
follows_under None entries words form (HeaderLine header) one says =
    let bare = one.bare refl in
    record {
      place = bare;
      seen = ap (λ (it : TranscriptValue). seen_of (with_line it (HeaderLine header))) bare;
      few = λ few. few;
    }
follows_under None entries words form (EntryLine entry) one says = absurd says
follows_under None entries words form (WordLineOf word) one says = absurd says
follows_under (Some header) entries words form (HeaderLine other) one says = absurd says
follows_under (Some header) entries words form (EntryLine entry) one says =
    let longer : length (entries ++ entry ∷ []) ≡ length entries + 1 = length-append entries (entry ∷ []) in
    let room = and_parts (length words == 0) (nat_lt (length entries) most_entries) (and_parts _ _ says.2).0 in
    let below : length entries < most_entries = ltb-true (length entries) most_entries room.1 in
    record {
      place = (refl, nothing words (eqb-true (length words) 0 room.0));
      seen = ap (λ (count : ℕ). Some (record { form = header.form; seats = header.seats; entries = count; before_words = length words == 0 })) longer;
      few = λ few. omega (arith, longer, below);
    }
follows_under (Some header) entries words form (WordLineOf word) one says = record {
  place = refl;
  seen = ap (λ it. Some (record { form = header.form; seats = header.seats; entries = length entries; before_words = it })) (more_words words word);
  few = λ few. few;
}

few_under : (known : Option Header) (entries : List Entry) (words : List WordLine) → length entries ≤ most_entries
    → IfSome (seen_of (under known entries words)) (λ it. it.entries + 1 < 2 ^ 64)
few_under None entries words few = tt
few_under (Some header) entries words few = omega (arith, few)

-- a line that isn't read isn't taken
pub unread_taken : (unread : Unread) (before after : TranscriptValue) (line : List ℕ) → ReadsLine (Err unread) (seen_of before) line → TakesLine (Err unread) before line after
unread_taken unread.Form before after line none = λ other taken. none taken.2.0 (taken.0, taken.1, taken.2.1)
unread_taken unread.NoMemory before after line taking = taking

-- a line that is read is taken, unless memory runs out for it
pub put_taken : (result : Result (Unit {0}) Unread) (before after : TranscriptValue) (line : List ℕ) (given : Line) → IsLineOf (seen_of before) line given
    → OnOk result (after ≡ with_line before given) → OnErr result (result ≡ Err unread.NoMemory) → TakesLine result before line after
put_taken (Ok done) before after line given is put fault = (is.0, is.1, (given, is.2, put))
put_taken (Err unread.Form) before after line given is put fault = absurd (cc (fault))
put_taken (Err unread.NoMemory) before after line given is put fault = (some_text line is.0 is.1.2, is.1.0)

module _ (old : LineReader) (before : TranscriptValue) (has : HasTaken old before) (line : List ℕ) where
  pub unread_given : (unread : Unread) (new : LineReader) → ReadsLine (Err unread) old.seen line → Given (Err unread) new before line
  unread_given unread.Form new none = unread_taken unread.Form before before line (subst (λ (it : Option Seen). ReadsLine (Err unread.Form) it line) has.seen none)
  unread_given unread.NoMemory new taking = tt

  -- there is room to count one more
  pub few_seen : IfSome old.seen (λ it. it.entries + 1 < 2 ^ 64)
  few_seen = subst (λ (it : Option Seen). IfSome it (λ seen. seen.entries + 1 < 2 ^ 64)) (sym has.seen) (few_under before.header before.entries before.words has.few)

  pub line_given : (new : LineReader) (given : Line) → IsLineOf old.seen line given → new.seen ≡ seen_behind old.seen given → Given (Ok given) new before line
  line_given new given is seen =
      let says : Says (seen_of before) is.0 given = subst (λ (it : Option Seen). Says it is.0 given) has.seen is.2 in
      let follows = follows_under before.header before.entries before.words is.0 given has.one says in (
        follows.place,
        (is.0, is.1, (given, says, refl)),
        record {
          one = kept before is.0 given has.one says;
          seen = seen ∙ ap (λ (it : Option Seen). seen_behind it given) has.seen ∙ sym follows.seen;
          few = follows.few has.few;
        },
      )
