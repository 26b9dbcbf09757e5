-- One more line of a transcript that is shown.
use Rattle.std.proofs.Common.{◌≡◌, ◌⊎◌, ℕ, List, [], ◌∷◌, ◌++◌, length, is_some, Bool, true, false, Option, Some, None, inl, inr, refl, sym, subst, ap, ◌∙◌, append_assoc, append-nil}
use mathlib.Core.Bool.{true≢false}
use Rattle.irp_types.specs.declared.entry.Entry.{Entry}
use Rattle.irp_types.specs.declared.names.IrpRef.{IrpRef}
use Rattle.irp_transcript.specs.Transcripts.{TranscriptValue}
use Rattle.irp_transcript.specs.declared.header.Header.{Header}
use Rattle.irp_transcript.specs.declared.word_line.WordLine.{WordLine}
use Rattle.irp_transcript_reader.specs.Reading.{with_line}
use Rattle.irp_transcript_reader.specs.declared.line.Line.TheVariants.{Entry as EntryLine, Word as WordOf}
use Rattle.irp_listing.specs.Blocks.{block_after}
use Rattle.irp_listing.specs.Listing.{AddsWordLine, PutsLast, are_none, heading_above, word_line_of}
use Rattle.irp_listing.specs.Stacks.{IsAfter}
use Rattle.irp_listing.proofs.Worded.{one_more_word}
use Rattle.irp_view.specs.Listed.{IsGathered}
use Rattle.irp_view.specs.Showing.{AreWordsFor, IsListing, IsShowing, IsWithin, StandsFor, wanted_of}
use Rattle.irp_view.specs.declared.orders.Span.{Span}
use Rattle.irp_view.specs.declared.showing.Shown.{Shown}
use Rattle.irp_view.specs.declared.showing.Wanted.{Wanted}

-- ---- one entry

-- what stands for the next entry was put behind what stood there
record AddsNext (wanted : Wanted) (before : List Entry) (entry : Entry) (old new : List ℕ) : Type 0 where
  text : List ℕ
  stands : StandsFor wanted before entry text
  put : new ≡ old ++ text

-- nothing stands for one whose place isn't within the span
passed : (wanted : Wanted) (before : List Entry) (entry : Entry) (old new : List ℕ) → (IsWithin wanted.span (length before) → ⊥) → new ≡ old → AddsNext wanted before entry old new
passed wanted before entry old new out same = record {
  text = [];
  stands = inr ((λ is. out is.0), refl);
  put = same ∙ sym (append-nil old);
}

-- what stands for one whose place is
put_next : (wanted : Wanted) (before : List Entry) (entry : Entry) (old new : List ℕ) → IsWithin wanted.span (length before) → PutsLast wanted.choice (before ++ entry ∷ []) entry old new
    → AddsNext wanted before entry old new
put_next wanted before entry old new within (inl (chosen, put)) = record {
  text = block_after wanted.choice.tells_seats (before ++ entry ∷ []) entry;
  stands = inl ((within, chosen), refl);
  put = put;
}
put_next wanted before entry old new within (inr (other, same)) = record {
  text = [];
  stands = inr ((λ is. other is.1), refl);
  put = same ∙ sym (append-nil old);
}

-- what stands for the entries and one more
one_more : (wanted : Wanted) (before entries : List Entry) (entry : Entry) (text more : List ℕ) → IsListing wanted before entries text → StandsFor wanted (before ++ entries) entry more
    → IsListing wanted before (entries ++ entry ∷ []) (text ++ more)
one_more wanted before [] entry text more is stands = (
  more,
  [],
  subst (λ (these : List Entry). StandsFor wanted these entry more) (append-nil before) stands,
  refl,
  ap (λ (given : List ℕ). given ++ more) is ∙ sym (append-nil more),
)
one_more wanted before (first ∷ entries) entry text more is stands = (
  is.0,
  is.1 ++ more,
  is.2,
  one_more wanted (before ++ first ∷ []) entries entry is.1 more is.3
      (subst (λ (these : List Entry). StandsFor wanted these entry more) (sym (append_assoc before (first ∷ []) entries)) stands),
  ap (λ (given : List ℕ). given ++ more) is.4 ∙ append_assoc is.0 is.1 more,
)

-- ---- word lines

no_words : (only : Option IrpRef) (span : Option Span) → AreWordsFor only span [] []
no_words None None = refl
no_words (Some irp) span = refl
no_words None (Some some) = refl

no_text : (only : Option IrpRef) (span : Option Span) (text : List ℕ) → AreWordsFor only span [] text → text ≡ []
no_text None None text is = is
no_text (Some irp) span text is = is
no_text None (Some some) text is = is

-- before the first there is what stands for the entries alone
listing_alone : (only : Option IrpRef) (span : Option Span) (transcript : TranscriptValue) (text : List ℕ) → transcript.words ≡ [] → (is : IsShowing only span transcript text)
    → is.listing ≡ text
listing_alone only span transcript text none is =
    let empty : is.words ≡ [] = no_text only span is.words (subst (λ (given : List WordLine). AreWordsFor only span given is.words) none is.are_words) in
    sym (is.whole ∙ ap (λ (given : List ℕ). is.listing ++ given) empty ∙ append-nil is.listing)

shows_alone : (only : Option IrpRef) (span : Option Span) (transcript : TranscriptValue) (text : List ℕ) → transcript.words ≡ []
    → IsListing (wanted_of only span transcript.header) [] transcript.entries text → IsShowing only span transcript text
shows_alone only span transcript text none is = record {
  listing = text;
  is_listing = is;
  words = [];
  are_words = subst (λ (given : List WordLine). AreWordsFor only span given []) (sym none) (no_words only span);
  whole = sym (append-nil text);
}

-- no text stands for them where some entries are chosen
words_stay : (only : Option IrpRef) (span : Option Span) (words more : List WordLine) (text : List ℕ) → (is_some only ≡ true) ⊎ (is_some span ≡ true)
    → AreWordsFor only span words text → AreWordsFor only span more text
words_stay (Some irp) span words more text chosen is = is
words_stay None (Some some) words more text chosen is = is
words_stay None None words more text (inl one) is = absurd (true≢false (sym one))
words_stay None None words more text (inr two) is = absurd (true≢false (sym two))

some_word : (words : List WordLine) (word : WordLine) → are_none (words ++ word ∷ []) ≡ false
some_word [] word = refl
some_word (first ∷ words) word = refl

-- ---- one line

module _ (wanted : Wanted) (old new : Shown) (sent : List ℕ) (before : TranscriptValue) (is : IsGathered wanted old sent before) where
  abbrev aim : Wanted
  aim = wanted_of wanted.choice.only wanted.span before.header

  -- what is wanted is what the header says
  as_headed : wanted ≡ aim
  as_headed = λ i. record { choice = record { only = wanted.choice.only; tells_seats = is.seats i }; span = wanted.span }

  -- one more entry
  entry_gathered : (entry : Entry) → before.words ≡ [] → new.entries ≡ length (before.entries ++ entry ∷ []) → new.before_words ≡ old.before_words
      → IsAfter (before.entries ++ entry ∷ []) new.stacks → AddsNext wanted before.entries entry old.text.items new.text.items
      → IsGathered wanted new sent (with_line before (EntryLine entry))
  entry_gathered entry none counted words followed adds =
      let alone : IsListing aim [] before.entries (sent ++ old.text.items) =
      subst (IsListing aim [] before.entries) (listing_alone wanted.choice.only wanted.span before (sent ++ old.text.items) none is.shows) is.shows.is_listing in
      let stands : StandsFor aim before.entries entry adds.text = subst (λ (given : Wanted). StandsFor given before.entries entry adds.text) as_headed adds.stands in
      let whole : (sent ++ old.text.items) ++ adds.text ≡ sent ++ new.text.items =
      append_assoc sent old.text.items adds.text ∙ ap (λ (given : List ℕ). sent ++ given) (sym adds.put) in
      record {
        counted = counted;
        before_words = words ∙ is.before_words;
        followed = followed;
        headed = is.headed;
        seats = is.seats;
        shows = shows_alone wanted.choice.only wanted.span (with_line before (EntryLine entry)) (sent ++ new.text.items) none
            (subst (IsListing aim [] (before.entries ++ entry ∷ [])) whole (one_more aim [] before.entries entry (sent ++ old.text.items) adds.text alone stands));
      }

  -- one whose place is within the span
  pub entry_put : (entry : Entry) → before.words ≡ [] → IsWithin wanted.span (length before.entries) → new.entries ≡ length (before.entries ++ entry ∷ []) → new.before_words ≡ old.before_words
      → IsAfter (before.entries ++ entry ∷ []) new.stacks → PutsLast wanted.choice (before.entries ++ entry ∷ []) entry old.text.items new.text.items
      → IsGathered wanted new sent (with_line before (EntryLine entry))
  entry_put entry none within counted words followed puts =
      entry_gathered entry none counted words followed (put_next wanted before.entries entry old.text.items new.text.items within puts)

  -- and one whose place isn't
  pub entry_passed : (entry : Entry) → before.words ≡ [] → (IsWithin wanted.span (length before.entries) → ⊥) → new.entries ≡ length (before.entries ++ entry ∷ [])
      → new.before_words ≡ old.before_words → IsAfter (before.entries ++ entry ∷ []) new.stacks → new.text.items ≡ old.text.items
      → IsGathered wanted new sent (with_line before (EntryLine entry))
  entry_passed entry none out counted words followed same = entry_gathered entry none counted words followed (passed wanted before.entries entry old.text.items new.text.items out same)

  -- a word line where some entries are chosen
  pub word_passed : (word : WordLine) → (is_some wanted.choice.only ≡ true) ⊎ (is_some wanted.span ≡ true) → new.entries ≡ old.entries → new.before_words ≡ false
      → new.stacks ≡ old.stacks → new.text.items ≡ old.text.items → IsGathered wanted new sent (with_line before (WordOf word))
  word_passed word chosen entries words stacks same = record {
    counted = entries ∙ is.counted;
    before_words = words ∙ sym (some_word before.words word);
    followed = subst (IsAfter before.entries) (sym stacks) is.followed;
    headed = is.headed;
    seats = is.seats;
    shows = record {
      listing = is.shows.listing;
      is_listing = is.shows.is_listing;
      words = is.shows.words;
      are_words = words_stay wanted.choice.only wanted.span before.words (before.words ++ word ∷ []) is.shows.words chosen is.shows.are_words;
      whole = ap (λ (given : List ℕ). sent ++ given) same ∙ is.shows.whole;
    };
  }

-- the text of the word lines and one more, where all are shown
words_and : (only : Option IrpRef) (span : Option Span) (words : List WordLine) (word : WordLine) (before_words : Bool) (text : List ℕ) → is_some only ≡ false → is_some span ≡ false
    → before_words ≡ are_none words → AreWordsFor only span words text → AreWordsFor only span (words ++ word ∷ []) (text ++ (heading_above before_words ++ word_line_of word))
words_and (Some irp) span words word before_words text one two none is = absurd (true≢false one)
words_and None (Some some) words word before_words text one two none is = absurd (true≢false two)
words_and None None words word before_words text one two none is =
    ap (λ (given : List ℕ × Bool). given.0 ++ (heading_above given.1 ++ word_line_of word)) (λ i. (is i, none i)) ∙ sym (one_more_word words word)

-- a word line where all are
pub word_gathered : (wanted : Wanted) (old new : Shown) (sent : List ℕ) (before : TranscriptValue) (is : IsGathered wanted old sent before) (word : WordLine)
    → is_some wanted.choice.only ≡ false → is_some wanted.span ≡ false → new.entries ≡ old.entries → new.before_words ≡ false → new.stacks ≡ old.stacks
    → AddsWordLine old.before_words word old.text.items new.text.items → IsGathered wanted new sent (with_line before (WordOf word))
word_gathered wanted old new sent before is word one two entries words stacks adds =
    let line : List ℕ = heading_above old.before_words ++ word_line_of word in
    record {
      counted = entries ∙ is.counted;
      before_words = words ∙ sym (some_word before.words word);
      followed = subst (IsAfter before.entries) (sym stacks) is.followed;
      headed = is.headed;
      seats = is.seats;
      shows = record {
        listing = is.shows.listing;
        is_listing = is.shows.is_listing;
        words = is.shows.words ++ line;
        are_words = words_and wanted.choice.only wanted.span before.words word old.before_words is.shows.words one two is.before_words is.shows.are_words;
        whole = ap (λ (given : List ℕ). sent ++ given) adds ∙ sym (append_assoc sent old.text.items line)
            ∙ ap (λ (given : List ℕ). given ++ line) is.shows.whole ∙ append_assoc is.shows.listing is.shows.words line;
      };
    }

-- ---- no line

-- no text shows a header, or nothing
pub shows_none : (only : Option IrpRef) (span : Option Span) (known : Option Header) (text : List ℕ) → text ≡ []
    → IsShowing only span (record { header = known; entries = []; words = [] }) text
shows_none only span known text none = shows_alone only span (record { header = known; entries = []; words = [] }) text refl none
