-- What the next line of a transcript adds: an entry, or a word line.
use Rattle.std.proofs.Common.{◌≡◌, ◌<◌, ◌==◌, nat_lt, List, [], ◌∷◌, ◌++◌, length, Option, Some, None, refl, sym, subst, ap, ◌∙◌, inl, inr, arith, ◌+◌, ◌≤◌, ◌^◌, length-append}
use Rattle.std.specs.Prelude.{◌⊎◌, slice_index_or}
use Rattle.std.proofs.lemmas.List.{get_or_push}
use Rattle.irp_judge.specs.Judging.{HasJudged, JudgeValue}
use Rattle.irp_live.specs.Sessions.{Stands}
use Rattle.std.proofs.lemmas.Bool.{and_parts, ltb-true}
use Rattle.std.proofs.lemmas.Option.{none-some}
use Rattle.serde_json.specs.Data.{Data}
use Rattle.irp_types.specs.declared.entry.Entry.{Entry}
use Rattle.irp_transcript.specs.Transcripts.{TranscriptValue}
use Rattle.irp_transcript.specs.declared.{header.Header.Header, word_line.WordLine.WordLine}
use Rattle.irp_transcript_reader.specs.Reading.{IsNext, Says, most_entries, seen_of, with_line}
use Rattle.irp_transcript_reader.specs.declared.line.Line.{Line}
use Rattle.irp_transcript_reader.specs.declared.line.Line.TheVariants.{Header as HeaderLine, Entry as EntryLine, Word as WordLineOf}

-- an entry was added behind the others, of which there were few enough
pub record Added (before after : TranscriptValue) : Type 0 where
  pub entry : Entry
  pub few : length before.entries < most_entries
  pub entries : after.entries ≡ before.entries ++ entry ∷ []

-- the header stays, and at most one entry is added
abbrev pub Grown : TranscriptValue → TranscriptValue → Type 0
Grown before after = (after.header ≡ before.header) × ((after.entries ≡ before.entries) ⊎ Added before after)

abbrev under : Option Header → List Entry → List WordLine → TranscriptValue
under known entries words = record { header = known; entries = entries; words = words }

grows_under : (header : Header) (known : Option Header) (entries : List Entry) (words : List WordLine) (form : Data) (line : Line) → known ≡ Some header
    → Says (seen_of (under known entries words)) form line → Grown (under known entries words) (with_line (under known entries words) line)
grows_under header None entries words form line is says = absurd (none-some header is)
grows_under header (Some known) entries words form (HeaderLine other) is says = absurd says
grows_under header (Some known) entries words form (EntryLine entry) is says =
    let room = and_parts (length words == 0) (nat_lt (length entries) most_entries) (and_parts _ _ says.2).0 in
    (refl, inr (record { entry = entry; few = ltb-true (length entries) most_entries room.1; entries = refl }))
grows_under header (Some known) entries words form (WordLineOf word) is says = (refl, inl refl)

-- behind a header, the next line adds at most one entry
pub grown : (header : Header) (before after : TranscriptValue) (form : Data) → before.header ≡ Some header → IsNext before form after → Grown before after
grown header before after form is next =
    subst (Grown before) (sym next.2) (grows_under header before.header before.entries before.words form next.0 is next.1)

same_stands : (judge : JudgeValue) (before after : TranscriptValue) → after.header ≡ before.header
    → (after.entries ≡ before.entries) ⊎ Added before after → length after.entries ≤ length before.entries
    → before.header ≡ Some judge.header → HasJudged judge before.entries → Stands (record { told = after; judge = judge })
same_stands judge before after stays (inl same) few header judged =
    record { header = stays ∙ header; judged = subst (HasJudged judge) (sym same) judged }
same_stands judge before after stays (inr added) few header judged =
    absurd (omega (arith, few, ap length added.entries, length-append before.entries (added.entry ∷ [])))

-- where no entry is added the judge goes on
pub stands_same : (judge : JudgeValue) (before after : TranscriptValue) → Grown before after → length after.entries ≤ length before.entries
    → before.header ≡ Some judge.header → HasJudged judge before.entries → Stands (record { told = after; judge = judge })
stands_same judge before after grown few header judged = same_stands judge before after grown.0 grown.1 few header judged

more_stands : (old new : JudgeValue) (before after : TranscriptValue) (entry : Entry) → after.header ≡ before.header
    → (after.entries ≡ before.entries) ⊎ Added before after → length before.entries < length after.entries
    → entry ≡ slice_index_or after.entries (length before.entries) entry → before.header ≡ Some old.header → new.header ≡ old.header
    → (length before.entries + 1 < 2 ^ 64 → HasJudged new (before.entries ++ entry ∷ [])) → Stands (record { told = after; judge = new })
more_stands old new before after entry stays (inl same) more is header kept judged = absurd (omega (arith, more, ap length same))
more_stands old new before after entry stays (inr added) more is header kept judged =
    let last : entry ≡ added.entry =
    is ∙ ap (λ entries. slice_index_or entries (length before.entries) entry) added.entries
    ∙ get_or_push before.entries added.entry entry (length before.entries) refl in
    let all : after.entries ≡ before.entries ++ entry ∷ [] =
    added.entries ∙ ap (λ it. before.entries ++ it ∷ []) (sym last) in
    record {
      header = stays ∙ header ∙ ap Some (sym kept);
      judged = subst (HasJudged new) (sym all) (judged (omega (arith, added.few)));
    }

-- where one is added the judge was fed it
pub stands_more : (old new : JudgeValue) (before after : TranscriptValue) (entry : Entry) → Grown before after
    → length before.entries < length after.entries → entry ≡ slice_index_or after.entries (length before.entries) entry
    → before.header ≡ Some old.header → new.header ≡ old.header
    → (length before.entries + 1 < 2 ^ 64 → HasJudged new (before.entries ++ entry ∷ [])) → Stands (record { told = after; judge = new })
stands_more old new before after entry grown more is header kept judged =
    more_stands old new before after entry grown.0 grown.1 more is header kept judged
