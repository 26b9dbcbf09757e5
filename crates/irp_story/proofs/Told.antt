-- One line more of a story.
use Rattle.std.proofs.Common.{◌≡◌, ℕ, List, [], ◌∷◌, ◌++◌, map, length, Option, Some, refl, sym, subst, ap, ◌∙◌, append_assoc, append-nil}
use Rattle.serde_json.specs.Data.{Data}
use Rattle.irp_types.specs.declared.entry.Entry.{Entry}
use Rattle.irp_transcript.specs.Headers.{fixed_of}
use Rattle.irp_transcript.specs.Transcripts.{TranscriptValue}
use Rattle.irp_transcript.specs.declared.header.Header.{Header}
use Rattle.irp_transcript.specs.declared.word_line.WordLine.{WordLine}
use Rattle.irp_judge.specs.Checked.{IsVerdict, IsVerdictWith}
use Rattle.irp_judge.specs.Judges.{seen}
use Rattle.irp_judge.specs.Judging.{HasJudged}
use Rattle.irp_judge.specs.declared.verdict.Verdict.{Verdict}
use Rattle.irp_transcript_writer.specs.Json.{line_text}
use Rattle.irp_transcript_writer.specs.Lines.{text_of}
use Rattle.irp_story.specs.Lines.{entry_line, header_line, step_line, verdict_line}
use Rattle.irp_story.specs.Stories.{AreEntryLines, AreLines, HasTold, IsEntryLine, IsStory, bare, with_entry, with_word}
use Rattle.irp_story.specs.declared.story.Story.{Story}

-- ---- texts

-- the text of lines and one more
pub text_on : (lines : List Data) (line : Data) → text_of (lines ++ line ∷ []) ≡ text_of lines ++ line_text line
unfolding text_of
text_on [] line = append-nil (line_text line)
text_on (first ∷ others) line =
    ap (λ (text : List ℕ). line_text first ++ text) (text_on others line)
    ∙ sym (append_assoc (line_text first) (text_of others) (line_text line))

-- the text of one line
pub text_one : (line : Data) → text_of (line ∷ []) ≡ line_text line
unfolding text_of
text_one line = append-nil (line_text line)

-- the same behind what was sent
text_behind : (lines : List Data) (line : Data) (sent old new : List ℕ) → sent ++ old ≡ text_of lines → new ≡ old ++ line_text line → sent ++ new ≡ text_of (lines ++ line ∷ [])
text_behind lines line sent old new is put =
    ap (λ (text : List ℕ). sent ++ text) put
    ∙ sym (append_assoc sent old (line_text line))
    ∙ ap (λ (text : List ℕ). text ++ line_text line) is
    ∙ sym (text_on lines line)

-- ---- lines

-- the line of one entry more
lines_next : (header : Header) (before entries : List Entry) (entry : Entry) (lines : List Data) (line : Data) → AreEntryLines header before entries lines
    → IsEntryLine header (before ++ entries) entry line → AreEntryLines header before (entries ++ entry ∷ []) (lines ++ line ∷ [])
lines_next header before [] entry lines line are is = (
  line,
  [],
  subst (λ (these : List Entry). IsEntryLine header these entry line) (append-nil before) is,
  refl,
  ap (λ (given : List Data). given ++ line ∷ []) are,
)
lines_next header before (first ∷ entries) entry lines line are is = (
  are.0,
  are.1 ++ line ∷ [],
  are.2,
  lines_next header (before ++ first ∷ []) entries entry are.1 line are.3
      (subst (λ (these : List Entry). IsEntryLine header these entry line) (sym (append_assoc before (first ∷ []) entries)) is),
  ap (λ (given : List Data). given ++ line ∷ []) are.4,
)

-- where no step was told
entry_bare : (header : Header) (entries : List Entry) (entry : Entry) (lines : List Data) (line : Data) → AreLines (Some header) entries [] lines → IsEntryLine header entries entry line
    → AreLines (Some header) (entries ++ entry ∷ []) [] (lines ++ line ∷ [])
entry_bare header entries entry lines line are is = (
  are.0 ++ line ∷ [],
  lines_next header [] entries entry are.0 line are.1 is,
  ap (λ (given : List Data). given ++ line ∷ []) are.2
      ∙ ap (λ (given : List Data). header_line header ∷ (given ++ line ∷ [])) (append-nil are.0)
      ∙ ap (λ (given : List Data). header_line header ∷ given) (sym (append-nil (are.0 ++ line ∷ []))),
)

entry_lines : (header : Header) (entries : List Entry) (words : List WordLine) (entry : Entry) (lines : List Data) (line : Data) → words ≡ [] → AreLines (Some header) entries words lines
    → IsEntryLine header entries entry line → AreLines (Some header) (entries ++ entry ∷ []) words (lines ++ line ∷ [])
entry_lines header entries words entry lines line none are is =
    subst (λ (given : List WordLine). AreLines (Some header) (entries ++ entry ∷ []) given (lines ++ line ∷ [])) (sym none)
    (entry_bare header entries entry lines line (subst (λ (given : List WordLine). AreLines (Some header) entries given lines) none are) is)

-- the line of one step more
steps_on : (words : List WordLine) (word : WordLine) → map step_line (words ++ word ∷ []) ≡ map step_line words ++ step_line word ∷ []
steps_on [] word = refl
steps_on (first ∷ words) word = ap (λ (given : List Data). step_line first ∷ given) (steps_on words word)

step_lines : (header : Header) (entries : List Entry) (words : List WordLine) (word : WordLine) (lines : List Data) → AreLines (Some header) entries words lines
    → AreLines (Some header) entries (words ++ word ∷ []) (lines ++ step_line word ∷ [])
step_lines header entries words word lines are = (
  are.0,
  are.1,
  ap (λ (given : List Data). given ++ step_line word ∷ []) are.2
      ∙ ap (λ (given : List Data). header_line header ∷ given)
      (append_assoc are.0 (map step_line words) (step_line word ∷ []) ∙ ap (λ (given : List Data). are.0 ++ given) (sym (steps_on words word))),
)

-- ---- what was told

-- the header's line
pub told_header : (story : Story) (header : Header) (old new : List ℕ) → (seen story.judge).header ≡ header → HasJudged (seen story.judge) [] → old ≡ [] → new ≡ old ++ line_text (header_line header)
    → HasTold story (bare header) new
told_header story header old new headed judged empty put = record {
  headed = ap Some (sym headed);
  judged = judged;
  begun = record {
    lines = header_line header ∷ [];
    are = ([], refl, refl);
    whole = put ∙ ap (λ (text : List ℕ). text ++ line_text (header_line header)) empty ∙ sym (text_one (header_line header));
  };
}

module _ (old new : Story) (before : TranscriptValue) (sent room left : List ℕ) (told : HasTold old before (sent ++ room)) where
  -- the lines so far, by the header that the judge has
  so_far : AreLines (Some (seen old.judge).header) before.entries before.words told.begun.lines
  so_far = subst (λ (given : Option Header). AreLines given before.entries before.words told.begun.lines) told.headed told.begun.are

  by_header : (entries : List Entry) (words : List WordLine) (lines : List Data) → AreLines (Some (seen old.judge).header) entries words lines → AreLines before.header entries words lines
  by_header entries words lines are = subst (λ (given : Option Header). AreLines given entries words lines) (sym told.headed) are

  -- the line of an entry
  pub told_entry : (entry : Entry) (place : ℕ) → place ≡ length before.entries → before.words ≡ [] → (seen new.judge).header ≡ (seen old.judge).header
      → HasJudged (seen new.judge) (before.entries ++ entry ∷ []) → left ≡ room ++ line_text (entry_line place (seen new.judge) entry)
      → HasTold new (with_entry before entry) (sent ++ left)
  told_entry entry place at none headed judged put =
      let line : Data = entry_line (length before.entries) (seen new.judge) entry in
      record {
        headed = told.headed ∙ ap Some (sym headed);
        judged = judged;
        begun = record {
          lines = told.begun.lines ++ line ∷ [];
          are = by_header (before.entries ++ entry ∷ []) before.words (told.begun.lines ++ line ∷ [])
              (entry_lines (seen old.judge).header before.entries before.words entry told.begun.lines line none so_far (record { judge = seen new.judge; headed = headed; judged = judged; whole = refl }));
          whole = text_behind told.begun.lines line sent room left told.begun.whole
              (put ∙ ap (λ (number : ℕ). room ++ line_text (entry_line number (seen new.judge) entry)) at);
        };
      }

  -- the line of a step
  pub told_step : (word : WordLine) → left ≡ room ++ line_text (step_line word) → HasTold old (with_word before word) (sent ++ left)
  told_step word put = record {
    headed = told.headed;
    judged = told.judged;
    begun = record {
      lines = told.begun.lines ++ step_line word ∷ [];
      are = by_header before.entries (before.words ++ word ∷ []) (told.begun.lines ++ step_line word ∷ []) (step_lines (seen old.judge).header before.entries before.words word told.begun.lines so_far);
      whole = text_behind told.begun.lines (step_line word) sent room left told.begun.whole put;
    };
  }

  -- the verdict's line
  pub told_all : (count : ℕ) (verdict : Verdict) → count ≡ (seen old.judge).fed → IsVerdict (fixed_of (seen old.judge).header) before.entries verdict → left ≡ room ++ line_text (verdict_line count verdict)
      → IsStory before (sent ++ left)
  told_all count verdict fed judged put = record {
    lines = told.begun.lines;
    are = told.begun.are;
    verdict = verdict;
    judged = subst (λ (given : Option Header). IsVerdictWith given before.entries verdict) (sym told.headed) judged;
    whole = text_behind told.begun.lines (verdict_line (length before.entries) verdict) sent room left told.begun.whole
        (put ∙ ap (λ (number : ℕ). room ++ line_text (verdict_line number verdict)) (fed ∙ told.judged.counted));
  }
