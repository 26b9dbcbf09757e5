-- What is told of a transcript.
use Rattle.std.proofs.Common.{◌≡◌, inl, inr, ℕ, List, [], ◌++◌, Option, None, Some, slice_get, length, refl, sym, ap, subst, ◌∙◌, append_assoc, append-nil}
use Rattle.std.specs.Io.KnownBytes.{Keeps}
use Rattle.irp_types.specs.declared.entry.Entry.{Entry}
use Rattle.irp_transcript.specs.Transcripts.{TranscriptValue}
use Rattle.irp_judge.specs.Checked.{IsExplained, IsVerdictOn, verdict_of}
use Rattle.irp_judge.specs.declared.verdict.Wrong.{Wrong}
use Rattle.irp_view.specs.Blocks.{AddsWhy, IsWhy}
use Rattle.irp_streams.specs.Streams.{Bytes}
use Rattle.irp_streams.specs.Writing.{BreaksOff}
use Rattle.irp_streams.specs.declared.reading.StreamFault.{StreamFault}
use Rattle.irp_streams.specs.declared.reading.StreamFault.TheVariants.{NoMemory}
use Rattle.irp_view.specs.RefusedCalls.{refused_from, refused_line}
use Rattle.irp_view.specs.Telling.{AddsText, IsText, SaysNothing, Tells, legal_line, note_line}

pub says_legal : (entries : List Entry) (count : ℕ) (x y : List ℕ) → count ≡ length entries → y ≡ (x ++ legal_line count) ++ refused_line (refused_from 0 entries) → AddsText entries None x y
says_legal entries count x y counted put = record {
  answer = legal_line count ++ refused_line (refused_from 0 entries);
  is = ap (λ (given : ℕ). legal_line given ++ refused_line (refused_from 0 entries)) counted;
  put = put ∙ append_assoc x (legal_line count) (refused_line (refused_from 0 entries));
}

abbrev or_this : Entry → Option Entry → Entry
or_this entry None = entry
or_this entry (Some other) = other

pub says_wrong : (entries : List Entry) (wrong : Wrong) (entry : Entry) (x y : List ℕ) → slice_get entries wrong.at ≡ Some entry → AddsWhy entry wrong x y → AddsText entries (Some wrong) x y
says_wrong entries wrong entry x y found adds = record {
  answer = adds.text;
  is = λ other there. subst (λ (given : Entry). IsWhy given wrong adds.text) (ap (or_this entry) (sym found ∙ there)) adds.is;
  put = adds.put;
}

abbrev is_some : Option Entry → Type 0
is_some None = ⊥
is_some (Some entry) = Unit {0}

-- there is always an entry where something is wrong; where there were none, nothing would be said
pub says_nowhere : (entries : List Entry) (wrong : Wrong) (x : List ℕ) → slice_get entries wrong.at ≡ None → AddsText entries (Some wrong) x x
says_nowhere entries wrong x missing = record {
  answer = [];
  is = λ other there. absurd (subst is_some (sym there ∙ missing) tt);
  put = sym (append-nil x);
}

pub whole_text : (transcript : TranscriptValue) (wrong : Option Wrong) (x y z : List ℕ) → x ≡ [] → AddsText transcript.entries wrong x y → z ≡ y ++ note_line (length transcript.words) → IsText transcript wrong z
whole_text transcript wrong x y z empty adds noted = record {
  answer = adds.answer;
  is = adds.is;
  whole = noted ∙ ap (λ given. given ++ note_line (length transcript.words)) (adds.put ∙ ap (λ given. given ++ adds.answer) empty);
}

pub tells : (transcript : TranscriptValue) (wrong : Option Wrong) (text : List ℕ) → IsExplained transcript wrong → IsVerdictOn transcript (verdict_of (length transcript.entries) wrong) → IsText transcript wrong text → Tells transcript (verdict_of (length transcript.entries) wrong) text
tells transcript wrong text explained judged is = record {
  wrong = wrong;
  explained = explained;
  verdict_is = refl;
  judged = judged;
  is_text = is;
}

pub says_nothing : (entries : List Entry) (given : Option Wrong) (wrong : Wrong) (x : List ℕ) → given ≡ Some wrong → slice_get entries wrong.at ≡ None → AddsText entries given x x
says_nothing entries given wrong x some missing =
    subst (λ it. AddsText entries it x x) (sym some) (says_nowhere entries wrong x missing)

-- the output failed behind a beginning of the text; the wrong entry is lent to what made the text
pub breaks_off : (transcript : TranscriptValue) (wrong lent : Option Wrong) (text sent : List ℕ) (old new : Bytes) (before after : ℕ) (fault : StreamFault) → IsExplained transcript wrong → IsVerdictOn transcript (verdict_of (length transcript.entries) wrong) → lent ≡ wrong → IsText transcript lent text → sent ≡ text → BreaksOff sent old new before after fault → SaysNothing transcript old new before after fault
breaks_off transcript wrong lent text sent old new before after fault explained judged same is all breaks =
    inl (
      verdict_of (length transcript.entries) wrong,
      sent,
      tells transcript wrong sent explained judged
          (subst (λ (given : List ℕ). IsText transcript wrong given) (sym all) (subst (λ (given : Option Wrong). IsText transcript given text) same is)),
      breaks,
    )

pub quiet : (transcript : TranscriptValue) (old : Bytes) (before : ℕ) → SaysNothing transcript old old before before NoMemory
quiet transcript old before = inr (refl, (keeps old, refl))
  where
    keeps : (bytes : Bytes) → Keeps bytes bytes
    keeps None = tt
    keeps (Some bytes) = refl
