-- What takes the lines of a block.
use Rattle.std.proofs.Common.{◌≡◌, ℕ, ◌+◌, ◌<◌, ◌≤◌, ◌^◌, List, [], ◌∷◌, ◌++◌, length, take, drop, Option, Ok, Err, refl, sym, subst, ap, ◌∙◌, append_assoc, append-nil, arith, length-append}
use Rattle.std.proofs.lemmas.List.{length-take-le, take-append-drop}
use Rattle.irp_transcript.specs.Transcripts.{TranscriptValue}
use Rattle.irp_transcript_reader.specs.Reading.{cut, with_line}
use Rattle.irp_transcript_reader.specs.declared.read_fault.ReadFault.{ReadFault}
use Rattle.irp_fast_reader.specs.Fed.{Gives, HasRead, IsNextLine}
use Rattle.irp_transcript_reader.specs.declared.line.Line.{Line}
use Rattle.irp_transcript_reader.specs.declared.line.Line.TheVariants.{Header as HeaderLine, Entry as EntryLine, Word as WordLine}
use Rattle.irp_fast_reader.specs.declared.reader.Reader.{Reader}
use Rattle.irp_feed.specs.Input.{most_bytes}
use Rattle.irp_feed.specs.Feeding.{AreAllBefore, AreRead, AreTaken, IsHopeless, line_in, refused_line, unfed_of}
use Rattle.irp_feed.specs.declared.unfed.RefusedLine.{RefusedLine}
use Rattle.irp_feed.proofs.Fed.{all_before, hopeless_of, joined, line_told, say_all, say_more}

-- a line adds at most one word line
words_more : (before : TranscriptValue) (line : Line) → length (with_line before line).words ≤ length before.words + 1
words_more before (HeaderLine header) = omega arith
words_more before (EntryLine entry) = omega arith
words_more before (WordLine word) = omega (arith, length-append before.words (word ∷ []))

-- some of the block was read and taken, and this is left
pub record IsWithin (reader : Reader) (taken : TranscriptValue → Type 0) (text block rest : List ℕ) : Type 0 where
  pub piece : List ℕ
  pub whole : block ≡ piece ++ rest
  pub transcript : TranscriptValue
  pub reads : AreRead reader (text ++ piece) transcript
  pub are : taken transcript

pub starts_within : (reader : Reader) (taken : TranscriptValue → Type 0) (text block : List ℕ) (transcript : TranscriptValue) → AreRead reader text transcript → taken transcript
    → IsWithin reader taken text block block
starts_within reader taken text block transcript reads are = record {
  piece = [];
  whole = refl;
  transcript = transcript;
  reads = subst (λ (given : List ℕ). AreRead reader given transcript) (sym (append-nil text)) reads;
  are = are;
}

-- all of a text was read
all_taken : (reader : Reader) (taken : TranscriptValue → Type 0) (text : List ℕ) (transcript : TranscriptValue) → AreRead reader text transcript → taken transcript
    → AreTaken (Ok tt) reader taken text
all_taken reader taken text transcript reads are = record {
  transcript = transcript;
  count = length (cut text).0;
  say = say_all text transcript reads.read.lines;
  are = are;
  reads = reads;
}

pub ends_within : (reader : Reader) (taken : TranscriptValue → Type 0) (text block rest : List ℕ) → rest ≡ [] → IsWithin reader taken text block rest
    → AreTaken (Ok tt) reader taken (text ++ block)
ends_within reader taken text block rest none within =
    let whole : block ≡ within.piece = within.whole ∙ ap (λ (last : List ℕ). within.piece ++ last) none ∙ append-nil within.piece in
    all_taken reader taken (text ++ block) within.transcript (subst (λ (given : List ℕ). AreRead reader (text ++ given) within.transcript) (sym whole) within.reads) within.are

-- the block ends before the line does
pub kept_within : (old new : Reader) (taken : TranscriptValue → Type 0) (text block rest : List ℕ) (within : IsWithin old taken text block rest)
    → HasRead new ((text ++ within.piece) ++ rest) within.transcript → AreTaken (Ok tt) new taken (text ++ block)
kept_within old new taken text block rest within read =
    let same : (text ++ within.piece) ++ rest ≡ text ++ block = joined text block within.piece rest within.whole in
    let size : length ((text ++ within.piece) ++ rest) ≡ length (text ++ block) = ap length same in
    all_taken new taken (text ++ block) within.transcript
    (record {
      read = subst (λ (given : List ℕ). HasRead new given within.transcript) same read;
      few = omega (arith, within.reads.few, size, length-append (text ++ within.piece) rest);
    }) within.are

-- there is room for one more word line
pub few_words : (reader : Reader) (taken : TranscriptValue → Type 0) (text block rest : List ℕ) (within : IsWithin reader taken text block rest)
    → length text + length block ≤ most_bytes → length within.transcript.words + 1 < 2 ^ 64
few_words reader taken text block rest within few =
    omega (arith, within.reads.few, few, length-append text within.piece, ap length within.whole, length-append within.piece rest)

-- one line more
pub on_within : (old new : Reader) (taken now : TranscriptValue → Type 0) (text block rest : List ℕ) (count : ℕ) (line : Line) (within : IsWithin old taken text block rest)
    → 0 < count → count ≤ length rest
    → HasRead new ((text ++ within.piece) ++ take count rest) (with_line within.transcript line)
    → now (with_line within.transcript line)
    → IsWithin new now text block (drop count rest)
on_within old new taken now text block rest count line within some fits read are =
    let split : rest ≡ take count rest ++ drop count rest = sym (take-append-drop count rest) in
    let same : (text ++ within.piece) ++ take count rest ≡ text ++ (within.piece ++ take count rest) = append_assoc text within.piece (take count rest) in
    let size : length ((text ++ within.piece) ++ take count rest) ≡ length (text ++ (within.piece ++ take count rest)) = ap length same in
    record {
      piece = within.piece ++ take count rest;
      whole = within.whole ∙ ap (λ (given : List ℕ). within.piece ++ given) split ∙ sym (append_assoc within.piece (take count rest) (drop count rest));
      transcript = with_line within.transcript line;
      reads = record {
        read = subst (λ (given : List ℕ). HasRead new given (with_line within.transcript line)) same read;
        few = omega (arith, words_more within.transcript line, within.reads.few, size, length-append (text ++ within.piece) (take count rest), length-take-le count rest fits, some);
      };
      are = are;
    }

-- a line isn't read
pub stops_within : (fault : ReadFault) (refused : RefusedLine) (old new : Reader) (taken : TranscriptValue → Type 0) (text block rest : List ℕ) (within : IsWithin old taken text block rest)
    → Gives (Err fault) new (text ++ within.piece) within.transcript rest → IsNextLine (text ++ within.piece) fault
    → AreTaken (Err (unfed_of fault refused)) new taken (text ++ block)
stops_within fault refused old new taken text block rest within gives next =
    let read : List ℕ = text ++ within.piece in
    let whole : read ++ rest ≡ text ++ block = joined text block within.piece rest within.whole in
    let told : line_in fault ≡ refused_line (unfed_of fault refused) = sym (line_told fault refused) in
    subst (AreTaken (Err (unfed_of fault refused)) new taken) whole
    (record {
      transcript = within.transcript;
      count = length (cut read).0;
      say = say_more (length (cut read).0) read rest within.transcript (say_all read within.transcript within.reads.read.lines);
      are = within.are;
      reads = subst (λ (line : Option ℕ). IsHopeless line (read ++ rest) × AreAllBefore line (length (cut read).0)) told
          (hopeless_of fault new read within.transcript rest gives, all_before fault read next);
    })
