-- What a reader that is fed blocks has read behind one more line, or one more block.
use Rattle.std.proofs.Common.{◌≡◌, ℕ, ◌+◌, ◌<◌, ◌≤◌, List, [], ◌∷◌, ◌++◌, length, take, drop, get_or, Ok, Err, refl, sym, subst, ap, ◌∙◌, arith, inl, inr, append_assoc, append-nil, length-append}
use Rattle.std.proofs.lemmas.Bool.{cases_eq, eq-eqb, ne_eqb}
use Rattle.std.proofs.lemmas.List.{take_more}
use Rattle.irp_forms.specs.declared.unread.Unread.{Unread}
use Rattle.irp_forms.specs.declared.unread.Unread.TheVariants as unread
use Rattle.irp_transcript.specs.Transcripts.{TranscriptValue, no_lines}
use Rattle.irp_transcript_reader.specs.Reading.{cut, most_bytes, onto, with_line, ReadsFrom, Refuses, TakesAll}
use Rattle.irp_transcript_reader.specs.declared.read_fault.ReadFault.TheVariants.{Line as LineFault}
use Rattle.irp_fast_reader.specs.Fed.{Given, Gives, HasRead, HasTaken, IsNextLine, Keeps, fault_at}
use Rattle.irp_transcript_reader.specs.declared.line.Line.{Line}
use Rattle.irp_fast_reader.specs.declared.line_reader.LineReader.{LineReader}
use Rattle.irp_fast_reader.specs.declared.reader.Reader.{Reader}
use Rattle.irp_fast_reader.proofs.Blocks.{Cut, IsBare, NoneBelow, bare_at, cut_kept, cut_line, joined_at, reads_behind, refused_end, takes_one, too_long}

-- ---- how many lines

onto_count : (byte : ℕ) (given : Cut) → length (onto byte given).0 + length (onto byte given).1 ≤ (length given.0 + length given.1) + 1
onto_count byte ([], rest) = omega arith
onto_count byte (line ∷ others, rest) = omega arith

-- a text has no more lines than bytes
pub cut_count : (text : List ℕ) → length (cut text).0 + length (cut text).1 ≤ length text
cut_count [] = omega arith
cut_count (byte ∷ text) =
    elim (cases_eq byte 10) as (λ _. length (cut (byte ∷ text)).0 + length (cut (byte ∷ text)).1 ≤ length (byte ∷ text)) [
      | inl newline ↦ (let fewer = cut_count text in rw (eq-eqb byte 10 newline) (omega (arith, fewer)))
      | inr apart ↦ (let fewer = cut_count text in let one = onto_count byte (cut text) in rw (ne_eqb byte 10 apart) (omega (arith, fewer, one)))
    ]

-- ---- one more block

-- a line ends at this place of the block
pub record EndsAt (block : List ℕ) (place : ℕ) : Type 0 where
  pub none : NoneBelow place block
  pub within : place < length block
  pub newline : get_or block place 0 ≡ 10

module _ (old : Reader) (text : List ℕ) (before : TranscriptValue) (read : HasRead old text before) where
  -- the number of lines and what is kept
  pub few : (old.count ≤ length text) × (old.count + length old.kept.items ≤ length text)
  few =
      let count = cut_count text in
      let kept : length old.kept.items ≡ length (cut text).1 = ap length read.kept in
      (omega (arith, count, read.counted), omega (arith, count, kept, read.counted))

  pub line_read : (new : Reader) (block : List ℕ) (place : ℕ) (given : Line) → EndsAt block place
      → Given (Ok given) new.lines before (old.kept.items ++ take place block) → new.kept.items ≡ [] → new.count ≡ old.count + 1
      → HasRead new (text ++ take (place + 1) block) (with_line before given)
  line_read new block place given ends is none counted =
      let end : List ℕ = take place block in
      let after : TranscriptValue = with_line before given in
      let piece : take (place + 1) block ≡ end ++ 10 ∷ [] = take_more block place 0 ends.within ∙ ap (λ (last : ℕ). end ++ last ∷ []) ends.newline in
      let whole : cut (text ++ take (place + 1) block) ≡ ((cut text).0 ++ (old.kept.items ++ end) ∷ [], []) =
      ap (λ (more : List ℕ). cut (text ++ more)) piece ∙ cut_line text end (bare_at block place ends.none)
      ∙ ap (λ (kept : List ℕ). ((cut text).0 ++ (kept ++ end) ∷ [], [])) (sym read.kept) in
      let longer : length ((cut text).0 ++ (old.kept.items ++ end) ∷ []) ≡ old.count + 1 = omega (arith, length-append (cut text).0 ((old.kept.items ++ end) ∷ []), read.counted) in
      record {
        lines = subst (λ (given : Cut). TakesAll no_lines given.0 after) (sym whole) (takes_one no_lines before after (cut text).0 (old.kept.items ++ end) read.lines is.1);
        kept = none ∙ ap (λ (given : Cut). given.1) (sym whole);
        short = subst (λ (kept : List ℕ). length kept ≤ most_bytes) (sym none) (omega arith);
        counted = counted ∙ sym longer ∙ ap (λ (given : Cut). length given.0) (sym whole);
        taken = is.2;
      }

  pub block_kept : (new : Reader) (block : List ℕ) → IsBare block → new.kept.items ≡ old.kept.items ++ block → length new.kept.items ≤ most_bytes
      → new.lines ≡ old.lines → new.count ≡ old.count → HasRead new (text ++ block) before
  block_kept new block bare kept short same counted =
      let whole : cut (text ++ block) ≡ ((cut text).0, old.kept.items ++ block) =
      cut_kept text block bare ∙ ap (λ (front : List ℕ). ((cut text).0, front ++ block)) (sym read.kept) in
      record {
        lines = subst (λ (given : Cut). TakesAll no_lines given.0 before) (sym whole) read.lines;
        kept = kept ∙ ap (λ (given : Cut). given.1) (sym whole);
        short = short;
        counted = counted ∙ read.counted ∙ ap (λ (given : Cut). length given.0) (sym whole);
        taken = subst (λ (reader : LineReader). HasTaken reader before) (sym same) read.taken;
      }

  line_refused : (block : List ℕ) (place : ℕ) → EndsAt block place → Refuses before (old.kept.items ++ take place block)
      → (more : List ℕ) → ReadsFrom no_lines 0 (Err (LineFault (old.count + 1))) (cut (text ++ (block ++ more)))
  line_refused block place ends refused more =
      let end : List ℕ = take place block in
      let rest : List ℕ = drop (place + 1) block in
      let joined : block ++ more ≡ end ++ 10 ∷ (rest ++ more) =
      ap (λ (whole : List ℕ). whole ++ more) (joined_at block place ends.within ends.newline) ∙ append_assoc end (10 ∷ rest) more in
      let here = refused_end text end (rest ++ more) before read.lines (bare_at block place ends.none)
      (subst (λ (kept : List ℕ). Refuses before (kept ++ end)) read.kept refused) in
      subst (λ (given : ℕ × List ℕ). ReadsFrom no_lines 0 (Err (LineFault (given.0 + 1))) (cut (text ++ given.1))) (λ i. (sym read.counted i, sym joined i)) here

  block_refused : (block : List ℕ) → IsBare block → most_bytes < length (old.kept.items ++ block)
      → (more : List ℕ) → ReadsFrom no_lines 0 (Err (LineFault (old.count + 1))) (cut (text ++ (block ++ more)))
  block_refused block bare long more =
      let here = too_long text more block before read.lines bare (subst (λ (kept : List ℕ). most_bytes < length (kept ++ block)) read.kept long) in
      subst (λ (count : ℕ). ReadsFrom no_lines 0 (Err (LineFault (count + 1))) (cut (text ++ (block ++ more)))) (sym read.counted) here

  -- what is told then
  pub block_fails : (unread : Unread) (new : Reader) (block kept : List ℕ) → IsBare block → Keeps (Err unread) old.kept.items block kept
      → Gives (Err (fault_at (old.count + 1) unread)) new text before block
  block_fails unread.Form new block kept bare long = block_refused block bare long
  block_fails unread.NoMemory new block kept bare long = tt

  pub line_fails : (unread : Unread) (new : Reader) (lines : LineReader) (block : List ℕ) (place : ℕ) → EndsAt block place
      → Given (Err unread) lines before (old.kept.items ++ take place block) → Gives (Err (fault_at (old.count + 1) unread)) new text before block
  line_fails unread.Form new lines block place ends refused = line_refused block place ends refused
  line_fails unread.NoMemory new lines block place ends refused = tt

  pub next_line : (unread : Unread) → IsNextLine text (fault_at (old.count + 1) unread)
  next_line unread.Form = ap (λ (count : ℕ). count + 1) read.counted
  next_line unread.NoMemory = tt

  -- at the end of the text
  pub all_read : old.kept.items ≡ [] → ReadsFrom no_lines 0 (Ok before) (cut text)
  all_read none = (sym read.kept ∙ none, read.lines)

  pub cut_off : 0 < length old.kept.items → ReadsFrom no_lines 0 (Err (LineFault (old.count + 1))) (cut text)
  cut_off some =
      let rest : 0 < length (cut text).1 = subst (λ (kept : List ℕ). 0 < length kept) read.kept some in
      let here = reads_behind 0 no_lines before (cut text).0 [] (cut text).1 (Err (LineFault (length (cut text).0 + 1))) read.lines (0, omega arith, (refl, rest)) in
      subst (λ (given : ℕ × List (List ℕ)). ReadsFrom no_lines 0 (Err (LineFault (given.0 + 1))) (given.1, (cut text).1))
      (λ i. (sym read.counted i, append-nil (cut text).0 i)) here
