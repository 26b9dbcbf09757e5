-- A text that comes block after block: its lines, and what becomes of it where one more is taken or refused.
use Rattle.std.proofs.Common.{◌≡◌, ◌≢◌, ℕ, zero, suc, ◌+◌, ◌-◌, ◌<◌, ◌==◌, List, [], ◌∷◌, ◌++◌, length, take, drop, get_or, false, Result, Ok, Err, refl, sym, subst, ap, ◌∙◌, arith, inl, inr, append_assoc, append-nil, length-append, length-drop}
use Rattle.std.proofs.Math.Seq.{take-length}
use Rattle.std.proofs.lemmas.Bool.{cases_eq, eq-eqb, ne_eqb}
use Rattle.irp_transcript.specs.Transcripts.{TranscriptValue, no_lines}
use Rattle.irp_transcript_reader.specs.Reading.{cut, most_bytes, onto, ReadsFrom, Refuses, Takes, TakesAll}
use Rattle.irp_transcript_reader.specs.declared.read_fault.ReadFault.{ReadFault}
use Rattle.irp_transcript_reader.specs.declared.read_fault.ReadFault.TheVariants.{Line, NoMemory}

abbrev pub Cut : Type 0
Cut = List (List ℕ) × List ℕ

-- no line ends in these bytes
abbrev pub IsBare : List ℕ → Type 0
IsBare bytes = cut bytes ≡ ([], bytes)

-- bytes before what was cut, in which no line ends
abbrev pub behind : List ℕ → Cut → Cut
behind front ([], rest) = ([], front ++ rest)
behind front (line ∷ others, rest) = ((front ++ line) ∷ others, rest)

-- what was cut, and then more
abbrev pub onward : Cut → List ℕ → Cut
onward given more = (given.0 ++ (cut (given.1 ++ more)).0, (cut (given.1 ++ more)).1)

-- ---- the first newline

-- no newline stands before this place
abbrev pub NoneBelow : ℕ → List ℕ → Type 0
NoneBelow place bytes = (before : ℕ) → before < place → get_or bytes before 0 ≢ 10

later : (place byte : ℕ) (bytes : List ℕ) → NoneBelow (suc place) (byte ∷ bytes) → NoneBelow place bytes
later place byte bytes none before below = none (suc before) (omega arith)

-- it stands between the end of the first line and what follows
pub joined_at : (bytes : List ℕ) (place : ℕ) → place < length bytes → get_or bytes place 0 ≡ 10 → bytes ≡ take place bytes ++ 10 ∷ drop (place + 1) bytes
joined_at [] place within newline = absurd (omega arith)
joined_at (byte ∷ bytes) zero within newline = ap (λ first. first ∷ bytes) newline
joined_at (byte ∷ bytes) (suc place) within newline =
    let one : suc place + 1 ≡ suc (place + 1) = omega arith in
    rw one (ap (λ rest. byte ∷ rest) (joined_at bytes place (omega arith) newline))

-- the rest of a list, as a range to its end gives it
pub piece : {X : Type 0} (count : ℕ) (list : List X) → take (length list - count) (drop count list) ≡ drop count list
piece count list = rw (← length-drop count list) (take-length (drop count list))

-- no line ends before it
pub bare_at : (bytes : List ℕ) (place : ℕ) → NoneBelow place bytes → IsBare (take place bytes)
bare_at bytes zero none = refl
bare_at [] (suc place) none = refl
bare_at (byte ∷ bytes) (suc place) none =
    let other = ne_eqb byte 10 (none 0 (omega arith)) in
    rw other (ap (onto byte) (bare_at bytes place (later place byte bytes none)))

-- where there is none, none ends
pub bare_all : (bytes : List ℕ) → NoneBelow (length bytes) bytes → IsBare bytes
bare_all [] none = refl
bare_all (byte ∷ bytes) none =
    let other = ne_eqb byte 10 (none 0 (omega arith)) in
    rw other (ap (onto byte) (bare_all bytes (later (length bytes) byte bytes none)))

-- ---- one byte more

onto_onward : (byte : ℕ) (given : Cut) (more : List ℕ) → (byte == 10) ≡ false → onto byte (onward given more) ≡ onward (onto byte given) more
onto_onward byte ([], rest) more other = rw other refl
onto_onward byte (line ∷ others, rest) more other = refl

onto_rest : (byte : ℕ) (given : Cut) → (byte == 10) ≡ false → IsBare given.1 → IsBare (onto byte given).1
onto_rest byte ([], rest) other bare = rw (other, bare) refl
onto_rest byte (line ∷ others, rest) other bare = bare

some_line : (line : List ℕ) (others : List (List ℕ)) → line ∷ others ≡ [] → ⊥
some_line line others is = cc (is)

onto_bare : (byte : ℕ) (given : Cut) (rest : List ℕ) → onto byte given ≡ ([], byte ∷ rest) → given ≡ ([], rest)
onto_bare byte ([], others) rest is = ap (λ (it : Cut). ([], drop 1 it.1)) is
onto_bare byte (line ∷ lines, others) rest is = absurd (some_line (byte ∷ line) lines (ap (λ (it : Cut). it.0) is))

onto_behind : (byte : ℕ) (front : List ℕ) (given : Cut) → onto byte (behind front given) ≡ behind (byte ∷ front) given
onto_behind byte front ([], rest) = refl
onto_behind byte front (line ∷ others, rest) = refl

behind_nothing : (given : Cut) → given ≡ behind [] given
behind_nothing ([], rest) = refl
behind_nothing (line ∷ others, rest) = refl

-- ---- a block more

-- the lines of a text and a block: those of the text, and then those of the block behind what was left
pub cut_onward : (text more : List ℕ) → cut (text ++ more) ≡ onward (cut text) more
cut_onward [] more = refl
cut_onward (byte ∷ text) more =
    elim (cases_eq byte 10) as (λ _. cut ((byte ∷ text) ++ more) ≡ onward (cut (byte ∷ text)) more) [
      | inl newline ↦ rw (eq-eqb byte 10 newline) (ap (λ (given : Cut). ([] ∷ given.0, given.1)) (cut_onward text more))
      | inr apart ↦
          (let other = ne_eqb byte 10 apart in
          rw other (ap (onto byte) (cut_onward text more) ∙ onto_onward byte (cut text) more other))
    ]

-- no line ends in what is left
pub bare_left : (text : List ℕ) → IsBare (cut text).1
bare_left [] = refl
bare_left (byte ∷ text) =
    elim (cases_eq byte 10) as (λ _. IsBare (cut (byte ∷ text)).1) [
      | inl newline ↦ rw (eq-eqb byte 10 newline) (bare_left text)
      | inr apart ↦ (let other = ne_eqb byte 10 apart in rw other (onto_rest byte (cut text) other (bare_left text)))
    ]

-- bytes in which no line ends are the beginning of the next line
pub cut_behind : (front more : List ℕ) → IsBare front → cut (front ++ more) ≡ behind front (cut more)
cut_behind [] more bare = behind_nothing (cut more)
cut_behind (byte ∷ front) more bare =
    elim (cases_eq byte 10) as (λ _. cut ((byte ∷ front) ++ more) ≡ behind (byte ∷ front) (cut more)) [
      | inl newline ↦ (let ends = rw (eq-eqb byte 10 newline) at bare in absurd (some_line [] (cut front).0 (ap (λ (it : Cut). it.0) ends)))
      | inr apart ↦
          (let other = ne_eqb byte 10 apart in
          let rest = rw other at bare in
          rw other (ap (onto byte) (cut_behind front more (onto_bare byte (cut front) front rest)) ∙ onto_behind byte front (cut more)))
    ]

-- so no line ends in two such
pub bare_both : (front more : List ℕ) → IsBare front → IsBare more → IsBare (front ++ more)
bare_both front more first second = cut_behind front more first ∙ ap (behind front) second

-- behind them a newline ends the line
pub cut_ended : (line more : List ℕ) → IsBare line → cut (line ++ 10 ∷ more) ≡ (line ∷ (cut more).0, (cut more).1)
cut_ended line more bare =
    cut_behind line (10 ∷ more) bare ∙ ap (λ (first : List ℕ). (first ∷ (cut more).0, (cut more).1)) (append-nil line)

-- a line that ends in the block
cut_end : (text end more : List ℕ) → IsBare end → cut ((cut text).1 ++ (end ++ 10 ∷ more)) ≡ (((cut text).1 ++ end) ∷ (cut more).0, (cut more).1)
cut_end text end more bare =
    let kept : List ℕ = (cut text).1 in
    ap cut (sym (append_assoc kept end (10 ∷ more))) ∙ cut_ended (kept ++ end) more (bare_both kept end (bare_left text) bare)

pub cut_line : (text end : List ℕ) → IsBare end → cut (text ++ (end ++ 10 ∷ [])) ≡ ((cut text).0 ++ ((cut text).1 ++ end) ∷ [], [])
cut_line text end bare =
    cut_onward text (end ++ 10 ∷ []) ∙ ap (λ (given : Cut). ((cut text).0 ++ given.0, given.1)) (cut_end text end [] bare)

-- a block in which none ends
pub cut_kept : (text block : List ℕ) → IsBare block → cut (text ++ block) ≡ ((cut text).0, (cut text).1 ++ block)
cut_kept text block bare =
    cut_onward text block
    ∙ ap (λ (given : Cut). ((cut text).0 ++ given.0, given.1)) (bare_both (cut text).1 block (bare_left text) bare)
    ∙ ap (λ (lines : List (List ℕ)). (lines, (cut text).1 ++ block)) (append-nil (cut text).0)

-- ---- what is read

-- one line more
pub reads_on : (before between : TranscriptValue) (count : ℕ) (answer : Result TranscriptValue ReadFault) (line : List ℕ) (others : List (List ℕ)) (rest : List ℕ)
    → Takes before line between → ReadsFrom between (count + 1) answer (others, rest) → ReadsFrom before count answer (line ∷ others, rest)
reads_on before between count (Ok transcript) line others rest taken reads = (reads.0, (between, taken, reads.1))
reads_on before between count (Err (Line number)) line others rest taken reads = (suc reads.0, omega (arith, reads.1), (between, taken, reads.2))
reads_on before between count (Err NoMemory) line others rest taken reads = (suc reads.0, (between, taken, reads.1))

-- the transcript that some lines make, and then what is read behind it
pub reads_behind : (count : ℕ) (before between : TranscriptValue) (lines others : List (List ℕ)) (rest : List ℕ) (answer : Result TranscriptValue ReadFault)
    → TakesAll before lines between → ReadsFrom between (count + length lines) answer (others, rest) → ReadsFrom before count answer (lines ++ others, rest)
reads_behind count before between [] others rest answer taken reads =
    let same : count + 0 ≡ count = omega arith in
    subst (λ (given : TranscriptValue × ℕ). ReadsFrom given.0 given.1 answer (others, rest)) (λ i. (sym taken i, same i)) reads
reads_behind count before between (line ∷ lines) others rest answer (next, takes, taken) reads =
    let more : count + length (line ∷ lines) ≡ (count + 1) + length lines = omega arith in
    reads_on before next count answer line (lines ++ others) rest takes
    (reads_behind (count + 1) next between lines others rest answer taken (subst (λ (place : ℕ). ReadsFrom between place answer (others, rest)) more reads))

-- and taken
pub takes_one : (before between after : TranscriptValue) (lines : List (List ℕ)) (line : List ℕ) → TakesAll before lines between → Takes between line after
    → TakesAll before (lines ++ line ∷ []) after
takes_one before between after [] line taken takes = (after, subst (λ (given : TranscriptValue). Takes given line after) (sym taken) takes, refl)
takes_one before between after (first ∷ lines) line (next, one, taken) takes = (next, one, takes_one next between after lines line taken takes)

-- what is read of a text, and then of a block behind what was left
pub reads_block : (text more : List ℕ) (before : TranscriptValue) (answer : Result TranscriptValue ReadFault)
    → TakesAll no_lines (cut text).0 before → ReadsFrom before (length (cut text).0) answer (cut ((cut text).1 ++ more))
    → ReadsFrom no_lines 0 answer (cut (text ++ more))
reads_block text more before answer taken reads =
    let same : length (cut text).0 ≡ 0 + length (cut text).0 = omega arith in
    subst (ReadsFrom no_lines 0 answer) (sym (cut_onward text more))
    (reads_behind 0 no_lines before (cut text).0 (cut ((cut text).1 ++ more)).0 (cut ((cut text).1 ++ more)).1 answer taken
    (subst (λ (count : ℕ). ReadsFrom before count answer (cut ((cut text).1 ++ more))) same reads))

-- there are no more lines
pub reads_end : (before : TranscriptValue) (count : ℕ) (rest : List ℕ) → length rest ≡ 0 → ReadsFrom before count (Ok before) (cut rest)
reads_end before count [] none = (refl, refl)
reads_end before count (byte ∷ rest) none = absurd (omega (arith, none))

-- a line that is too long is refused, whatever its end is
refused_long : (before : TranscriptValue) (count : ℕ) (front : List ℕ) (given : Cut) → most_bytes < length front
    → ReadsFrom before count (Err (Line (count + 1))) (behind front given)
refused_long before count front ([], rest) long = (0, omega arith, (refl, omega (arith, long, length-append front rest)))
refused_long before count front (line ∷ others, rest) long =
    (0, omega arith, λ after taken. omega (arith, long, length-append front line, taken.1.0))

pub too_long : (text more front : List ℕ) (before : TranscriptValue) → TakesAll no_lines (cut text).0 before → IsBare front → most_bytes < length ((cut text).1 ++ front)
    → ReadsFrom no_lines 0 (Err (Line (length (cut text).0 + 1))) (cut (text ++ (front ++ more)))
too_long text more front before taken bare long =
    let kept : List ℕ = (cut text).1 in
    let both : cut (kept ++ (front ++ more)) ≡ behind (kept ++ front) (cut more) =
    ap cut (sym (append_assoc kept front more)) ∙ cut_behind (kept ++ front) more (bare_both kept front (bare_left text) bare) in
    reads_block text (front ++ more) before (Err (Line (length (cut text).0 + 1))) taken
    (subst (ReadsFrom before (length (cut text).0) (Err (Line (length (cut text).0 + 1)))) (sym both) (refused_long before (length (cut text).0) (kept ++ front) (cut more) long))

-- a line that ends in a block is refused
pub refused_end : (text end more : List ℕ) (before : TranscriptValue) → TakesAll no_lines (cut text).0 before → IsBare end → Refuses before ((cut text).1 ++ end)
    → ReadsFrom no_lines 0 (Err (Line (length (cut text).0 + 1))) (cut (text ++ (end ++ 10 ∷ more)))
refused_end text end more before taken bare refused =
    let whole = cut_end text end more bare in
    reads_block text (end ++ 10 ∷ more) before (Err (Line (length (cut text).0 + 1))) taken
    (subst (ReadsFrom before (length (cut text).0) (Err (Line (length (cut text).0 + 1)))) (sym whole)
    (0, omega arith, refused))
