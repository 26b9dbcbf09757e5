-- Lines that fit, which go out one after another, and where they stop.
use Rattle.std.proofs.Common.{◌≡◌, ℕ, ◌+◌, ◌<◌, List, [], ◌∷◌, ◌++◌, map, length, take, drop, get_or, None, Some, Err, refl, sym, ap, ◌∙◌, subst, append_assoc, append-nil, length-append, arith, lit<}
use Rattle.std.proofs.lemmas.List.Elements.{All-more}
use Rattle.std.proofs.lemmas.Grind.{common_steps}
use Rattle.std.specs.List.{All}
use Rattle.std.specs.Io.KnownBytes.{Appends, Keeps}
use Rattle.serde_json.specs.Data.{Data}
use Rattle.serde_json.specs.Written.{compact_text}
use Rattle.irp_transcript_writer.specs.Json.{line_text}
use Rattle.irp_transcript_writer.specs.Lines.{text_of}
use Rattle.irp_transcript_writer.specs.Puts.{told, Sent, Stopped}
use Rattle.irp_streams.proofs.Pieces.{appends_kept, appends_then}
use Rattle.irp_transcript_writer.proofs.Puts.{line_some, sent_next, sent_none, text_next, text_rest}
use Rattle.irp_fast_reader.specs.Fits.{LineFits}
use Rattle.irp_fast_reader.specs.Fitting.{Begins, BeginsWithin, Bytes, Counts, PutsLine, PutsLines}
use Rattle.irp_fast_reader.specs.declared.unfit.{Unfit.Unfit, Unwritten.Unwritten}
use Rattle.irp_fast_reader.specs.declared.unfit.Unwritten.TheVariants as unwritten

-- ---- what went out

-- what is known stays
pub stays : (old : Bytes) → Keeps old old
stays None = tt
stays (Some bytes) = refl

-- no line
pub nothing : (old : Bytes) → Appends old old (text_of [])
nothing old = (sent_none 0 old (lit< tt)).gone

-- the line of a value, with its newline
pub line_is : (value : Data) (bytes : List ℕ) → bytes ≡ compact_text value ++ 10 ∷ [] → bytes ≡ line_text value
unfolding line_text
line_is value bytes is = is

pub sent : (text : List ℕ) (before : ℕ) (old new : Bytes) → Appends old new text → Sent text before old new (told (before + length text))
sent text before old new gone = record { gone = gone; count = refl }

pub begins : (text : List ℕ) (before : ℕ) (old new : Bytes) (written : ℕ) → Stopped text before old new written → Begins text old new
begins text before old new written stops = record { front = stops.front; rest = stops.rest; whole = stops.whole; short = stops.short; gone = stops.gone }

-- one more line
pub gone_next : {T : Type 0} (form : T → Data) (items : List T) (index : ℕ) (item : T) (old mid new : Bytes) → index < length items → item ≡ get_or items index item
    → Appends old mid (text_of (map form (take index items))) → Appends mid new (line_text (form item)) → Appends old new (text_of (map form (take (index + 1) items)))
gone_next form items index item old mid new within is one two =
    (sent_next form items index item 0 _ _ old mid new within is (sent _ 0 old mid one) (sent _ _ mid new two)).gone

-- what stands behind a text's front, whose second piece broke off
pub behind : (text front piece others taken left : List ℕ) → text ≡ front ++ (piece ++ others) → piece ≡ taken ++ left → text ≡ (front ++ taken) ++ (left ++ others)
behind text front piece others taken left whole broken =
    whole
    ∙ ap (λ (given : List ℕ). front ++ (given ++ others)) broken
    ∙ ap (λ (given : List ℕ). front ++ given) (append_assoc taken left others)
    ∙ sym (append_assoc front taken (left ++ others))

-- the same where nothing stands behind that piece
pub behind_last : (text front piece taken left : List ℕ) → text ≡ front ++ piece → piece ≡ taken ++ left → text ≡ (front ++ taken) ++ left
behind_last text front piece taken left whole broken =
    whole ∙ ap (λ (given : List ℕ). front ++ given) broken ∙ sym (append_assoc front taken left)

pub longer : (left others : List ℕ) → 0 < length left → 0 < length (left ++ others)
longer left others some = omega (arith, length-append left others)

-- a text of which this front went out, which is within a part of the text too
pub begins_within : (part text taken left rest : List ℕ) (old new : Bytes) → text ≡ taken ++ rest → 0 < length rest → part ≡ taken ++ left → Appends old new taken
    → BeginsWithin part text old new
begins_within part text taken left rest old new whole short within gone = record {
  begins = record { front = taken; rest = rest; whole = whole; short = short; gone = gone };
  left = left;
  within = within;
}

-- the lines up to where the output failed
broken_next : {T : Type 0} (form : T → Data) (items : List T) (index : ℕ) (item : T) (old mid new : Bytes) → index < length items → item ≡ get_or items index item
    → Appends old mid (text_of (map form (take index items))) → Begins (line_text (form item)) mid new
    → BeginsWithin (text_of (map form (take (index + 1) items))) (text_of (map form items)) old new
broken_next form items index item old mid new within is one two =
    let first = text_of (map form (take index items)) in
    let line = line_text (form item) in
    let more = text_of (map form (drop (index + 1) items)) in
    let next = text_next form items index item within is in
    let whole = text_rest form items (index + 1) ∙ ap (λ (text : List ℕ). text ++ more) next ∙ append_assoc first line more in
    begins_within _ _ (first ++ two.front) two.rest (two.rest ++ more) old new (behind _ first line more two.front two.rest whole two.whole)
    (longer two.rest more two.short)
    (behind_last _ first line two.front two.rest next two.whole)
    (appends_then first two.front old mid new one two.gone)

-- the lines up to where the memory failed
kept_next : {T : Type 0} (form : T → Data) (items : List T) (index : ℕ) (item : T) (old mid new : Bytes) → index < length items → item ≡ get_or items index item
    → Appends old mid (text_of (map form (take index items))) → Keeps mid new
    → BeginsWithin (text_of (map form (take index items))) (text_of (map form items)) old new
kept_next form items index item old mid new within is one two =
    let first = text_of (map form (take index items)) in
    let line = line_text (form item) in
    let more = text_of (map form (drop (index + 1) items)) in
    let next = text_next form items index item within is in
    let whole = text_rest form items (index + 1) ∙ ap (λ (text : List ℕ). text ++ more) next ∙ append_assoc first line more in
    begins_within _ _ first [] (line ++ more) old new whole (longer line more (line_some (form item))) (sym (append-nil first)) (appends_kept first old mid new one two)

-- ---- which fit

-- the item behind those that are
is_last : {T : Type 0} (P : T → Type 0) (items : List T) (index : ℕ) (item : T) → index < length items → item ≡ get_or items index item → All P (take (index + 1) items) → P item
is_last P items index item within is all =
    let same : get_or (take (index + 1) items) index item ≡ item = grind (arith, common_steps) in
    let inside : index < length (take (index + 1) items) = grind (arith, common_steps) in
    subst P same (all index item inside)

-- the lines stop at a fault
pub stops_at : {T : Type 0} (Told : T → Type 0) (form : T → Data) (unfit : ℕ → Unfit) (items : List T) (index : ℕ) (item : T) (old mid new : Bytes) (fault : Unwritten)
    → index < length items → item ≡ get_or items index item → All (LineFits Told form) (take index items)
    → Appends old mid (text_of (map form (take index items))) → PutsLine Told form (unfit index) item mid new (Err fault)
    → PutsLines Told form unfit items old new (Err fault)
stops_at Told form unfit items index item old mid new (unwritten.Unfit part) within is fits gone puts = (
  index,
  puts.0,
  record { within = within; before = fits; broken = λ all. puts.1 (is_last (LineFits Told form) items index item within is all) },
  appends_kept _ old mid new gone puts.2,
)
stops_at Told form unfit items index item old mid new unwritten.Output within is fits gone puts = (
  index + 1,
  All-more (LineFits Told form) items index item within fits (subst (LineFits Told form) is puts.0),
  broken_next form items index item old mid new within is gone puts.1,
)
stops_at Told form unfit items index item old mid new unwritten.NoMemory within is fits gone puts =
    (index, fits, kept_next form items index item old mid new within is gone puts)

-- the count of failures after a fault, where it was as at the start
pub counts_on : (fault : Unwritten) (old mid new : ℕ) → mid ≡ old → Counts {T = Unit {0}} mid new (Err fault) → Counts {T = Unit {0}} old new (Err fault)
counts_on fault old mid new same counts = subst (λ count. Counts {T = Unit {0}} count new (Err fault)) same counts
