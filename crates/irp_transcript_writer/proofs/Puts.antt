-- Texts that go out one after another: what was sent and where it stopped, for two texts and for the lines of values.
use Rattle.std.proofs.Common.{◌≡◌, ℕ, zero, suc, ◌+◌, ◌^◌, ◌<◌, ◌≤◌, List, [], ◌∷◌, ◌++◌, map, length, take, drop, get_or, Option, refl, sym, ap, ◌∙◌, subst, append_assoc, append-nil, arith, length-append, length-drop}
use Rattle.std.proofs.lemmas.List.{take-append-drop, length-take-le}
use Rattle.std.proofs.lemmas.Grind.{common_steps}
use Rattle.std.specs.Io.KnownBytes.{Appends}
use Rattle.serde_json.specs.Data.{Data}
use Rattle.serde_json.specs.Written.{compact_text}
use Rattle.irp_streams.proofs.Pieces.{appends_none, appends_then}
use Rattle.irp_transcript_writer.specs.Json.{line_text}
use Rattle.irp_transcript_writer.specs.Lines.{text_of, lines, header_lines, entry_json, word_json}
use Rattle.irp_transcript_writer.specs.Puts.{told, Sent, Stopped}
use Rattle.irp_types.specs.declared.entry.Entry.{Entry}
use Rattle.irp_transcript.specs.Transcripts.{TranscriptValue}
use Rattle.irp_transcript.specs.declared.header.Header.{Header}
use Rattle.irp_transcript.specs.declared.word_line.WordLine.{WordLine}

told_on : (before first second count : ℕ) → count ≡ told (before + first) → told (count + second) ≡ told (before + (first + second))
told_on before first second count same = rw same (omega arith)

-- ---- two texts

longer : (first second : List ℕ) → 0 < length first → 0 < length (first ++ second)
longer first second some = omega (arith, length-append first second)

pub sent_then : (first second : List ℕ) (before middle after : ℕ) (old mid new : Option (List ℕ)) → Sent first before old mid middle → Sent second middle mid new after → Sent (first ++ second) before old new after
sent_then first second before middle after old mid new one two = record {
  gone = appends_then first second old mid new one.gone two.gone;
  count = two.count ∙ told_on before (length first) (length second) middle one.count ∙ ap (λ size. told (before + size)) (sym (length-append first second));
}

pub stopped_then : (first second : List ℕ) (before middle after : ℕ) (old mid new : Option (List ℕ)) → Sent first before old mid middle → Stopped second middle mid new after → Stopped (first ++ second) before old new after
stopped_then first second before middle after old mid new one two = record {
  front = first ++ two.front;
  rest = two.rest;
  short = two.short;
  whole = ap (λ text. first ++ text) two.whole ∙ sym (append_assoc first two.front two.rest);
  gone = appends_then first two.front old mid new one.gone two.gone;
  count = two.count ∙ told_on before (length first) (length two.front) middle one.count ∙ ap (λ size. told (before + size)) (sym (length-append first two.front));
}

pub stopped_more : (first second : List ℕ) (before after : ℕ) (old new : Option (List ℕ)) → Stopped first before old new after → Stopped (first ++ second) before old new after
stopped_more first second before after old new one = record {
  front = one.front;
  rest = one.rest ++ second;
  short = longer one.rest second one.short;
  whole = ap (λ text. text ++ second) one.whole ∙ append_assoc one.front one.rest second;
  gone = one.gone;
  count = one.count;
}

-- the first bytes of a text
pub stopped_at : (text : List ℕ) (before done : ℕ) (old new : Option (List ℕ)) → done < length text → Appends old new (take done text) → Stopped text before old new (told (before + done))
stopped_at text before done old new within gone = record {
  front = take done text;
  rest = drop done text;
  short = omega (arith, length-drop done text);
  whole = sym (take-append-drop done text);
  gone = gone;
  count = ap (λ size. told (before + size)) (sym (length-take-le done text (omega arith)));
}

-- a line has a newline at least
pub line_some : (value : Data) → 0 < length (line_text value)
unfolding line_text
line_some value = omega (arith, length-append (compact_text value) (10 ∷ []))

-- no byte of a line went out
pub stopped_first : (value : Data) (before : ℕ) (old : Option (List ℕ)) → before < 2 ^ 64 → Stopped (line_text value) before old old before
stopped_first value before old fits = record {
  front = [];
  rest = line_text value;
  whole = refl;
  short = line_some value;
  gone = appends_none old;
  count = omega arith;
}

-- ---- the lines of values

take_all : {T : Type 0} (count : ℕ) (items : List T) → length items ≤ count → take count items ≡ items
take_all count items within = grind (arith, common_steps)

pub text_next : {T : Type 0} (form : T → Data) (items : List T) (index : ℕ) (item : T) → index < length items → item ≡ get_or items index item → text_of (map form (take (index + 1) items)) ≡ text_of (map form (take index items)) ++ line_text (form item)
unfolding text_of
text_next form [] index item within is = absurd (omega arith)
text_next form (first ∷ others) zero item within is = ap (λ value. line_text (form value) ++ []) (sym is) ∙ append-nil (line_text (form item))
text_next form (first ∷ others) (suc index) item within is =
    ap (λ count. text_of (map form (take count (first ∷ others)))) (let same : suc index + 1 ≡ suc (index + 1) = omega arith in same)
    ∙ ap (λ text. line_text (form first) ++ text) (text_next form others index item (omega arith) is)
    ∙ sym (append_assoc (line_text (form first)) (text_of (map form (take index others))) (line_text (form item)))

pub text_rest : {T : Type 0} (form : T → Data) (items : List T) (index : ℕ) → text_of (map form items) ≡ text_of (map form (take index items)) ++ text_of (map form (drop index items))
unfolding text_of
text_rest form [] zero = refl
text_rest form [] (suc index) = refl
text_rest form (first ∷ others) zero = refl
text_rest form (first ∷ others) (suc index) =
    ap (λ text. line_text (form first) ++ text) (text_rest form others index)
    ∙ sym (append_assoc (line_text (form first)) (text_of (map form (take index others))) (text_of (map form (drop index others))))

-- no line yet
pub sent_none : (before : ℕ) (old : Option (List ℕ)) → before < 2 ^ 64 → Sent (text_of []) before old old before
unfolding text_of
sent_none before old fits = record { gone = appends_none old; count = omega arith }

-- one more line
pub sent_next : {T : Type 0} (form : T → Data) (items : List T) (index : ℕ) (item : T) (before middle after : ℕ) (old mid new : Option (List ℕ)) → index < length items → item ≡ get_or items index item
    → Sent (text_of (map form (take index items))) before old mid middle → Sent (line_text (form item)) middle mid new after → Sent (text_of (map form (take (index + 1) items))) before old new after
sent_next form items index item before middle after old mid new within is one two =
    subst (λ text. Sent text before old new after) (sym (text_next form items index item within is)) (sent_then _ _ before middle after old mid new one two)

-- the lines up to a fault
pub stopped_next : {T : Type 0} (form : T → Data) (items : List T) (index : ℕ) (item : T) (before middle after : ℕ) (old mid new : Option (List ℕ)) → index < length items → item ≡ get_or items index item
    → Sent (text_of (map form (take index items))) before old mid middle → Stopped (line_text (form item)) middle mid new after → Stopped (text_of (map form items)) before old new after
stopped_next form items index item before middle after old mid new within is one two =
    let more = text_of (map form (drop (index + 1) items)) in
    let whole = text_rest form items (index + 1) ∙ ap (λ text. text ++ more) (text_next form items index item within is) in
    subst (λ text. Stopped text before old new after) (sym whole) (stopped_more _ more before after old new (stopped_then _ _ before middle after old mid new one two))

-- every line
pub sent_all : {T : Type 0} (form : T → Data) (items : List T) (index before after : ℕ) (old new : Option (List ℕ)) → length items ≤ index → Sent (text_of (map form (take index items))) before old new after → Sent (text_of (map form items)) before old new after
sent_all form items index before after old new within sent = subst (λ these. Sent (text_of (map form these)) before old new after) (take_all index items within) sent

-- ---- the three parts of a transcript

text_append : (first second : List Data) → text_of (first ++ second) ≡ text_of first ++ text_of second
unfolding text_of
text_append [] second = refl
text_append (value ∷ others) second = ap (λ text. line_text value ++ text) (text_append others second) ∙ sym (append_assoc (line_text value) (text_of others) (text_of second))

-- the text of one line
pub text_one : (value : Data) → line_text value ≡ text_of (value ∷ [])
unfolding text_of
text_one value = sym (append-nil (line_text value))

abbrev entries_text : List Entry → List ℕ
entries_text entries = text_of (map entry_json entries)

abbrev words_text : List WordLine → List ℕ
words_text words = text_of (map word_json words)

pub parts : (t : TranscriptValue) → text_of (lines t) ≡ text_of (header_lines t.header) ++ (entries_text t.entries ++ words_text t.words)
parts t =
    text_append (header_lines t.header) (map entry_json t.entries ++ map word_json t.words)
    ∙ ap (λ text. text_of (header_lines t.header) ++ text) (text_append (map entry_json t.entries) (map word_json t.words))

-- the header's line, the entries' lines and the word lines went out
pub all_sent : (t : TranscriptValue) (header : Option Header) (entries : List Entry) (words : List WordLine) (first second third : ℕ) (old one two new : Option (List ℕ))
    → header ≡ t.header → entries ≡ t.entries → words ≡ t.words
    → Sent (text_of (header_lines header)) 0 old one first → Sent (entries_text entries) first one two second → Sent (words_text words) second two new third
    → Appends old new (text_of (lines t))
all_sent t header entries words first second third old one two new a b c p q r =
    subst (λ text. Appends old new text)
    (ap (λ these. text_of (header_lines these) ++ (entries_text entries ++ words_text words)) a
    ∙ ap (λ these. text_of (header_lines t.header) ++ (entries_text these ++ words_text words)) b
    ∙ ap (λ these. text_of (header_lines t.header) ++ (entries_text t.entries ++ words_text these)) c
    ∙ sym (parts t))
    (sent_then _ _ 0 first third old one new p (sent_then _ _ first second third one two new q r)).gone

-- the header's line stopped
pub first_stopped : (t : TranscriptValue) (header : Option Header) (after : ℕ) (old new : Option (List ℕ)) → header ≡ t.header
    → Stopped (text_of (header_lines header)) 0 old new after → Stopped (text_of (lines t)) 0 old new after
first_stopped t header after old new a p =
    subst (λ text. Stopped text 0 old new after) (sym (parts t))
    (stopped_more _ (entries_text t.entries ++ words_text t.words) 0 after old new (subst (λ these. Stopped (text_of (header_lines these)) 0 old new after) a p))

-- the entries' lines stopped
pub second_stopped : (t : TranscriptValue) (header : Option Header) (entries : List Entry) (first after : ℕ) (old one new : Option (List ℕ)) → header ≡ t.header → entries ≡ t.entries
    → Sent (text_of (header_lines header)) 0 old one first → Stopped (entries_text entries) first one new after → Stopped (text_of (lines t)) 0 old new after
second_stopped t header entries first after old one new a b p q =
    subst (λ text. Stopped text 0 old new after) (sym (parts t))
    (stopped_then _ _ 0 first after old one new (subst (λ these. Sent (text_of (header_lines these)) 0 old one first) a p)
    (stopped_more _ (words_text t.words) first after one new (subst (λ these. Stopped (entries_text these) first one new after) b q)))

-- the word lines stopped
pub third_stopped : (t : TranscriptValue) (header : Option Header) (entries : List Entry) (words : List WordLine) (first second after : ℕ) (old one two new : Option (List ℕ))
    → header ≡ t.header → entries ≡ t.entries → words ≡ t.words
    → Sent (text_of (header_lines header)) 0 old one first → Sent (entries_text entries) first one two second → Stopped (words_text words) second two new after
    → Stopped (text_of (lines t)) 0 old new after
third_stopped t header entries words first second after old one two new a b c p q r =
    subst (λ text. Stopped text 0 old new after) (sym (parts t))
    (stopped_then _ _ 0 first after old one new (subst (λ these. Sent (text_of (header_lines these)) 0 old one first) a p)
    (stopped_then _ _ first second after one two new (subst (λ these. Sent (entries_text these) first one two second) b q) (subst (λ these. Stopped (words_text these) second two new after) c r)))
