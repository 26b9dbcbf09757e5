-- Words that are put one after the other, of which something holds.
use Rattle.std.proofs.Common.{◌≡◌, ◌≢◌, ℕ, ◌+◌, ◌<◌, Bor, List, [], ◌∷◌, ◌++◌, codes, get_or, length, take, Option, refl, sym, subst, ap, ◌∙◌, append_assoc, append-nil}
use Rattle.std.proofs.lemmas.List.{flat_map_more, get_or-map, length-map, take_more}
use Rattle.std.specs.List.{flat_map}
use Rattle.irp_forms.specs.Steps.{ActKey, act_word, keys_named, keys_of}
use Rattle.irp_forms.specs.declared.key_parts.Part.{Part}
use Rattle.irp_forms.specs.declared.step_names.ActKind.{ActKind}
use Rattle.irp_names.proofs.Saying.{says_both}
use Rattle.irp_names.specs.Sinks.{Says}
use Rattle.irp_grammar.specs.Faults.{AreFaultLines, Begins, Ends, IsExpected, IsFaultLine, SaysAny, SaysOne, hint_said, key_said, keys_said, place_said}
use Rattle.irp_grammar.specs.declared.cursor.WordsFault.{WordsFault}
use Rattle.irp_grammar.specs.declared.wanted.Wanted.{Wanted}
use Rattle.irp_grammar.specs.declared.wanted.Wanted.TheVariants as wanted

-- words, and others behind them
pub any_both : (first next : List ℕ) (before between after : Option (List ℕ)) → Says first before between → Says next between after → SaysAny before after
any_both first next before between after h k = record {
  words = first ++ next;
  holds = tt;
  says = says_both first next before between after h k;
}

-- any words between these
pub any_between : (first last : List ℕ) (before one other after : Option (List ℕ)) → Says first before one → SaysAny one other → Says last other after → SaysAny before after
any_between first last before one other after h any k =
    any_both (first ++ any.words) last before other after (says_both first any.words before one other h any.says) k

-- one more key
each_more : (keys : List (Bor (List ℕ) × Part)) (i : ℕ) (d : Bor (List ℕ) × Part) → i < length keys → flat_map key_said (take (i + 1) (keys_named keys)) ≡ flat_map key_said (take i (keys_named keys)) ++ key_said ((get_or keys i d).0.now, (get_or keys i d).1)
each_more keys i d h =
    let named : List ActKey = keys_named keys in
    let name : Bor (List ℕ) × Part → ActKey = λ key. (key.0.now, key.1) in
    let below : i < length named = rw length-map h in
    let taken = take_more named i (name d) below ∙ ap (λ (key : ActKey). take i named ++ key ∷ []) (get_or-map name keys i d (name d) h) in
    ap (λ (front : List ActKey). flat_map key_said front) taken ∙ sym (flat_map_more key_said [] (take i named) (name (get_or keys i d)))

pub says_key : (keys : List (Bor (List ℕ) × Part)) (i : ℕ) (d : Bor (List ℕ) × Part) (a b c e : Option (List ℕ)) → i < length keys → Says (flat_map key_said (take i (keys_named keys))) a b → Says (codes " ") b c → Says (get_or keys i d).0.now c e → Says (flat_map key_said (take (i + 1) (keys_named keys))) a e
says_key keys i d a b c e h before blank name =
    rw (each_more keys i d h) (says_both _ _ a b e before (says_both _ _ b c e blank name))

-- an act, and its keys
pub says_act : (act : ActKind) (word : List ℕ) (keys : List ActKey) (a b c d : Option (List ℕ)) → word ≡ act_word act → keys ≡ keys_of act → Says word a b → Says (codes ", each once:") b c → Says (flat_map key_said keys) c d → Says (keys_said act) a d
says_act act word keys a b c d is these first then last =
    rw (sym is, sym these) (says_both _ _ a b d first (says_both _ _ b c d then last))

-- the keys of an act, where one was expected
pub says_keys : (one : Wanted) (act : ActKind) (before after : Option (List ℕ)) → one ≡ wanted.Key act → Says (keys_said act) before after → SaysOne (Ends one) before after
says_keys one act before after is says =
    subst (λ (it : Wanted). SaysOne (Ends it) before after) (sym is) (record { words = keys_said act; holds = refl; says = says })

-- what begins as what was expected does, and ends so
front_kept : (front rest : List ℕ) → front ≢ [] → front ++ rest ≢ []
front_kept [] rest h e = absurd (h refl)
front_kept (byte ∷ front) rest h e = cc

expected_by : (one : Wanted) (front rest : List ℕ) → Begins one front → Ends one rest → IsExpected one (front ++ rest)
expected_by (wanted.Key act) front rest begins ends =
    ap (λ (words : List ℕ). words ++ rest) begins ∙ ap (λ (words : List ℕ). codes "a key of " ++ words) ends
expected_by other front rest begins ends = front_kept front rest begins

pub says_expected : (one : Wanted) (front : List ℕ) (before between after : Option (List ℕ)) → Begins one front → Says front before between → SaysOne (Ends one) between after → SaysOne (IsExpected one) before after
says_expected one front before between after begins says ends = record {
  words = front ++ ends.words;
  holds = expected_by one front ends.words begins ends.holds;
  says = says_both front ends.words before between after says ends.says;
}

-- the pieces of a line
pub says_line : (fault : WordsFault) (a b c d e f : Option (List ℕ)) → Says (place_said fault) a b → Says (codes "; expected ") b c → SaysOne (IsExpected fault.wanted) c d → Says (hint_said fault.hint) d e → Says (codes "\n") e f → SaysOne (IsFaultLine fault) a f
says_line fault a b c d e f place then told hint end =
    let words = told.words in
    let last : Says (hint_said fault.hint ++ codes "\n") d f = says_both _ _ d e f hint end in
    let rest : Says (words ++ (hint_said fault.hint ++ codes "\n")) c f = says_both _ _ c d f told.says last in
    let behind : Says (codes "; expected " ++ (words ++ (hint_said fault.hint ++ codes "\n"))) b f = says_both _ _ b c f then rest in
    record {
      words = place_said fault ++ (codes "; expected " ++ (words ++ (hint_said fault.hint ++ codes "\n")));
      holds = record { expected = words; wanted = told.holds; whole = refl };
      says = says_both _ _ a b f place behind;
    }

-- one more line
lines_more : (faults : List WordsFault) (fault : WordsFault) (text line : List ℕ) → AreFaultLines faults text → IsFaultLine fault line → AreFaultLines (faults ++ fault ∷ []) (text ++ line)
lines_more [] fault text line is more = (line, [], more, refl, ap (λ (front : List ℕ). front ++ line) is ∙ sym (append-nil line))
lines_more (first ∷ others) fault text line is more = (
  is.0,
  is.1 ++ line,
  is.2,
  lines_more others fault is.1 line is.3 more,
  ap (λ (whole : List ℕ). whole ++ line) is.4 ∙ append_assoc is.0 is.1 line,
)

pub says_more : (faults : List WordsFault) (i : ℕ) (d : WordsFault) (before between after : Option (List ℕ)) → i < length faults → SaysOne (AreFaultLines (take i faults)) before between → SaysOne (IsFaultLine (get_or faults i d)) between after → SaysOne (AreFaultLines (take (i + 1) faults)) before after
says_more faults i d before between after h lines line = rw (take_more faults i d h) (record {
  words = lines.words ++ line.words;
  holds = lines_more (take i faults) (get_or faults i d) lines.words line.words lines.holds line.holds;
  says = says_both lines.words line.words before between after lines.says line.says;
})
