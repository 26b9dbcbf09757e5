-- Names that lines give, and entries that they list, one after the other.
use Rattle.std.proofs.Common.{ℕ, ◌≡◌, ◌≢◌, ◌<◌, ◌+◌, ◌∙◌, suc, arith, List, [], ◌∷◌, ◌++◌, Bor, length, get_or, drop, take, ap, subst, refl, append_assoc, Option, Some, None}
use Rattle.std.specs.Prelude.{MatchOption}
use Rattle.std.specs.Option.{option_map, unwrap_or}
use Rattle.std.proofs.lemmas.List.{get_or-drop, length-take-le, take_more}
use Rattle.std.proofs.lemmas.Option.{unwrap_or-slice_get}
use Rattle.irp_types.specs.declared.names.DispatchId.{DispatchId}
use Rattle.irp_types.specs.declared.routine.Rule.TheVariants as rule
use Rattle.irp_forms.specs.declared.key_parts.Part.{Part}
use Rattle.irp_grammar.specs.Lines.{next_of}
use Rattle.irp_grammar.specs.Naming.{Given, IsNameIn, Naming, with_name, with_names}
use Rattle.irp_grammar.specs.Routines.{TakeEntries, TakesEntry, TakesMore}

-- what `strip_suffix` says of a colon
pub is_name_in : (word : List ℕ) (r : Option (Bor (List ℕ)))
    → MatchOption r ((name : List ℕ) → word ≢ name ++ 58 ∷ []) (λ x. word ≡ x.now ++ 58 ∷ [])
    → IsNameIn word (option_map (λ (name : Bor (List ℕ)). name.now) r)
is_name_in word (Some name) is = is
is_name_in word None is = is

-- the word behind so many
pub next_behind : (words : List (List ℕ)) (count : ℕ) → next_of (drop count words) ≡ get_or words count []
next_behind words count =
    let sum : count + 0 ≡ count = omega (arith) in
    unwrap_or-slice_get (drop count words) 0 [] ∙ get_or-drop count words 0 [] ∙ ap (λ (n : ℕ). get_or words n []) sum

with_names_more : (its : Part) (from : ℕ) (words : List (List ℕ)) (word : List ℕ) (old : Given)
    → with_names its from (words ++ word ∷ []) old ≡ with_name its rule.Watch word (from + length words) (with_names its from words old)
with_names_more its from [] word old =
    let sum : from ≡ from + 0 = omega (arith) in ap (λ (n : ℕ). with_name its rule.Watch word n old) sum
with_names_more its from (first ∷ words) word old =
    let sum : (from + 1) + length words ≡ from + suc (length words) = omega (arith) in
    let given = with_name its rule.Watch first from old in
    with_names_more its (from + 1) words word given
    ∙ ap (λ (n : ℕ). with_name its rule.Watch word n (with_names its (from + 1) words given)) sum

-- one name more
pub names_more : (its : Part) (words : List (List ℕ)) (count : ℕ) (old : Given) → count < length words
    → with_names its 0 (take (count + 1) words) old
    ≡ with_name its rule.Watch (get_or words count []) count (with_names its 0 (take count words) old)
names_more its words count old below =
    let before = with_names its 0 (take count words) old in
    let length_is = length-take-le count words (omega (arith, below)) in
    let number : 0 + length (take count words) ≡ count = omega (arith, length_is) in
    ap (λ (some : List (List ℕ)). with_names its 0 some old) (take_more words count [] below)
    ∙ with_names_more its 0 (take count words) (get_or words count []) old
    ∙ ap (λ (n : ℕ). with_name its rule.Watch (get_or words count []) n before) number

-- one entry more
entries_more : (names : List Naming) (words behind rest : List (List ℕ)) (entries : List (ℕ × DispatchId)) (entry : ℕ × DispatchId)
    → TakeEntries names words behind entries → TakesEntry names behind rest entry
    → TakeEntries names words rest (entries ++ entry ∷ [])
entries_more names words behind rest [] entry is takes =
    (rest, subst (λ (some : List (List ℕ)). TakesEntry names some rest entry) is takes, refl)
entries_more names words behind rest (first ∷ entries) entry take takes =
    (take.0, take.1, entries_more names take.0 behind rest entries entry take.2 takes)

pub takes_more : (names : List Naming) (words behind rest : List (List ℕ)) (before between after : List (ℕ × DispatchId))
    (entry : ℕ × DispatchId) → TakesMore names words behind before between → TakesEntry names behind rest entry
    → after ≡ between ++ entry ∷ [] → TakesMore names words rest before after
takes_more names words behind rest before between after entry (more, take, is) takes put = (
  more ++ entry ∷ [],
  entries_more names words behind rest more entry take takes,
  put ∙ ap (λ (some : List (ℕ × DispatchId)). some ++ entry ∷ []) is ∙ append_assoc before more (entry ∷ []),
)
