-- Refused calls that are counted, and of which the first ones are kept.
use Rattle.std.proofs.Common.{◌≡◌, ◌+◌, ◌-◌, ◌≤◌, ℕ, zero, suc, List, [], ◌∷◌, ◌++◌, take, length, refl, sym, ap, ◌∙◌, arith, append_assoc, append-nil, Option, None, Some, Result, Ok, Err}
use Rattle.std.specs.Prelude.{OnOk}
use Rattle.std.proofs.lemmas.Grind.{common_steps}
use Rattle.std.proofs.lemmas.List.{length-append, take_at}
use Rattle.irp_types.specs.declared.entry.Entry.{Entry}
use Rattle.irp_types.specs.declared.refusal.Refusal.{Refusal}
use Rattle.irp_judge.specs.Differences.{refusal_in}
use Rattle.irp_view.specs.RefusedCalls.{HasNoted, most_told, refused_at, refused_from}
use Rattle.irp_view.specs.declared.refused_calls.RefusedCalls.{RefusedCalls}

-- one entry more
pub refused_more : (place : ℕ) (entries : List Entry) (entry : Entry) → refused_from place (entries ++ entry ∷ []) ≡ refused_from place entries ++ refused_at (place + length entries) (refusal_in entry.reply)
refused_more place [] entry =
    let none : List Entry = [] in
    let same : place ≡ place + length none = omega arith in
    append-nil (refused_at place (refusal_in entry.reply)) ∙ ap (λ (given : ℕ). refused_at given (refusal_in entry.reply)) same
refused_more place (first ∷ entries) entry =
    let same : (place + 1) + length entries ≡ place + length (first ∷ entries) = omega arith in
    ap (λ (given : List (ℕ × Refusal)). refused_at place (refusal_in first.reply) ++ given) (refused_more (place + 1) entries entry)
    ∙ ap (λ (given : ℕ). refused_at place (refusal_in first.reply) ++ (refused_from (place + 1) entries ++ refused_at given (refusal_in entry.reply))) same
    ∙ sym (append_assoc (refused_at place (refusal_in first.reply)) (refused_from (place + 1) entries) (refused_at (place + length (first ∷ entries)) (refusal_in entry.reply)))

at_most_one : (place : ℕ) (refusal : Option Refusal) → length (refused_at place refusal) ≤ 1
at_most_one place None = omega arith
at_most_one place (Some refusal) = omega arith

-- at most all calls are refused
pub refused_few : (place : ℕ) (entries : List Entry) → length (refused_from place entries) ≤ length entries
refused_few place [] = omega arith
refused_few place (entry ∷ entries) =
    omega (arith, length-append (refused_at place (refusal_in entry.reply)) (refused_from (place + 1) entries), at_most_one place (refusal_in entry.reply), refused_few (place + 1) entries)

-- the first of what was kept and one more
pub taken_twice : (count : ℕ) (items more : List (ℕ × Refusal)) → take count (take count items ++ more) ≡ take count (items ++ more)
taken_twice zero items more = refl
taken_twice (suc count) [] more = refl
taken_twice (suc count) (item ∷ items) more = ap (λ (given : List (ℕ × Refusal)). item ∷ given) (taken_twice count items more)

-- as many as are kept
pub kept_few : (count : ℕ) (items : List (ℕ × Refusal)) → length (take count items) ≤ count
kept_few count items = grind (arith, common_steps)

-- an entry came whose call isn't refused
pub notes_passed : (before after : RefusedCalls) (entries : List Entry) (entry : Entry) → HasNoted before entries → refusal_in entry.reply ≡ None → after.entries ≡ length (entries ++ entry ∷ []) → after.count ≡ before.count → after.first.items ≡ before.first.items
    → HasNoted after (entries ++ entry ∷ [])
notes_passed before after entries entry was none came count first =
    let same : refused_from 0 (entries ++ entry ∷ []) ≡ refused_from 0 entries =
    refused_more 0 entries entry ∙ ap (λ (given : Option Refusal). refused_from 0 entries ++ refused_at (0 + length entries) given) none ∙ append-nil (refused_from 0 entries) in
    record {
      came = came;
      counted = count ∙ was.counted ∙ ap length (sym same);
      kept = first ∙ was.kept ∙ ap (take most_told) (sym same);
    }

-- an entry came whose call is
pub notes_refused : (before after : RefusedCalls) (entries : List Entry) (entry : Entry) (refusal : Refusal) → HasNoted before entries → refusal_in entry.reply ≡ Some refusal → after.entries ≡ length (entries ++ entry ∷ []) → after.count ≡ before.count + 1
    → after.first.items ≡ take most_told (before.first.items ++ (before.entries, refusal) ∷ []) → HasNoted after (entries ++ entry ∷ [])
notes_refused before after entries entry refusal was is came count first =
    let place : before.entries ≡ 0 + length entries = omega (arith, was.came) in
    let same : refused_from 0 (entries ++ entry ∷ []) ≡ refused_from 0 entries ++ (before.entries, refusal) ∷ [] =
    refused_more 0 entries entry ∙ ap (λ (given : Option Refusal). refused_from 0 entries ++ refused_at (0 + length entries) given) is
    ∙ ap (λ (given : ℕ). refused_from 0 entries ++ (given, refusal) ∷ []) (sym place) in
    record {
      came = came;
      counted = omega (arith, count, was.counted, ap length same, length-append (refused_from 0 entries) ((before.entries, refusal) ∷ []));
      kept = first ∙ ap (λ (given : List (ℕ × Refusal)). take most_told (given ++ (before.entries, refusal) ∷ [])) was.kept
          ∙ taken_twice most_told (refused_from 0 entries) ((before.entries, refusal) ∷ []) ∙ ap (take most_told) (sym same);
    }

-- nothing is kept behind as many as that
pub kept_full : (count : ℕ) (items more : List (ℕ × Refusal)) → length items ≡ count → items ≡ take count (items ++ more)
kept_full count items more full = sym (take_at items more count full)

-- two facts about what went well
pub on_ok_both : {T E P Q R : Type 0} (result : Result T E) → (P → Q → R) → OnOk result P → OnOk result Q → OnOk result R
on_ok_both (Ok value) is one other = is one other
on_ok_both (Err fault) is one other = tt
