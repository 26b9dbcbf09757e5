-- Seats that learn of an entry, one after the other.
use Rattle.std.proofs.Common.{◌≡◌, ◌<◌, ◌≤◌, ◌+◌, ℕ, suc, List, [], ◌∷◌, below_more, length, get_or, map, set, refl, ap, ◌∙◌, arith}
use Rattle.std.proofs.lemmas.List.{get_or-set_other, get_or-set_same, get_or_read}
use Rattle.irp_script.specs.Working.{AtWork, caught_up}

pub saw_more : {S : Type 0} (f : S → AtWork) (n i : ℕ) (first seats : List S) (old new : S) → i < length seats → old ≡ get_or seats i old → f new ≡ caught_up n (f old)
    → ((k : ℕ) (one : S) → k < i → f (get_or seats k one) ≡ caught_up n (f (get_or first k one)))
    → ((k : ℕ) (one : S) → i ≤ k → get_or seats k one ≡ get_or first k one)
    → (k : ℕ) (one : S) → k < i + 1 → f (get_or (set seats i new) k one) ≡ caught_up n (f (get_or first k one))
saw_more {S} f n i first seats old new lt here saw so_far rest k one less =
    below_more (λ k. f (get_or (set seats i new) k one) ≡ caught_up n (f (get_or first k one))) i
    (λ k less. ap f (get_or-set_other seats i k new one (λ is. absurd (omega (arith, is, less)))) ∙ so_far k one less)
    (ap f (get_or-set_same seats i new one lt) ∙ saw ∙ ap (λ own. caught_up n (f own)) (get_or_read seats i old lt here one ∙ rest i one (omega arith)))
    k less

-- in the end all have
pub saw_all : {S : Type 0} (f : S → AtWork) (n : ℕ) (first seats : List S) → length seats ≡ length first
    → ((k : ℕ) (one : S) → k < length seats → f (get_or seats k one) ≡ caught_up n (f (get_or first k one)))
    → map f seats ≡ map (caught_up n) (map f first)
saw_all f n [] [] long each = refl
saw_all f n [] (seat ∷ seats) long each = absurd (omega (arith, long))
saw_all f n (first ∷ firsts) [] long each = absurd (omega (arith, long))
saw_all f n (first ∷ firsts) (seat ∷ seats) long each =
    let rest = saw_all f n firsts seats (omega (arith, long)) (λ k one lt. each (suc k) one (omega (arith, lt))) in
    let here = each 0 seat (omega arith) in
    λ i. here i ∷ rest i
