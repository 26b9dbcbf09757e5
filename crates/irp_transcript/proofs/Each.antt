-- Lists that are looked at from their beginning.
use Rattle.std.proofs.Common.{◌≡◌, ℕ, ◌+◌, ◌<◌, ◌≤◌, true, false, List, length, take, get_or, sym, subst, cond}
use Rattle.std.specs.List.{All}
use Rattle.std.proofs.lemmas.List.{take_all}
use Rattle.std.proofs.lemmas.List.Elements.{All-more}

pub no_truth : false ≡ true → ⊥
no_truth is = subst (λ test. cond test ⊥ (Unit {0})) is tt

-- one more that is so
pub each_more : {T : Type 0} (P : T → Type 0) (items : List T) (index : ℕ) (item : T) → index < length items → item ≡ get_or items index item
    → All P (take index items) → P item → All P (take (index + 1) items)
each_more P items index item within is all holds = All-more P items index item within all (subst P is holds)

-- one that isn't so
pub each_fails : {T : Type 0} (P : T → Type 0) (items : List T) (index : ℕ) (item : T) → index < length items → item ≡ get_or items index item
    → (P item → ⊥) → All P items → ⊥
each_fails P items index item within is fails all = fails (subst P (sym is) (all index item within))

-- all were looked at
pub each_done : {T : Type 0} (P : T → Type 0) (items : List T) (index : ℕ) → length items ≤ index → All P (take index items) → All P items
each_done P items index done all = subst (λ these. All P these) (take_all index items done) all
