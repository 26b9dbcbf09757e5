-- The numbers of seats that are handed round, and how often things are among some.
use Rattle.std.specs.Prelude.{ℕ, ◌≡◌, ◌≤◌, ◌==◌, Bool, List}
use Rattle.std.specs.List.{count_by}

-- how often a number is among some
abbrev pub how_often : ℕ → List ℕ → ℕ
how_often number numbers = count_by (λ each. each == number) numbers

-- the same numbers, each as often, in whatever order
abbrev pub AreSame : List ℕ → List ℕ → Type 0
AreSame before after = (number : ℕ) → how_often number after ≡ how_often number before

-- each as often, in whatever order: whatever is tested, as many pass
abbrev pub EachAsOften : {X : Type 0} → List X → List X → Type 0
EachAsOften {X} before after = (test : X → Bool) → count_by test after ≡ count_by test before

-- none more often: whatever is tested, no more pass
abbrev pub NoneMoreOften : {X : Type 0} → List X → List X → Type 0
NoneMoreOften {X} all some = (test : X → Bool) → count_by test some ≤ count_by test all
