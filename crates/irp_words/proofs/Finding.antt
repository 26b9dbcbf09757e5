-- The first byte of a text that meets a test.
use Rattle.std.proofs.Common.{arith, ◌≡◌, ◌<◌, ◌+◌, ◌∙◌, ℕ, zero, suc, Bool, true, false, if◌then◌else◌, List, [], ◌∷◌, length, take, get_or, Some, None, ap, refl, subst, sym}
use Rattle.std.specs.List.{find}

-- where a test is met by no byte before one that meets it, that is the first
pub finds_first : (test : ℕ → Bool) (text : List ℕ) (i d : ℕ) → i < length text → find test (take i text) ≡ None
    → test (get_or text i d) ≡ true → find test text ≡ Some (get_or text i d)
finds_first test [] i d below none is = absurd (omega (arith, below))
finds_first test (byte ∷ text) zero d below none is = ap (λ (b : Bool). if b then Some byte else find test text) is
finds_first test (byte ∷ text) (suc i) d below none is =
    by (test byte) refl (λ rest. finds_first test text i d (omega (arith, below)) rest is)
  where
    by : (b : Bool) → test byte ≡ b → (find test (take i text) ≡ None → find test text ≡ Some (get_or text i d))
        → find test (byte ∷ text) ≡ Some (get_or text i d)
    by true met later =
        let some : Some byte ≡ None =
        sym (ap (λ (b : Bool). if b then Some byte else find test (take i text)) met) ∙ none in
        absurd (let never : ⊥ = cc in never)
    by false not_met later =
        ap (λ (b : Bool). if b then Some byte else find test text) not_met
        ∙ later (sym (ap (λ (b : Bool). if b then Some byte else find test (take i text)) not_met) ∙ none)

-- one more byte that doesn't meet it
pub finds_none : (test : ℕ → Bool) (text : List ℕ) (i d : ℕ) → i < length text → find test (take i text) ≡ None
    → test (get_or text i d) ≡ false → find test (take (i + 1) text) ≡ None
finds_none test [] i d below none is = absurd (omega (arith, below))
finds_none test (byte ∷ text) zero d below none is = ap (λ (b : Bool). if b then Some byte else None) is
finds_none test (byte ∷ text) (suc i) d below none is =
    let same : suc (i + 1) ≡ suc i + 1 = omega arith in
    subst (λ (n : ℕ). find test (take n (byte ∷ text)) ≡ None) same
    (by (test byte) refl (λ rest. finds_none test text i d (omega (arith, below)) rest is))
  where
    by : (b : Bool) → test byte ≡ b → (find test (take i text) ≡ None → find test (take (i + 1) text) ≡ None)
        → find test (byte ∷ take (i + 1) text) ≡ None
    by true met later =
        let some : Some byte ≡ None =
        sym (ap (λ (b : Bool). if b then Some byte else find test (take i text)) met) ∙ none in
        absurd (let never : ⊥ = cc in never)
    by false not_met later =
        ap (λ (b : Bool). if b then Some byte else find test (take (i + 1) text)) not_met
        ∙ later (sym (ap (λ (b : Bool). if b then Some byte else find test (take i text)) not_met) ∙ none)
