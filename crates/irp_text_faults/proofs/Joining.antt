-- Texts in one line, put one behind the other.
use Rattle.std.proofs.Common.{ℕ, ◌≡◌, ◌<◌, ◌++◌, ◌+◌, ◌%◌, ◌^◌, mod-lt, List, [], ◌∷◌, Bool, true, ◌&&◌, arith, get_or, sym, ap, ◌∙◌, append-nil}
use Rattle.std.specs.List.{list_all, All}
use Rattle.std.specs.Fmt.{decimal}
use Rattle.std.proofs.Math.Utf8.{encode}
use Rattle.std.proofs.lemmas.Fmt.{decimal_by_steps}
use Rattle.std.proofs.lemmas.Grind.{common_steps}
use Rattle.std.proofs.lemmas.List.Elements.{All-from_get_or}
use Rattle.std.proofs.lemmas.List.Folds.{list_all-append}
use Rattle.std.proofs.lemmas.List.Sums.{list_all-from_AllPass}
use Rattle.std.proofs.lemmas.Str.{inside_one}
use Rattle.irp_text_faults.specs.OneLine.{IsOneLine, is_shown}

pub one_line_both : (one other : List ℕ) → IsOneLine one → IsOneLine other → IsOneLine (one ++ other)
one_line_both one other first second =
    list_all-append is_shown one other ∙ ap (λ (b : Bool). b && list_all is_shown other) first ∙ second

-- a byte of a character is shown, if the character is
shown_inside : (letter byte : ℕ) → (byte < 128 → letter ≡ byte) → is_shown letter ≡ true → is_shown byte ≡ true
shown_inside letter byte same shown = grind (arith, common_steps)

-- the bytes of a character
pub one_letter : (letter : ℕ) → is_shown letter ≡ true → IsOneLine (encode letter)
one_letter letter shown =
    list_all-from_AllPass is_shown (encode letter)
    (All-from_get_or (λ (byte : ℕ). is_shown byte ≡ true) (encode letter) 0
    (λ k inside. shown_inside letter (get_or (encode letter) k 0)
    (λ low. inside_one letter [] (encode letter) k (sym (append-nil (encode letter))) inside low) shown))

shown_digit : (digit : ℕ) → digit < 10 → is_shown (48 + digit) ≡ true
shown_digit digit few = grind (arith, common_steps)

-- a digit
one_digit : (digit : ℕ) → digit < 10 → IsOneLine ((48 + digit) ∷ [])
one_digit digit few = ap (λ (b : Bool). b && true) (shown_digit digit few)

-- a number
pub one_number : (number : ℕ) → number < 2 ^ 64 → IsOneLine (decimal number)
one_number = decimal_by_steps (λ _ text. IsOneLine text) one_digit
    (λ number digits _ before. one_line_both digits ((48 + number % 10) ∷ []) before (one_digit (number % 10) (mod-lt number (omega arith))))
