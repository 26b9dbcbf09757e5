-- Tokens that are left.
use Rattle.std.proofs.Common.{◌≡◌, ℕ, true, Option, Some, None, sym, refl}
use mathlib.Core.Bool.{true≢false}
use Rattle.std.specs.Option.{is_some}
use Rattle.irp_slots.specs.declared.answers.Token.{Token}
use Rattle.irp_script.specs.declared.taken.Taken.{Taken}
use Rattle.irp_script.specs.AtSlots.{fresh}

pub taken_left : (taken : Taken) (slot : ℕ) → taken.slot ≡ slot → is_some taken.token ≡ true → (token : Token) × (taken ≡ fresh slot token)
taken_left taken slot is some = by taken.token refl some
  where
    by : (found : Option Token) → taken.token ≡ found → is_some found ≡ true → (token : Token) × (taken ≡ fresh slot token)
    by None has some = absurd (true≢false (sym some))
    by (Some token) has some = (token, λ i. record { slot = is i; token = has i })
