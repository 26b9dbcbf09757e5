-- The first reason of several.
use Rattle.std.proofs.Common.{◌≡◌, ℕ, ◌+◌, ◌<◌, zero, suc, map, Option, Some, None, refl, sym, ◌∙◌, ap, subst, arith}
use Rattle.std.specs.List.{range_with_len}
use Rattle.std.specs.Option.{option_or}
use Rattle.std.proofs.lemmas.Option.{none-some}
use Rattle.irp_routines.specs.Tables.{first_reason}
use Rattle.irp_routines.specs.declared.not_added.Reason.{Reason}

-- of two options the first is none, and so is the second
pub both_none : (first second : Option Reason) → option_or first second ≡ None → (first ≡ None) × (second ≡ None)
both_none None second none = (refl, none)
both_none (Some reason) second none = absurd (none-some reason (sym none))

plus_none : (number : ℕ) → number + 0 ≡ number
plus_none number = omega arith

plus_one : (number more : ℕ) → number + suc more ≡ (number + 1) + more
plus_one number more = omega arith

suc_plus : (number : ℕ) → suc (number + 1) ≡ suc number + 1
suc_plus number = omega arith

-- the three facts below, from any place on
first_from : (at : ℕ → Option Reason) (start before count : ℕ) (reason : Reason)
    → before < count → first_reason (map at (range_with_len start before)) ≡ None → at (start + before) ≡ Some reason
    → first_reason (map at (range_with_len start count)) ≡ Some reason
first_from at start before zero reason within none is = absurd (omega (arith, within))
first_from at start zero (suc count) reason within none is =
    ap (λ given. option_or given (first_reason (map at (range_with_len (start + 1) count)))) (subst (λ place. at place ≡ Some reason) (plus_none start) is)
first_from at start (suc before) (suc count) reason within none is =
    let both = both_none (at start) (first_reason (map at (range_with_len (start + 1) before))) none in
    ap (λ given. option_or given (first_reason (map at (range_with_len (start + 1) count)))) both.0
    ∙ first_from at (start + 1) before count reason (omega (arith, within)) both.1 (subst (λ place. at place ≡ Some reason) (plus_one start before) is)

none_from : (at : ℕ → Option Reason) (start count place : ℕ) → first_reason (map at (range_with_len start count)) ≡ None → place < count → at (start + place) ≡ None
none_from at start zero place none within = absurd (omega (arith, within))
none_from at start (suc count) zero none within = subst (λ place. at place ≡ None) (sym (plus_none start)) (both_none (at start) (first_reason (map at (range_with_len (start + 1) count))) none).0
none_from at start (suc count) (suc place) none within =
    subst (λ given. at given ≡ None) (sym (plus_one start place))
    (none_from at (start + 1) count place (both_none (at start) (first_reason (map at (range_with_len (start + 1) count))) none).1 (omega (arith, within)))

more_from : (at : ℕ → Option Reason) (start count : ℕ) → first_reason (map at (range_with_len start count)) ≡ None → at (start + count) ≡ None → first_reason (map at (range_with_len start (count + 1))) ≡ None
more_from at start zero none is = ap (λ given. option_or given None) (subst (λ place. at place ≡ None) (plus_none start) is)
more_from at start (suc count) none is =
    let both = both_none (at start) (first_reason (map at (range_with_len (start + 1) count))) none in
    subst (λ number. first_reason (map at (range_with_len start number)) ≡ None) (suc_plus count)
    (ap (λ given. option_or given (first_reason (map at (range_with_len (start + 1) (count + 1))))) both.0
    ∙ more_from at (start + 1) count both.1 (subst (λ place. at place ≡ None) (plus_one start count) is))

from_none : (place : ℕ) → place ≡ 0 + place
from_none place = omega arith

-- where no place before has a reason, the reason of a place is the first
pub first_at : (at : ℕ → Option Reason) (place count : ℕ) (reason : Reason)
    → place < count → first_reason (map at (range_with_len 0 place)) ≡ None → at place ≡ Some reason → first_reason (map at (range_with_len 0 count)) ≡ Some reason
first_at at place count reason within none is = first_from at 0 place count reason within none (subst (λ given. at given ≡ Some reason) (from_none place) is)

-- where there is no first reason, no place has one
pub none_at : (at : ℕ → Option Reason) (count place : ℕ) → first_reason (map at (range_with_len 0 count)) ≡ None → place < count → at place ≡ None
none_at at count place none within = subst (λ given. at given ≡ None) (sym (from_none place)) (none_from at 0 count place none within)

-- nor is there where one place more has none
pub none_more : (at : ℕ → Option Reason) (count : ℕ) → first_reason (map at (range_with_len 0 count)) ≡ None → at count ≡ None → first_reason (map at (range_with_len 0 (count + 1))) ≡ None
none_more at count none is = more_from at 0 count none (subst (λ given. at given ≡ None) (from_none count) is)
