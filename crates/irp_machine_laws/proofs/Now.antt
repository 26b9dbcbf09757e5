-- The act that comes next is one of the seat's acts.
use Rattle.std.proofs.Common.{◌≡◌, ℕ, ◌+◌, zero, suc, List, [], ◌∷◌, drop, Some, refl, sym, ap, ◌∙◌, arith}
use Rattle.std.specs.Prelude.{slice_get}
use Rattle.std.specs.List.{position_or_len}
use Rattle.std.proofs.lemmas.List.Folds.{find_at}
use Rattle.irp_plain.specs.Seats.{SeatValue}
use Rattle.irp_machine.specs.Conditions.{act_now, is_due}
use Rattle.irp_machine.specs.declared.parts.Planned.{Planned}

-- the place of the act that comes next
abbrev pub place_now : List Planned → SeatValue → ℕ
place_now acts seat = seat.made + position_or_len (is_due seat.heard) (drop seat.made acts)

dropped : (acts : List Planned) (k place : ℕ) → slice_get (drop k acts) place ≡ slice_get acts (k + place)
dropped acts zero place = (let same : place ≡ 0 + place = omega arith in ap (λ k. slice_get acts k) same)
dropped [] (suc k) place = refl
dropped (one ∷ acts) (suc k) place =
    let next : suc (k + place) ≡ suc k + place = omega arith in
    dropped acts k place ∙ ap (λ k. slice_get (one ∷ acts) k) next

pub stands_at : (acts : List Planned) (seat : SeatValue) (planned : Planned) → act_now acts seat ≡ Some planned → slice_get acts (place_now acts seat) ≡ Some planned
stands_at acts seat planned is =
    sym (dropped acts seat.made (position_or_len (is_due seat.heard) (drop seat.made acts)))
    ∙ sym (find_at (is_due seat.heard) (drop seat.made acts)) ∙ is
