-- The acts of seats come from steps.
use Rattle.std.proofs.Common.{◌≡◌, ℕ, zero, suc, ◌+◌, Bool, true, false, List, [], ◌∷◌, ◌++◌, Some, if◌then◌else◌, ap, ◌∙◌, arith}
use Rattle.std.specs.Prelude.{slice_get, ◌==◌}
use Rattle.irp_script_reader.specs.declared.act.Step.{Step}
use Rattle.irp_machine.specs.declared.parts.Planned.{Planned}
use Rattle.irp_machine.specs.Planning.{acts_below, own_acts, planned as planned_of}
use Rattle.irp_machine_laws.specs.Hands.{AreHandsWithin, HandsLand, NamesSeat}

-- each hand of some acts gives to one of so many seats
Land : ℕ → List Planned → Type 0
Land seats acts = (place : ℕ) (planned : Planned) → slice_get acts place ≡ Some planned → NamesSeat seats planned.act

own_first : (seats : ℕ) (one : Planned) (acts : List Planned) → NamesSeat seats one.act → Land seats acts → Land seats (one ∷ acts)
unfolding Land
own_first seats one acts names land zero planned is hand act_is = let same : one ≡ planned = cc in names hand (ap (λ (p : Planned). p.act) same ∙ act_is)
own_first seats one acts names land (suc place) planned is hand act_is = land place planned is hand act_is

own_land : (seats : ℕ) (rivals steps : List Step) (place at seat : ℕ) → AreHandsWithin seats steps → Land seats (own_acts rivals steps place at seat)
unfolding Land
own_land seats rivals [] place at seat all = λ k planned is. absurd (let bad : ⊥ = cc in bad)
own_land seats rivals (step ∷ steps) place at seat all = pick (planned_of rivals place at step ∷ own_acts rivals steps (place + 1) (at + 1) seat) (own_acts rivals steps (place + 1) at seat) (step.seat == seat)
    (own_first seats (planned_of rivals place at step) (own_acts rivals steps (place + 1) (at + 1) seat) (all 0 step (omega arith))
    (own_land seats rivals steps (place + 1) (at + 1) seat (λ k d less. all (suc k) d (omega arith))))
    (own_land seats rivals steps (place + 1) at seat (λ k d less. all (suc k) d (omega arith)))
  where
    pick : (one other : List Planned) (test : Bool) → Land seats one → Land seats other → Land seats (if test then one else other)
    pick one other true first second = first
    pick one other false first second = second

one_more : (seats : ℕ) (lists : List (List Planned)) (own : List Planned) → HandsLand lists seats → Land seats own → HandsLand (lists ++ own ∷ []) seats
unfolding Land
one_more seats [] own all land zero place planned is = land place planned is
one_more seats [] own all land (suc seat) place planned is = absurd (let bad : ⊥ = cc in bad)
one_more seats (first ∷ lists) own all land zero place planned is = all zero place planned is
one_more seats (first ∷ lists) own all land (suc seat) place planned is = one_more seats lists own (λ seat. all (suc seat)) land seat place planned is

pub hands_land : (seats : ℕ) (rivals steps : List Step) (count : ℕ) → AreHandsWithin seats steps → HandsLand (acts_below rivals steps count) seats
hands_land seats rivals steps zero all = λ seat place planned is. absurd (let bad : ⊥ = cc in bad)
hands_land seats rivals steps (suc count) all =
    one_more seats (acts_below rivals steps count) (own_acts rivals steps 0 0 count) (hands_land seats rivals steps count all) (own_land seats rivals steps 0 0 count all)
