use Rattle.std.proofs.Common.{◌≡◌, ℕ, Bool, false, ap, ◌∙◌, subst}
use Rattle.irp_slots.specs.declared.views.Owning.{Owning}
use Rattle.irp_slots.specs.declared.views.View.TheVariants.{Owner}
use Rattle.irp_slots.specs.Core.{owning_published, owning_checked, owning_found_set}
use Rattle.irp_slots.specs.Calls.{SwappedIn, ReadFlag, Emptied}
use Rattle.irp_slots.proofs.table.Slots.publish.Goals as goal

-- the three steps of an owner that finds the flag set
three_steps : (number found : ℕ) (before swapped checked after : Owning) (clear : Bool)
    → swapped ≡ owning_published number before → SwappedIn number before swapped
    → checked ≡ owning_checked clear swapped → clear ≡ false → ReadFlag 1 swapped checked → Emptied checked.slot found (Owner checked) (Owner after)
    → SwappedIn number before (owning_published number before)
    × ReadFlag 1 (owning_published number before) (owning_found_set number before)
    × Emptied before.slot found (Owner (owning_found_set number before)) (Owner after)
three_steps number found before swapped checked after clear posted swap looked set read out =
    let same : checked ≡ owning_found_set number before = looked ∙ (ap (λ (b : Bool). owning_checked b swapped) set ∙ ap (owning_checked false) posted) in (
      subst (SwappedIn number before) posted swap,
      subst (λ (o : Owning). ReadFlag 1 o (owning_found_set number before)) posted (subst (ReadFlag 1 swapped) same read),
      subst (λ (o : Owning). Emptied o.slot found (Owner o) (Owner after)) same out,
    )

pub returns-in-Some-clause-steps : goal.returns-in-Some-clause-steps
returns-in-Some-clause-steps c =
    three_steps _ _ _ _ _ _ _ c.swap_in.ensures.owning c.swap_in.ensures.step c.finds_flag_clear-clear.ensures.owning c.if-clear.false
    (c.finds_flag_clear-clear.ensures.set c.if-clear.false) c.in-Some.ensures.took.3

pub returns-in-None-clause-steps : goal.returns-in-None-clause-steps
returns-in-None-clause-steps c =
    three_steps _ _ _ _ _ _ _ c.swap_in.ensures.owning c.swap_in.ensures.step c.finds_flag_clear-clear.ensures.owning c.if-clear.false
    (c.finds_flag_clear-clear.ensures.set c.if-clear.false) c.in-None.ensures.missed.1
