use Rattle.std.proofs.Common.{◌≡◌, ℕ, ◌+◌, Option, Some, None, true, is_some, refl, ap, arith, inl, inr, ◌∙◌}
use Rattle.std.proofs.lemmas.Bool.{cases_lt}
use Rattle.std.specs.FinMap as fin
use Rattle.irp_types.specs.State.{LivePacket}
use Rattle.irp_manager.specs.Slots.{Slots}
use Rattle.irp_manager.specs.Keeps.{mapped}
use Rattle.irp_manager.proofs.MapMaps.{some_vacant}
use Rattle.irp_manager.proofs.map_keep.MapKeep.vacant.Goals as goal

pub returns : goal.returns
returns c =
    let slots : Slots = mapped c.args.self.now in
    let count : ℕ = c.len-count.result in
    by slots count (fin.get slots count) refl (λ there.
    let many = some_vacant (count + 1) slots (λ q low.
    elim (cases_lt q count) as (λ _. is_some (fin.get slots q) ≡ true) [
      | inl below ↦ c.loop-slot.invariant q (omega (arith, below, c.loop-slot-test.false))
      | inr above ↦
          let last : q ≡ count = omega (arith, above, low) in
          ap (λ slot. is_some (fin.get slots slot)) last ∙ ap is_some there.1
    ]) in omega (arith, many, c.len-count.ensures))
  where
    by : (slots : Slots) (count : ℕ) (found : Option LivePacket) → fin.get slots count ≡ found → ((live : LivePacket) × (fin.get slots count ≡ Some live) → ⊥) → fin.get slots count ≡ None
    by slots count None is not = is
    by slots count (Some live) is not = absurd (not (live, is))
