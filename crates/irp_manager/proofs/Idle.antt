-- Lemmas on a map without the packet that was given back last.
use Rattle.std.proofs.Common.{◌≡◌, ℕ, ◌-◌, Option, Some, None, true, cond, is_some, refl, sym, ◌∙◌, ap, subst, inl, inr, Bool, false}
use Rattle.std.proofs.lemmas.Bool.{cases_eq}
use Rattle.std.specs.Prelude.{OnSome}
use Rattle.std.specs.Cmp.{nat_cmp_total}
use Rattle.std.specs.FinMap as fin
use Rattle.irp_types.specs.State.{LivePacket}
use Rattle.irp_manager.specs.Slots.{Slots, without}
use Rattle.irp_manager.proofs.Maps.{get_inserted, get_kept, get_removed, get_left, same}

pub get_idle : (m : Slots) (idle : Option ℕ) (slot : ℕ) → idle ≡ Some slot → fin.get (without m idle) slot ≡ None
get_idle m idle slot is = subst (λ (idle : Option ℕ). fin.get (without m idle) slot ≡ None) (sym is) (get_removed m slot)

pub get_awake : (m : Slots) (idle : Option ℕ) (slot : ℕ) → (idle ≡ Some slot → ⊥) → fin.get (without m idle) slot ≡ fin.get m slot
get_awake m None slot not = refl
get_awake m (Some other) slot not = get_left m other slot (λ e. not (ap Some (sym e)))

-- a new packet in a slot that was given back
pub refilled : (m : Slots) (slot : ℕ) (live : LivePacket) → fin.insert m slot live ≡ fin.insert (fin.remove m slot) slot live
refilled m slot live = same _ _ (λ q.
    elim (cases_eq q slot) as (λ _. fin.get (fin.insert m slot live) q ≡ fin.get (fin.insert (fin.remove m slot) slot live) q) [
      | inl e ↦ subst (λ q. fin.get (fin.insert m slot live) q ≡ fin.get (fin.insert (fin.remove m slot) slot live) q) (sym e) (get_inserted m slot live ∙ sym (get_inserted (fin.remove m slot) slot live))
      | inr d ↦ get_kept m slot live q d ∙ sym (get_kept (fin.remove m slot) slot live q d ∙ get_left m slot q d)
    ])

-- a slot without a packet is given back
pub absent : (m : Slots) (slot : ℕ) → fin.get m slot ≡ None → fin.remove m slot ≡ m
absent m slot none = same _ _ (λ q.
    elim (cases_eq q slot) as (λ _. fin.get (fin.remove m slot) q ≡ fin.get m q) [
      | inl e ↦ subst (λ q. fin.get (fin.remove m slot) q ≡ fin.get m q) (sym e) (get_removed m slot ∙ sym none)
      | inr d ↦ get_left m slot q d
    ])

-- another packet is changed
pub changed_awake : (m : Slots) (idle : Option ℕ) (slot : ℕ) (live : LivePacket) → (idle ≡ Some slot → ⊥) → without (fin.insert m slot live) idle ≡ fin.insert (without m idle) slot live
changed_awake m None slot live not = refl
changed_awake m (Some other) slot live not = same _ _ (λ q.
    elim (cases_eq q slot) as (λ _. fin.get (fin.remove (fin.insert m slot live) other) q ≡ fin.get (fin.insert (fin.remove m other) slot live) q) [
      | inl e ↦ subst (λ q. fin.get (fin.remove (fin.insert m slot live) other) q ≡ fin.get (fin.insert (fin.remove m other) slot live) q) (sym e)
          (get_left (fin.insert m slot live) other slot (λ e. not (ap Some (sym e))) ∙ get_inserted m slot live ∙ sym (get_inserted (fin.remove m other) slot live))
      | inr d ↦ elim (cases_eq q other) as (λ _. fin.get (fin.remove (fin.insert m slot live) other) q ≡ fin.get (fin.insert (fin.remove m other) slot live) q) [
        | inl e ↦ subst (λ q. fin.get (fin.remove (fin.insert m slot live) other) q ≡ fin.get (fin.insert (fin.remove m other) slot live) q) (sym e)
            (get_removed (fin.insert m slot live) other ∙ sym (get_kept (fin.remove m other) slot live other (λ e. not (ap Some e)) ∙ get_removed m other))
        | inr o ↦ get_left (fin.insert m slot live) other q o ∙ get_kept m slot live q d ∙ sym (get_kept (fin.remove m other) slot live q d ∙ get_left m other q o)
      ]
    ])

-- one packet less
pub len_idle : (m : Slots) (slot : ℕ) → is_some (fin.get m slot) ≡ true → fin.len m - 1 ≡ fin.len (fin.remove m slot)
len_idle m slot is = sym (fin.len-remove nat_cmp_total m slot ∙ ap (λ b. cond b (fin.len m - 1) (fin.len m)) is)

-- what was found to be false isn't so
pub refuted : {P : Type 0} (found : Bool) → (P → found ≡ true) → found ≡ false → P → ⊥
refuted found holds is p = let both : true ≡ false = sym (holds p) ∙ is in cc

-- what has nothing is none
pub none_there : (found : Option LivePacket) → (is_some found ≡ true → ⊥) → found ≡ None
none_there None not = refl
none_there (Some live) not = absurd (not refl)

-- a slot that has a live packet isn't the one that was given back
pub awake_of : (m : Slots) (idle : Option ℕ) (slot : ℕ) (live : LivePacket) → fin.get (without m idle) slot ≡ Some live → idle ≡ Some slot → ⊥
awake_of m idle slot live at is = let both : None ≡ Some live = sym (get_idle m idle slot is) ∙ at in cc

-- what holds of what is lent
pub on_lent : {A P Q : Type 0} (result : Option A) → (P → Q) → OnSome result P → OnSome result Q
on_lent None f holds = tt
on_lent (Some lent) f holds = f holds
