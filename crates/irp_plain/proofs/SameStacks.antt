-- Stacks that show the same of each device are equal.
use Rattle.std.proofs.Common.{ℕ, ◌≡◌, ◌+◌, ◌-◌, ◌<◌, ◌==◌, suc, zero, List, [], length, get_or, None, Bool, false, cond, refl, sym, ap, ◌∙◌, arith, inl, inr}
use Rattle.std.specs.Prelude.{slice_get}
use Rattle.std.proofs.lemmas.Bool.{cases_lt}
use Rattle.std.proofs.lemmas.Option.{slice_get-get_or, same_Some}
use Rattle.irp_types.specs.Stacks.{DevicesValue, AreStacks, IsMember, stack_of, depth_of, lower_of, upper_of}
use Rattle.irp_plain.specs.Alike.{IsAlike}
use Rattle.irp_plain.proofs.SameLists.{same_reads, same_reads_at}

-- two sets of stacks with equally many devices, each of which they show alike
pub record AreAlike (one other : DevicesValue) : Type 0 where
  pub counted : length one.facts ≡ length other.facts
  pub one_stands : AreStacks one
  pub other_stands : AreStacks other
  pub alike : (device : ℕ) → device < length one.facts → IsAlike one other device

-- who stands at a place of a device's stack, or the device itself past the end
abbrev at : DevicesValue → ℕ → ℕ → ℕ
at devices device place = get_or (stack_of devices device) place device

-- what stands just above a member
above : (devices : DevicesValue) (device place : ℕ) → IsMember devices device place
    → upper_of devices (at devices device place) ≡ slice_get (stack_of devices device) (place + 1)
above devices device place member =
    ap (λ k. slice_get (stack_of devices (at devices device place)) (k + 1)) member.depth
    ∙ ap (λ (stack : List ℕ). slice_get stack (place + 1)) member.stack

-- what stands just below a member
below_of : (devices : DevicesValue) (device place : ℕ) → IsMember devices device (place + 1)
    → lower_of devices (at devices device (place + 1)) ≡ slice_get (stack_of devices device) place
below_of devices device place member =
    let some : ((place + 1) == 0) ≡ false = grind arith in
    let less : (place + 1) - 1 ≡ place = omega arith in
    ap (λ k. cond (k == 0) None (slice_get (stack_of devices (at devices device (place + 1))) (k - 1))) member.depth
    ∙ ap (λ (b : Bool). cond b None (slice_get (stack_of devices (at devices device (place + 1))) ((place + 1) - 1))) some
    ∙ ap (λ k. slice_get (stack_of devices (at devices device (place + 1))) k) less
    ∙ ap (λ (stack : List ℕ). slice_get stack place) member.stack

-- where one member stands in both, so does the one above it
step_up : (one other : DevicesValue) → AreAlike one other → (device place : ℕ) → device < length one.facts
    → place + 1 < length (stack_of one device) → at one device place ≡ at other device place
    → at one device (place + 1) ≡ at other device (place + 1)
step_up one other all device place created within here =
    let long = (all.alike device created).height in
    let member = all.one_stands.members device place created (omega arith) in
    let another = all.other_stands.members device place (omega (arith, all.counted)) (omega (arith, long)) in
    let up = (all.alike (at one device place) member.created).upper in
    same_Some _ _ (sym (slice_get-get_or (stack_of one device) (place + 1) device within) ∙ sym (above one device place member) ∙ up
    ∙ ap (λ m. upper_of other m) here ∙ above other device place another
    ∙ slice_get-get_or (stack_of other device) (place + 1) device (omega (arith, long)))

-- where one member stands in both, so does the one below it
step_down : (one other : DevicesValue) → AreAlike one other → (device place : ℕ) → device < length one.facts
    → place + 1 < length (stack_of one device) → at one device (place + 1) ≡ at other device (place + 1)
    → at one device place ≡ at other device place
step_down one other all device place created within here =
    let long = (all.alike device created).height in
    let member = all.one_stands.members device (place + 1) created within in
    let another = all.other_stands.members device (place + 1) (omega (arith, all.counted)) (omega (arith, long)) in
    let down = (all.alike (at one device (place + 1)) member.created).lower in
    same_Some _ _ (sym (slice_get-get_or (stack_of one device) place device (omega arith)) ∙ sym (below_of one device place member) ∙ down
    ∙ ap (λ m. lower_of other m) here ∙ below_of other device place another
    ∙ slice_get-get_or (stack_of other device) place device (omega (arith, long)))

-- at the device's own place stands the device
own_place : (one other : DevicesValue) → AreAlike one other → (device : ℕ) → device < length one.facts
    → at one device (depth_of one device) ≡ at other device (depth_of one device)
own_place one other all device created =
    let same : depth_of one device ≡ depth_of other device = omega (arith, (all.alike device created).place) in
    (all.one_stands.stands device created).there ∙ sym (all.other_stands.stands device (omega (arith, all.counted))).there
    ∙ ap (λ k. at other device k) (sym same)

-- from its own place up
upward : (one other : DevicesValue) → AreAlike one other → (device : ℕ) → device < length one.facts → (more place : ℕ)
    → place ≡ depth_of one device + more → place < length (stack_of one device) → at one device place ≡ at other device place
upward one other all device created zero place is within =
    ap (λ k. at one device k) (omega (arith, is)) ∙ own_place one other all device created ∙ ap (λ k. at other device k) (omega (arith, is))
upward one other all device created (suc more) place is within =
    let under : ℕ = depth_of one device + more in
    let next : place ≡ under + 1 = omega (arith, is) in
    let before = upward one other all device created more under refl (omega arith) in
    ap (λ k. at one device k) next ∙ step_up one other all device under created (omega arith) before ∙ ap (λ k. at other device k) (sym next)

-- from its own place down
downward : (one other : DevicesValue) → AreAlike one other → (device : ℕ) → device < length one.facts → (more place : ℕ)
    → place + more ≡ depth_of one device → at one device place ≡ at other device place
downward one other all device created zero place is =
    ap (λ k. at one device k) (omega (arith, is)) ∙ own_place one other all device created ∙ ap (λ k. at other device k) (omega (arith, is))
downward one other all device created (suc more) place is =
    let within = (all.one_stands.stands device created).within in
    let before = downward one other all device created more (place + 1) (omega (arith, is)) in
    step_down one other all device place created (omega (arith, is, within)) before

-- who stands at a place of a device's stack
anywhere : (one other : DevicesValue) → AreAlike one other → (device : ℕ) → device < length one.facts → (place : ℕ)
    → place < length (stack_of one device) → at one device place ≡ at other device place
anywhere one other all device created place within =
    elim (cases_lt place (depth_of one device)) as (λ _. at one device place ≡ at other device place) [
      | inl under ↦ downward one other all device created (depth_of one device - place) place (omega (arith, under))
      | inr over ↦ upward one other all device created (place - depth_of one device) place (omega (arith, over)) within
    ]

-- the whole stack of a device
same_stack : (one other : DevicesValue) → AreAlike one other → (device : ℕ) → device < length one.facts
    → stack_of one device ≡ stack_of other device
same_stack one other all device created =
    let long = (all.alike device created).height in
    same_reads_at (stack_of one device) (stack_of other device) device long (anywhere one other all device created)

-- the stacks of all devices
same_stacks : (one other : DevicesValue) → AreAlike one other → one.stacks ≡ other.stacks
same_stacks one other all =
    let counted : length one.stacks ≡ length other.stacks = all.one_stands.counted ∙ all.counted ∙ sym all.other_stands.counted in
    same_reads_at one.stacks other.stacks [] counted (λ k below.
    same_stack one other all k (omega (arith, below, all.one_stands.counted)))

-- devices that are shown alike, one by one, are equal with their stacks
pub same_devices : (one other : DevicesValue) → AreAlike one other → one ≡ other
same_devices one other all =
    let facts = same_reads one.facts other.facts all.counted (λ k below. (all.alike k below).facts) in
    let stacks = same_stacks one other all in
    λ i. record { facts = facts i; stacks = stacks i }
