-- Which check of a call fails first, from what holds of the devices that it names.
use Rattle.std.proofs.Common.{◌≡◌, ℕ, ◌<◌, ◌≤◌, ◌||◌, ◌==◌, nat_le, not, zero, suc, Bool, true, false, cond, is_some, List, [], ◌∷◌, ◌++◌, length, map, refl, ◌∙◌, ap, subst, arith, Option, Some, None}
use Rattle.std.specs.Option.{option_map}
use Rattle.std.specs.List.{list_any}
use Rattle.std.proofs.lemmas.Bool.{cond-true, cond-false, lt-ltb, le-ltb, eq-eqb, ne_eqb, le-leb, lt-leb}
use Rattle.std.proofs.lemmas.List.{length-map, get_or-map}
use Rattle.irp_types.specs.Stacks.{DevicesValue, DeviceFacts, is_created, is_live, has_neighbour, stack_of, upper_of, no_facts, device_checks, attach_checks, detach_checks, delete_checks}
use Rattle.irp_types.specs.declared.limit.Limit.{Limit}
use Rattle.irp_types.specs.Limits.{most_under}
use Rattle.irp_types.specs.Checks.{Check, first_failing}
use Rattle.irp_types.specs.declared.refusal.Refusal.{Refusal}
use Rattle.irp_types.specs.declared.refusal.Refusal.TheVariants.{NoDevice, DeviceGone, StillAttached, SameStack, TooDeep, NothingAttached}
use Rattle.irp_types.specs.declared.names.DeviceId.{DeviceId}
use Rattle.irp_stack.specs.declared.device.Device.{Device}
use Rattle.irp_stack.specs.Records.{record_of, member_at, blank, id, facts_in}
use Rattle.irp_stack.proofs.Regrouped.{IsIn, IsOut}
use Rattle.irp_stack.proofs.Looks.{seen}

pub skips : (fails : Bool) (refusal : Refusal) (others : List Check) → fails ≡ false
    → first_failing ((fails, refusal) ∷ others) ≡ first_failing others
skips b r cs e = cond-false b (Some r) (first_failing cs) e

hits : (fails : Bool) (refusal : Refusal) (others : List Check) → fails ≡ true → first_failing ((fails, refusal) ∷ others) ≡ Some refusal
hits b r cs e = cond-true b (Some r) (first_failing cs) e

none_some_tag : Option Refusal → Type 0
none_some_tag None = Unit {0}
none_some_tag (Some x) = ⊥

none_some : (refusal : Refusal) → ◌≡◌ {A = Option Refusal} None (Some refusal) → ⊥
unfolding none_some_tag
none_some e h = subst none_some_tag h tt

then_more : (fails : Bool) (first refusal : Refusal) (result later : Option Refusal) → (result ≡ Some refusal → later ≡ Some refusal)
    → cond fails (Some first) result ≡ Some refusal → cond fails (Some first) later ≡ Some refusal
then_more true r e x y f h = h
then_more false r e x y f h = f h

stops : (devices : DevicesValue) (device : ℕ) (others : List Check) (refusal : Refusal) → first_failing (device_checks devices device) ≡ Some refusal
    → first_failing (device_checks devices device ++ others) ≡ Some refusal
stops v d cs e h =
    then_more (not (is_created v d)) NoDevice e (first_failing ((not (is_live v d), DeviceGone) ∷ []))
    (first_failing ((not (is_live v d), DeviceGone) ∷ cs))
    (λ a. then_more (not (is_live v d)) DeviceGone e None (first_failing cs) (λ n. absurd (none_some e n)) a) h

-- a device that was created and is live
pub record IsAlive (devices : DevicesValue) (device : ℕ) : Type 0 where
  pub created : is_created devices device ≡ true
  pub live : is_live devices device ≡ true

pub alive : (records : List Device) (stacks : List (List ℕ)) (device : ℕ) → device < length records → (record_of records device).live ≡ true
    → IsAlive (seen records stacks) device
alive R S d h l =
    record {
      created = lt-ltb d (length (map facts_in R)) (omega (arith, h, length-map R facts_in));
      live =
          ap (λ (f : DeviceFacts). f.live) (get_or-map facts_in R d blank no_facts h)
          ∙ l;
    }

passes : (devices : DevicesValue) (device : ℕ) (others : List Check) → IsAlive devices device
    → first_failing (device_checks devices device ++ others) ≡ first_failing others
passes v d cs a =
    skips (not (is_created v d)) NoDevice ((not (is_live v d), DeviceGone) ∷ cs) (ap not a.created)
    ∙ skips (not (is_live v d)) DeviceGone cs (ap not a.live)

or_true : (first : Bool) → (first || true) ≡ true
or_true true = refl
or_true false = refl

any_at : (stack : List ℕ) (device place : ℕ) → place < length stack → member_at stack place ≡ device
    → list_any (λ member. member == device) stack ≡ true
any_at [] t k h e = absurd (omega (arith, h))
any_at (x ∷ s) t zero h e = ap (λ b. b || list_any (λ y. y == t) s) (eq-eqb x t e)
any_at (x ∷ s) t (suc k) h e = ap (λ b. (x == t) || b) (any_at s t k (omega (arith, h)) e) ∙ or_true (x == t)

any_in : (stack : List ℕ) (device : ℕ) → IsIn stack device → list_any (λ member. member == device) stack ≡ true
any_in s t w = any_at s t w.0 w.1 w.2

any_out : (stack : List ℕ) (device : ℕ) → IsOut stack device → list_any (λ member. member == device) stack ≡ false
any_out [] t out = refl
any_out (x ∷ s) t out =
    let h0 : 0 < length (x ∷ s) = omega arith in
    ap (λ b. b || list_any (λ y. y == t) s) (ne_eqb x t (out 0 h0))
    ∙ any_out s t (λ k h. out (suc k) (omega (arith, h)))

-- the checks of attach after those of the two devices
abbrev deep_on : Limit → DevicesValue → ℕ → List Check
deep_on l v t = (nat_le (most_under l) (length (stack_of v t)), TooDeep) ∷ []

abbrev still_on : Limit → DevicesValue → ℕ → ℕ → List Check
still_on l v d t = (has_neighbour v d, StillAttached) ∷ deep_on l v t

pub attach_target : (limit : Limit) (devices : DevicesValue) (device to : ℕ) (refusal : Refusal) → IsAlive devices device
    → first_failing (device_checks devices to) ≡ Some refusal → first_failing (attach_checks limit devices device to) ≡ Some refusal
attach_target l v d t e a h =
    let rest = (list_any (λ x. x == t) (stack_of v d), SameStack) ∷ (has_neighbour v d, StillAttached) ∷
    (nat_le (most_under l) (length (stack_of v t)), TooDeep) ∷ [] in
    passes v d (device_checks v t ++ rest) a ∙ stops v t rest e h

attach_both : (limit : Limit) (devices : DevicesValue) (device to : ℕ) → IsAlive devices device → IsAlive devices to → first_failing (attach_checks limit devices device to)
    ≡ first_failing ((list_any (λ member. member == to) (stack_of devices device), SameStack) ∷ (has_neighbour devices device, StillAttached) ∷ (nat_le (most_under limit) (length (stack_of devices to)), TooDeep) ∷ [])
attach_both l v d t a b =
    let rest = (list_any (λ x. x == t) (stack_of v d), SameStack) ∷ (has_neighbour v d, StillAttached) ∷
    (nat_le (most_under l) (length (stack_of v t)), TooDeep) ∷ [] in
    passes v d (device_checks v t ++ rest) a ∙ passes v t rest b

pub attach_same : (limit : Limit) (devices : DevicesValue) (device to : ℕ) → IsAlive devices device → IsAlive devices to → IsIn (stack_of devices device) to
    → first_failing (attach_checks limit devices device to) ≡ Some SameStack
attach_same l v d t a b w = attach_both l v d t a b ∙ hits (list_any (λ x. x == t) (stack_of v d)) SameStack (still_on l v d t) (any_in (stack_of v d) t w)

pub attach_still : (limit : Limit) (devices : DevicesValue) (device to : ℕ) → IsAlive devices device → IsAlive devices to → IsOut (stack_of devices device) to
    → 1 < length (stack_of devices device) → first_failing (attach_checks limit devices device to) ≡ Some StillAttached
attach_still l v d t a b w n =
    attach_both l v d t a b ∙ skips (list_any (λ x. x == t) (stack_of v d)) SameStack (still_on l v d t) (any_out (stack_of v d) t w)
    ∙ hits (has_neighbour v d) StillAttached (deep_on l v t) (lt-ltb 1 (length (stack_of v d)) n)

attach_last : (limit : Limit) (devices : DevicesValue) (device to : ℕ) → IsAlive devices device → IsAlive devices to → IsOut (stack_of devices device) to
    → length (stack_of devices device) ≤ 1
    → first_failing (attach_checks limit devices device to) ≡ first_failing ((nat_le (most_under limit) (length (stack_of devices to)), TooDeep) ∷ [])
attach_last l v d t a b w n =
    attach_both l v d t a b ∙ skips (list_any (λ x. x == t) (stack_of v d)) SameStack (still_on l v d t) (any_out (stack_of v d) t w)
    ∙ skips (has_neighbour v d) StillAttached (deep_on l v t) (le-ltb 1 (length (stack_of v d)) n)

pub attach_deep : (limit : Limit) (devices : DevicesValue) (device to : ℕ) → IsAlive devices device → IsAlive devices to → IsOut (stack_of devices device) to
    → length (stack_of devices device) ≤ 1 → most_under limit ≤ length (stack_of devices to)
    → first_failing (attach_checks limit devices device to) ≡ Some TooDeep
attach_deep l v d t a b w n deep = attach_last l v d t a b w n ∙ hits (nat_le (most_under l) (length (stack_of v t))) TooDeep [] (le-leb (most_under l) (length (stack_of v t)) deep)

pub attach_fine : (limit : Limit) (devices : DevicesValue) (device to : ℕ) → IsAlive devices device → IsAlive devices to → IsOut (stack_of devices device) to
    → length (stack_of devices device) ≤ 1 → length (stack_of devices to) < most_under limit → first_failing (attach_checks limit devices device to) ≡ None
attach_fine l v d t a b w n room = attach_last l v d t a b w n ∙ skips (nat_le (most_under l) (length (stack_of v t))) TooDeep [] (lt-leb (most_under l) (length (stack_of v t)) room)

-- the checks of delete and detach after those of the device
some_map : (given : Option ℕ) → is_some given ≡ is_some (option_map id given)
some_map None = refl
some_map (Some x) = refl

pub delete_still : (devices : DevicesValue) (device : ℕ) → IsAlive devices device → 1 < length (stack_of devices device)
    → first_failing (delete_checks devices device) ≡ Some StillAttached
delete_still v d a n = passes v d ((has_neighbour v d, StillAttached) ∷ []) a ∙ hits (has_neighbour v d) StillAttached [] (lt-ltb 1 (length (stack_of v d)) n)

pub delete_fine : (devices : DevicesValue) (device : ℕ) → IsAlive devices device → length (stack_of devices device) ≤ 1
    → first_failing (delete_checks devices device) ≡ None
delete_fine v d a n = passes v d ((has_neighbour v d, StillAttached) ∷ []) a ∙ skips (has_neighbour v d) StillAttached [] (le-ltb 1 (length (stack_of v d)) n)

pub detach_none : (devices : DevicesValue) (device : ℕ) → IsAlive devices device → option_map id (upper_of devices device) ≡ None
    → first_failing (detach_checks devices device) ≡ Some NothingAttached
detach_none v d a n =
    passes v d ((not (is_some (upper_of v d)), NothingAttached) ∷ []) a
    ∙ hits (not (is_some (upper_of v d))) NothingAttached [] (ap not (some_map (upper_of v d) ∙ ap is_some n))

pub detach_fine : (devices : DevicesValue) (device : ℕ) (upper : DeviceId) → IsAlive devices device
    → option_map id (upper_of devices device) ≡ Some upper → first_failing (detach_checks devices device) ≡ None
detach_fine v d u a n =
    passes v d ((not (is_some (upper_of v d)), NothingAttached) ∷ []) a
    ∙ skips (not (is_some (upper_of v d))) NothingAttached [] (ap not (some_map (upper_of v d) ∙ ap is_some n))
