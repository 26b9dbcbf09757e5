-- Facts on lists of frames.
use Rattle.std.proofs.Common.{◌≡◌, ℕ, ◌+◌, ◌-◌, ◌<◌, ◌≤◌, zero, suc, false, cond, ◌||◌, List, [], ◌∷◌, length, take, reverse, get_or, refl, sym, ◌∙◌, ap, subst, arith, Option, Some, None, inl, inr}
use Rattle.std.specs.List.{list_any, count_by, slice_get, AllByRecursion}
use Rattle.std.proofs.lemmas.Bool.{cond-true, cond-false, cases_eq, eq-eqb, ne_eqb}
use Rattle.std.proofs.lemmas.List.{take_more, reverse-append}
use Rattle.std.proofs.lemmas.List.Sums.{sum_by-cons}
use Rattle.std.proofs.lemmas.Option.{slice_get_within, get_or_from_slice_get}
use Rattle.irp_types.specs.Stacks.{DevicesValue, stack_of, depth_of, stack_size_of, lower_of, StandsInStack, IsMember, AreStacks}
use Rattle.std.specs.Option.{option_map_or}
use Rattle.irp_types.specs.declared.routine.Setting.{Setting}
use Rattle.irp_unwind.proofs.Lists.{all_by_index}
use Rattle.irp_types.specs.Descent.{Frame, plans, is_copying, set_by, marks_location, no_frame, last_frame, frames_in, devices_down}

-- the setting that a frame's plan puts into the next lower location
abbrev pub set_at : Frame → Option Setting
set_at frame = option_map_or set_by frame.plan None

-- the device that stands just below another
pub record IsBelow (devices : DevicesValue) (device lower : ℕ) : Type 0 where
  pub created : lower < length devices.facts
  pub stack : stack_of devices lower ≡ stack_of devices device
  pub depth : depth_of devices lower + 1 ≡ depth_of devices device

pub is_below : (devices : DevicesValue) (device lower : ℕ) → AreStacks devices → device < length devices.facts → lower_of devices device ≡ Some lower → IsBelow devices device lower
is_below devices device lower a h low =
    elim (cases_eq (depth_of devices device) 0) as (λ _. IsBelow devices device lower) [
      | inl z ↦
          let none : lower_of devices device ≡ None = cond-true _ _ _ (eq-eqb (depth_of devices device) 0 z) in
          absurd (cc)
      | inr n ↦
          let some : slice_get (stack_of devices device) (depth_of devices device - 1) ≡ Some lower = sym (cond-false _ _ _ (ne_eqb (depth_of devices device) 0 n)) ∙ low in
          let within : depth_of devices device - 1 < length (stack_of devices device) = slice_get_within (stack_of devices device) (depth_of devices device - 1) lower some in
          let is : get_or (stack_of devices device) (depth_of devices device - 1) device ≡ lower = get_or_from_slice_get (stack_of devices device) (depth_of devices device - 1) lower device some in
          let next : IsMember devices device (depth_of devices device - 1) = a.members device (depth_of devices device - 1) h within in
          let deep : depth_of devices lower ≡ depth_of devices device - 1 = ap (depth_of devices) (sym is) ∙ next.depth in
          record {
            created = subst (λ q. q < length devices.facts) is next.created;
            stack = ap (stack_of devices) (sym is) ∙ next.stack;
            depth = omega (arith, deep, n);
          }
    ]

down_from : (devices : DevicesValue) (device : ℕ) → AreStacks devices → device < length devices.facts → reverse (take (stack_size_of devices device) (stack_of devices device)) ≡ device ∷ reverse (take (depth_of devices device) (stack_of devices device))
down_from devices device a h =
    let s : StandsInStack devices device = a.stands device h in
    ap reverse (take_more (stack_of devices device) (depth_of devices device) device s.within)
    ∙ reverse-append (take (depth_of devices device) (stack_of devices device)) (get_or (stack_of devices device) (depth_of devices device) device ∷ [])
    ∙ ap (λ q. q ∷ reverse (take (depth_of devices device) (stack_of devices device))) s.there

pub devices_one : (devices : DevicesValue) (device : ℕ) → AreStacks devices → device < length devices.facts → devices_down devices device 1 ≡ device ∷ []
devices_one devices device a h = ap (take 1) (down_from devices device a h)

pub devices_more : (devices : DevicesValue) (device lower n : ℕ) → AreStacks devices → device < length devices.facts → IsBelow devices device lower → devices_down devices device (suc n) ≡ device ∷ devices_down devices lower n
devices_more devices device lower n a h b =
    ap (take (suc n)) (down_from devices device a h)
    ∙ (λ i. device ∷ take n (reverse (take (sym b.depth i) (sym b.stack i))))

-- where each frame stands, n being the first location
abbrev pub IsPlaced : List Frame → ℕ → Type 0
IsPlaced frames n = (k : ℕ) → k < length frames → (get_or frames k no_frame).location + count_by (plans is_copying) (take k frames) ≡ n

pub placed_more : (frame : Frame) (frames : List Frame) (n next : ℕ) → frame.location ≡ n → next + cond (plans is_copying frame) 1 0 ≡ n → IsPlaced frames next → IsPlaced (frame ∷ frames) n
placed_more frame frames n next here step rest zero h = omega (arith, here)
placed_more frame frames n next here step rest (suc k) h =
    let e : (get_or frames k no_frame).location + count_by (plans is_copying) (take k frames) ≡ next = rest k (omega arith) in
    let c : count_by (plans is_copying) (frame ∷ take k frames) ≡ cond (plans is_copying frame) 1 0 + count_by (plans is_copying) (take k frames) =
    sum_by-cons (λ given. cond (plans is_copying given) 1 0) frame (take k frames) in
    let q : (get_or frames k no_frame).location + (cond (plans is_copying frame) 1 0 + count_by (plans is_copying) (take k frames)) ≡ n = omega (arith, e, step) in
    ap (λ copies. (get_or frames k no_frame).location + copies) c ∙ q

pub placed_first : (frame : Frame) (frames : List Frame) (n : ℕ) → IsPlaced (frame ∷ frames) n → frame.location ≡ n
placed_first frame frames n placed = let e : frame.location + 0 ≡ n = placed 0 (omega arith) in omega (arith, e)

pub placed_below : (frames : List Frame) (n : ℕ) → IsPlaced frames n → AllByRecursion (λ frame. frame.location ≤ n) frames
placed_below frames n placed = all_by_index (λ frame. frame.location ≤ n) no_frame frames (λ k h. let e = placed k h in omega (arith, e))

pub last_in : (P : Frame → Type 0) (frame : Frame) (frames : List Frame) → AllByRecursion P (frame ∷ frames) → P (last_frame (frame ∷ frames))
last_in P frame [] a = a.0
last_in P frame (follower ∷ others) a = last_in P follower others a.1

-- what holds of each of some frames holds of the last
pub last_has : (P : Frame → Type 0) (frames : List Frame) → 0 < length frames → AllByRecursion P frames → P (last_frame frames)
last_has P [] some all = absurd (omega arith)
last_has P (frame ∷ frames) some all = last_in P frame frames all

pub last_low : (frames : List Frame) (top : ℕ) → 0 < length frames → IsPlaced frames top → (last_frame frames).location ≤ top
last_low frames top some placed = last_has (λ frame. frame.location ≤ top) frames some (placed_below frames top placed)

pub in_here : (frame : Frame) (frames : List Frame) (number : ℕ) → frame.location ≡ number → frames_in (frame ∷ frames) number ≡ frame ∷ frames_in frames number
in_here frame frames number e = cond-true _ _ _ (eq-eqb frame.location number e)

pub in_rest : (frame : Frame) (frames : List Frame) (number : ℕ) → (frame.location ≡ number → ⊥) → frames_in (frame ∷ frames) number ≡ frames_in frames number
in_rest frame frames number n = cond-false _ _ _ (ne_eqb frame.location number n)

pub none_above : (frames : List Frame) (n number : ℕ) → AllByRecursion (λ frame. frame.location ≤ n) frames → n < number → frames_in frames number ≡ []
none_above [] n number a h = refl
none_above (frame ∷ frames) n number a h = in_rest frame frames number (λ e. absurd (omega (arith, a.0, e, h))) ∙ none_above frames n number a.1 h

-- a frame that is followed by one in its location is nowhere the last
pub last_after : (frame follower : Frame) (others : List Frame) (number : ℕ) → frame.location ≡ follower.location → last_frame (frames_in (frame ∷ follower ∷ others) number) ≡ last_frame (frames_in (follower ∷ others) number)
last_after frame follower others number e =
    elim (cases_eq follower.location number) as (λ _. last_frame (frames_in (frame ∷ follower ∷ others) number) ≡ last_frame (frames_in (follower ∷ others) number)) [
      | inl h ↦
          let r : frames_in (follower ∷ others) number ≡ follower ∷ frames_in others number = in_here follower others number h in
          ap last_frame (in_here frame (follower ∷ others) number (e ∙ h)) ∙ ap (λ items. last_frame (frame ∷ items)) r ∙ ap last_frame (sym r)
      | inr n ↦ ap last_frame (in_rest frame (follower ∷ others) number (λ q. n (sym e ∙ q)))
    ]

-- a frame that marks nothing
pub any_after : (frame : Frame) (frames : List Frame) (number : ℕ) → plans marks_location frame ≡ false → list_any (plans marks_location) (frames_in (frame ∷ frames) number) ≡ list_any (plans marks_location) (frames_in frames number)
any_after frame frames number e =
    elim (cases_eq frame.location number) as (λ _. list_any (plans marks_location) (frames_in (frame ∷ frames) number) ≡ list_any (plans marks_location) (frames_in frames number)) [
      | inl h ↦ ap (list_any (plans marks_location)) (in_here frame frames number h) ∙ ap (λ b. b || list_any (plans marks_location) (frames_in frames number)) e
      | inr n ↦ ap (list_any (plans marks_location)) (in_rest frame frames number n)
    ]
