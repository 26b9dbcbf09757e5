-- The records that detach leaves describe the stacks that it is to leave.
use Rattle.std.proofs.Common.{◌≡◌, ℕ, ◌+◌, ◌-◌, ◌<◌, ◌≤◌, ◌≢◌, List, length, take, drop, map, refl, sym, ◌∙◌, ap, subst, arith, Some, None, inl, inr}
use Rattle.std.proofs.lemmas.Bool.{cases_lt}
use Rattle.std.proofs.lemmas.List.{get_or-take, get_or-drop, length-take-le, length-drop}
use Rattle.irp_types.specs.Limits.{most_locations}
use Rattle.irp_types.specs.Stacks.{regrouped}
use Rattle.irp_stack.specs.declared.device.Device.{Device}
use Rattle.irp_stack.specs.Records.{record_of, member_at, list_of, id, edit, walk, renumbered, facts_in, DescribesStack, IsPlaced, DescribesStacks}
use Rattle.irp_stack.proofs.Walks.{IsRising, walk_rising}
use Rattle.irp_stack.proofs.Renumbered.{renumbered_length, renumbered_keeps, renumbered_out, renumbered_bottom, renumbered_size, renumbered_maps}
use Rattle.irp_stack.proofs.Regrouped.{IsOut, find_place, regrouped_length, regrouped_in, regrouped_out, edit_length, edit_here, edit_else, edit_keeps, edit_maps, placed_in, placed_kept}

-- a detach that is not refused: the stack is cut after its first members, `size` of them, between `lower` and `upper`
pub record Detaches (records : List Device) (stacks : List (List ℕ)) (stack : List ℕ) (size lower upper bottom top : ℕ) : Type 0 where
  pub tied : DescribesStacks records stacks
  pub known : lower < length records
  pub list : list_of stacks lower ≡ stack
  pub some : 0 < size
  pub more : size < length stack
  pub lower_is : lower ≡ member_at stack (size - 1)
  pub upper_is : upper ≡ member_at stack size
  pub bottom_is : bottom ≡ member_at stack 0
  pub top_is : top ≡ member_at stack (length stack - 1)

abbrev without_above : Device → Device
without_above r = record r { upper = None }

abbrev with_top : ℕ → Device → Device
with_top x r = record r { top = id x }

abbrev without_below : ℕ → Device → Device
without_below t r = record r { lower = None; top = id t }

abbrev with_bare : List Device → ℕ → List Device
with_bare R x = edit R x without_above

abbrev topped : List Device → ℕ → ℕ → List Device
topped R x b = edit (with_bare R x) b (with_top x)

abbrev cut : List Device → ℕ → ℕ → ℕ → ℕ → List Device
cut R x u b t = edit (topped R x b) u (without_below t)

cut_length : (records : List Device) (lower upper bottom top : ℕ) → length (cut records lower upper bottom top) ≡ length records
cut_length R x u b t = edit_length (topped R x b) u (without_below t) ∙ edit_length (with_bare R x) b (with_top x) ∙ edit_length R x without_above

cut_keeps : {Part : Type 0} (read : Device → Part) → ((own : Device) → read (without_above own) ≡ read own)
    → ((own : Device) (other : ℕ) → read (with_top other own) ≡ read own) → ((own : Device) (other : ℕ) → read (without_below other own) ≡ read own)
    → (records : List Device) (lower upper bottom top other : ℕ)
    → read (record_of (cut records lower upper bottom top) other) ≡ read (record_of records other)
cut_keeps f a1 a2 a3 R x u b t e =
    edit_keeps f (without_below t) (λ r. a3 r t) (topped R x b) u e ∙ edit_keeps f (with_top x) (λ r. a2 r x) (with_bare R x) b e
    ∙ edit_keeps f without_above a1 R x e

cut_else : (records : List Device) (lower upper bottom top other : ℕ) → other ≢ lower → other ≢ upper → other ≢ bottom
    → record_of (cut records lower upper bottom top) other ≡ record_of records other
cut_else R x u b t e n1 n2 n3 = edit_else (topped R x b) u e (without_below t) n2 ∙ edit_else (with_bare R x) b e (with_top x) n3 ∙ edit_else R x e without_above n1

cut_upper : (records : List Device) (lower upper bottom top other : ℕ) → other ≢ lower
    → (record_of (cut records lower upper bottom top) other).upper ≡ (record_of records other).upper
cut_upper R x u b t e n =
    edit_keeps (λ (r : Device). r.upper) (without_below t) (λ r. refl) (topped R x b) u e
    ∙ edit_keeps (λ (r : Device). r.upper) (with_top x) (λ r. refl) (with_bare R x) b e
    ∙ ap (λ (r : Device). r.upper) (edit_else R x e without_above n)

upper_at_cut : (records : List Device) (lower upper bottom top : ℕ) → lower < length records
    → (record_of (cut records lower upper bottom top) lower).upper ≡ None
upper_at_cut R x u b t h =
    edit_keeps (λ (r : Device). r.upper) (without_below t) (λ r. refl) (topped R x b) u x
    ∙ edit_keeps (λ (r : Device). r.upper) (with_top x) (λ r. refl) (with_bare R x) b x
    ∙ ap (λ (r : Device). r.upper) (edit_here R x without_above h)

cut_lower : (records : List Device) (lower upper bottom top other : ℕ) → other ≢ upper
    → (record_of (cut records lower upper bottom top) other).lower ≡ (record_of records other).lower
cut_lower R x u b t e n =
    ap (λ (r : Device). r.lower) (edit_else (topped R x b) u e (without_below t) n)
    ∙ edit_keeps (λ (r : Device). r.lower) (with_top x) (λ r. refl) (with_bare R x) b e
    ∙ edit_keeps (λ (r : Device). r.lower) without_above (λ r. refl) R x e

cut_at_upper : (records : List Device) (lower upper bottom top : ℕ) → upper < length records
    → record_of (cut records lower upper bottom top) upper ≡ without_below top (record_of (topped records lower bottom) upper)
cut_at_upper R x u b t h =
    let l : u < length (topped R x b) = omega (arith, h, edit_length (with_bare R x) b (with_top x), edit_length R x without_above) in
    edit_here (topped R x b) u (without_below t) l

cut_top : (records : List Device) (lower upper bottom top : ℕ) → bottom < length records → bottom ≢ upper
    → (record_of (cut records lower upper bottom top) bottom).top ≡ id lower
cut_top R x u b t h n =
    let l : b < length (with_bare R x) = omega (arith, h, edit_length R x without_above) in
    ap (λ (r : Device). r.top) (edit_else (topped R x b) u b (without_below t) n)
    ∙ ap (λ (r : Device). r.top) (edit_here (with_bare R x) b (with_top x) l)

abbrev pub detached : List Device → List ℕ → ℕ → ℕ → ℕ → ℕ → ℕ → List Device
detached R s c x u b t = renumbered (id u) 1 (drop c s) (cut R x u b t)

line_of : {records : List Device} {stacks : List (List ℕ)} {stack : List ℕ} {size lower upper bottom top : ℕ}
    (detach : Detaches records stacks stack size lower upper bottom top)
    → DescribesStack records stack
line_of {records = R} {stacks = S} {stack = s} {size = c} {lower = x} {upper = u} {bottom = b} {top = t} j = subst (DescribesStack R) j.list (j.tied.placed x j.known).line

-- a device stands once in the stack
once : {records : List Device} {stacks : List (List ℕ)} {stack : List ℕ} {size lower upper bottom top : ℕ}
    (detach : Detaches records stacks stack size lower upper bottom top)
    → (earlier place : ℕ) → earlier < length stack → place < length stack → member_at stack earlier ≡ member_at stack place → earlier ≡ place
once {records = R} {stacks = S} {stack = s} {size = c} {lower = x} {upper = u} {bottom = b} {top = t} j i k hi hk e =
    let l = line_of j in
    let z : i + 1 ≡ k + 1 = sym (l.size i hi) ∙ ap (λ y. (record_of R y).size) e ∙ l.size k hk in
    omega (arith, z)

rising : {records : List Device} {stacks : List (List ℕ)} {stack : List ℕ} {size lower upper bottom top : ℕ}
    (detach : Detaches records stacks stack size lower upper bottom top)
    → IsRising (cut records lower upper bottom top) stack size
rising {records = R} {stacks = S} {stack = s} {size = c} {lower = x} {upper = u} {bottom = b} {top = t} j =
    let l = line_of j in
    let off : (k : ℕ) → c ≤ k → k < length s → member_at s k ≢ x = λ k h lt e.
    let h1 : c - 1 < length s = omega (arith, j.more) in
    let z = once j k (c - 1) lt h1 (e ∙ j.lower_is) in
    absurd (omega (arith, z, h, j.some)) in
    record {
      upper = λ k h m.
          let lt : k < length s = omega (arith, m) in
          cut_upper R x u b t (member_at s k) (off k h lt) ∙ l.upper k m;
      last =
          let lt : length s - 1 < length s = omega (arith, j.more) in
          let h : c ≤ length s - 1 = omega (arith, j.more) in
          cut_upper R x u b t (member_at s (length s - 1)) (off (length s - 1) h lt) ∙ l.last;
    }

-- the walk that renumbers goes over the upper part
pub walked : {records : List Device} {stacks : List (List ℕ)} {stack : List ℕ} {size lower upper bottom top : ℕ}
    (detach : Detaches records stacks stack size lower upper bottom top)
    → walk most_locations (cut records lower upper bottom top) upper ≡ drop size stack
walked {records = R} {stacks = S} {stack = s} {size = c} {lower = x} {upper = u} {bottom = b} {top = t} j =
    let le : c ≤ c = omega arith in
    let few : length s ≤ most_locations + c = omega (arith, (line_of j).few) in
    ap (walk most_locations (cut R x u b t)) j.upper_is ∙ walk_rising most_locations (cut R x u b t) s c c (rising j) le j.more few

-- the places of the two parts
low_length : {records : List Device} {stacks : List (List ℕ)} {stack : List ℕ} {size lower upper bottom top : ℕ}
    (detach : Detaches records stacks stack size lower upper bottom top)
    → length (take size stack) ≡ size
low_length {records = R} {stacks = S} {stack = s} {size = c} {lower = x} {upper = u} {bottom = b} {top = t} j = length-take-le c s (omega (arith, j.more))

high_length : {records : List Device} {stacks : List (List ℕ)} {stack : List ℕ} {size lower upper bottom top : ℕ}
    (detach : Detaches records stacks stack size lower upper bottom top)
    → length (drop size stack) ≡ length stack - size
high_length {records = R} {stacks = S} {stack = s} {size = c} {lower = x} {upper = u} {bottom = b} {top = t} j = length-drop c s

low_at : (stack : List ℕ) (size place : ℕ) → place < size → member_at (take size stack) place ≡ member_at stack place
low_at s c k h = get_or-take c s k 0 h

high_at : (stack : List ℕ) (size place : ℕ) → member_at (drop size stack) place ≡ member_at stack (size + place)
high_at s c k = get_or-drop c s k 0

low_out : {records : List Device} {stacks : List (List ℕ)} {stack : List ℕ} {size lower upper bottom top : ℕ}
    (detach : Detaches records stacks stack size lower upper bottom top)
    → (place : ℕ) → place < size → IsOut (drop size stack) (member_at stack place)
low_out {records = R} {stacks = S} {stack = s} {size = c} {lower = x} {upper = u} {bottom = b} {top = t} j k h i hi e =
    let h1 : c + i < length s = omega (arith, hi, high_length j) in
    let h2 : k < length s = omega (arith, h, j.more) in
    let z = once j (c + i) k h1 h2 (sym (high_at s c i) ∙ e) in
    absurd (omega (arith, z, h))

high_apart : {records : List Device} {stacks : List (List ℕ)} {stack : List ℕ} {size lower upper bottom top : ℕ}
    (detach : Detaches records stacks stack size lower upper bottom top)
    → (earlier place : ℕ) → earlier < length (drop size stack) → place < length (drop size stack)
    → member_at (drop size stack) earlier ≡ member_at (drop size stack) place → earlier ≡ place
high_apart {records = R} {stacks = S} {stack = s} {size = c} {lower = x} {upper = u} {bottom = b} {top = t} j i k hi hk e =
    let h1 : c + i < length s = omega (arith, hi, high_length j) in
    let h2 : c + k < length s = omega (arith, hk, high_length j) in
    let z = once j (c + i) (c + k) h1 h2 (sym (high_at s c i) ∙ e ∙ high_at s c k) in
    omega (arith, z)

pub detached_length : {records : List Device} {stacks : List (List ℕ)} {stack : List ℕ} {size lower upper bottom top : ℕ}
    (detach : Detaches records stacks stack size lower upper bottom top)
    → length (detached records stack size lower upper bottom top) ≡ length records
detached_length {records = R} {stacks = S} {stack = s} {size = c} {lower = x} {upper = u} {bottom = b} {top = t} j = renumbered_length (id u) 1 (drop c s) (cut R x u b t) ∙ cut_length R x u b t

member : {records : List Device} {stacks : List (List ℕ)} {stack : List ℕ} {size lower upper bottom top : ℕ}
    (detach : Detaches records stacks stack size lower upper bottom top)
    → (place : ℕ) → place < length stack → member_at stack place < length records
member {records = R} {stacks = S} {stack = s} {size = c} {lower = x} {upper = u} {bottom = b} {top = t} j k h = (line_of j).known k h

line_low : {records : List Device} {stacks : List (List ℕ)} {stack : List ℕ} {size lower upper bottom top : ℕ}
    (detach : Detaches records stacks stack size lower upper bottom top)
    → DescribesStack (detached records stack size lower upper bottom top) (take size stack)
line_low {records = R} {stacks = S} {stack = s} {size = c} {lower = x} {upper = u} {bottom = b} {top = t} j =
    let l = line_of j in
    let M1 = cut R x u b t in
    let M = detached R s c x u b t in
    let n : length (take c s) ≡ c = low_length j in
    let inside : (k : ℕ) → k < length (take c s) → k < c = λ k h. omega (arith, h, n) in
    let here : (k : ℕ) → k < c → k < length s = λ k h. omega (arith, h, j.more) in
    let same : (k : ℕ) → k < c → record_of M (member_at s k) ≡ record_of M1 (member_at s k) =
    λ k h. renumbered_out (id u) 1 (drop c s) M1 (member_at s k) (low_out j k h) in
    let not_u : (k : ℕ) → k < c → member_at s k ≢ u = λ k h e.
    let z = once j k c (here k h) j.more (e ∙ j.upper_is) in absurd (omega (arith, z, h)) in
    let not_x : (k : ℕ) → k + 1 < c → member_at s k ≢ x = λ k h e.
    let h1 : k < length s = omega (arith, h, j.more) in
    let h2 : c - 1 < length s = omega (arith, j.more) in
    let z = once j k (c - 1) h1 h2 (e ∙ j.lower_is) in absurd (omega (arith, z, h)) in
    let end : length (take c s) - 1 ≡ c - 1 = omega (arith, n) in
    let lc : c - 1 < c = omega (arith, j.some) in
    let top_at : member_at (take c s) (length (take c s) - 1) ≡ x = ap (λ k. member_at (take c s) k) end ∙ low_at s c (c - 1) lc ∙ sym j.lower_is in
    let first : member_at (take c s) 0 ≡ member_at s 0 = low_at s c 0 j.some in
    record {
      some = omega (arith, n, j.some);
      few = omega (arith, n, j.more, l.few);
      known = λ k h.
          let q : member_at s k < length M = omega (arith, l.known k (here k (inside k h)), detached_length j) in
          subst (λ y. y < length M) (sym (low_at s c k (inside k h))) q;
      size = λ k h.
          ap (λ y. (record_of M y).size) (low_at s c k (inside k h)) ∙ ap (λ (r : Device). r.size) (same k (inside k h))
          ∙ cut_keeps (λ (r : Device). r.size) (λ r. refl) (λ r e. refl) (λ r e. refl) R x u b t (member_at s k)
          ∙ l.size k (here k (inside k h));
      first =
          ap (λ y. (record_of M y).lower) first ∙ ap (λ (r : Device). r.lower) (same 0 j.some) ∙ cut_lower R x u b t (member_at s 0) (not_u 0 j.some)
          ∙ l.first;
      lower = λ k h.
          let h1 : k + 1 < c = inside (k + 1) h in
          let h0 : k < c = omega (arith, h1) in
          ap (λ y. (record_of M y).lower) (low_at s c (k + 1) h1) ∙ ap (λ (r : Device). r.lower) (same (k + 1) h1)
          ∙ cut_lower R x u b t (member_at s (k + 1)) (not_u (k + 1) h1) ∙ l.lower k (here (k + 1) h1)
          ∙ ap (λ y. Some (id y)) (sym (low_at s c k h0));
      upper = λ k h.
          let h1 : k + 1 < c = inside (k + 1) h in
          let h0 : k < c = omega (arith, h1) in
          ap (λ y. (record_of M y).upper) (low_at s c k h0) ∙ ap (λ (r : Device). r.upper) (same k h0)
          ∙ cut_upper R x u b t (member_at s k) (not_x k h1) ∙ l.upper k (here (k + 1) h1)
          ∙ ap (λ y. Some (id y)) (sym (low_at s c (k + 1) h1));
      last =
          ap (λ y. (record_of M y).upper) (top_at ∙ j.lower_is) ∙ ap (λ (r : Device). r.upper) (same (c - 1) lc)
          ∙ ap (λ y. (record_of M1 y).upper) (sym j.lower_is) ∙ upper_at_cut R x u b t j.known;
      bottom = λ k h.
          ap (λ y. (record_of M y).bottom) (low_at s c k (inside k h)) ∙ ap (λ (r : Device). r.bottom) (same k (inside k h))
          ∙ cut_keeps (λ (r : Device). r.bottom) (λ r. refl) (λ r e. refl) (λ r e. refl) R x u b t (member_at s k)
          ∙ l.bottom k (here k (inside k h)) ∙ ap id (sym first);
      top =
          let nu : b ≢ u = λ e. not_u 0 j.some (sym j.bottom_is ∙ e) in
          let kb : b < length R = subst (λ y. y < length R) (sym j.bottom_is) (l.known 0 (here 0 j.some)) in
          ap (λ y. (record_of M y).top) first ∙ ap (λ (r : Device). r.top) (same 0 j.some)
          ∙ ap (λ y. (record_of M1 y).top) (sym j.bottom_is) ∙ cut_top R x u b t kb nu ∙ ap id (sym top_at);
      live = λ k m h.
          let ms : 1 < length s = omega (arith, m, n, j.more) in
          ap (λ y. (record_of M y).live) (low_at s c k (inside k h)) ∙ ap (λ (r : Device). r.live) (same k (inside k h))
          ∙ cut_keeps (λ (r : Device). r.live) (λ r. refl) (λ r e. refl) (λ r e. refl) R x u b t (member_at s k)
          ∙ l.live k ms (here k (inside k h));
    }

line_high : {records : List Device} {stacks : List (List ℕ)} {stack : List ℕ} {size lower upper bottom top : ℕ}
    (detach : Detaches records stacks stack size lower upper bottom top)
    → DescribesStack (detached records stack size lower upper bottom top) (drop size stack)
line_high {records = R} {stacks = S} {stack = s} {size = c} {lower = x} {upper = u} {bottom = b} {top = t} j =
    let l = line_of j in
    let M1 = cut R x u b t in
    let M = detached R s c x u b t in
    let n : length (drop c s) ≡ length s - c = high_length j in
    let here : (k : ℕ) → k < length (drop c s) → c + k < length s = λ k h. omega (arith, h, n) in
    let known1 : (k : ℕ) → k < length (drop c s) → member_at (drop c s) k < length M1 = λ k h.
    let q : member_at s (c + k) < length M1 = omega (arith, l.known (c + k) (here k h), cut_length R x u b t) in
    subst (λ y. y < length M1) (sym (high_at s c k)) q in
    let not_x : (k : ℕ) → c + k < length s → member_at s (c + k) ≢ x = λ k h e.
    let h2 : c - 1 < length s = omega (arith, j.more) in
    let z = once j (c + k) (c - 1) h h2 (e ∙ j.lower_is) in absurd (omega (arith, z, j.some)) in
    let not_u : (k : ℕ) → 0 < k → c + k < length s → member_at s (c + k) ≢ u = λ k p h e.
    let z = once j (c + k) c h j.more (e ∙ j.upper_is) in absurd (omega (arith, z, p)) in
    let p0 : 0 < length (drop c s) = omega (arith, n, j.more) in
    let zero_at : c + 0 ≡ c = omega arith in
    let first : member_at (drop c s) 0 ≡ u = high_at s c 0 ∙ ap (λ k. member_at s k) zero_at ∙ sym j.upper_is in
    let end : c + (length (drop c s) - 1) ≡ length s - 1 = omega (arith, n, j.more) in
    let top_at : member_at (drop c s) (length (drop c s) - 1) ≡ t = high_at s c (length (drop c s) - 1) ∙ ap (λ k. member_at s k) end
    ∙ sym j.top_is in
    let ku : u < length R = subst (λ y. y < length R) (sym j.upper_is) (l.known c j.more) in
    let mine = cut_at_upper R x u b t ku in
    record {
      some = p0;
      few = omega (arith, n, l.few);
      known = λ k h. omega (arith, known1 k h, renumbered_length (id u) 1 (drop c s) M1);
      size = λ k h.
          let e : 1 + k ≡ k + 1 = omega arith in
          renumbered_size (id u) 1 (drop c s) M1 (high_apart j) k h (known1 k h) ∙ e;
      first =
          renumbered_keeps (λ (r : Device). r.lower) (λ r b n. refl) (id u) 1 (drop c s) M1 (member_at (drop c s) 0)
          ∙ ap (λ y. (record_of M1 y).lower) first ∙ ap (λ (r : Device). r.lower) mine;
      lower = λ k h.
          let e : c + (k + 1) ≡ (c + k) + 1 = omega arith in
          let p : 0 < k + 1 = omega arith in
          let h1 : (c + k) + 1 < length s = omega (arith, here (k + 1) h) in
          renumbered_keeps (λ (r : Device). r.lower) (λ r b n. refl) (id u) 1 (drop c s) M1 (member_at (drop c s) (k + 1))
          ∙ ap (λ y. (record_of M1 y).lower) (high_at s c (k + 1))
          ∙ cut_lower R x u b t (member_at s (c + (k + 1))) (not_u (k + 1) p (here (k + 1) h))
          ∙ ap (λ i. (record_of R (member_at s i)).lower) e
          ∙ l.lower (c + k) h1
          ∙ ap (λ y. Some (id y)) (sym (high_at s c k));
      upper = λ k h.
          let e : (c + k) + 1 ≡ c + (k + 1) = omega arith in
          let h1 : (c + k) + 1 < length s = omega (arith, here (k + 1) h) in
          let h0 : c + k < length s = omega (arith, h1) in
          renumbered_keeps (λ (r : Device). r.upper) (λ r b n. refl) (id u) 1 (drop c s) M1 (member_at (drop c s) k)
          ∙ ap (λ y. (record_of M1 y).upper) (high_at s c k)
          ∙ cut_upper R x u b t (member_at s (c + k)) (not_x k h0)
          ∙ l.upper (c + k) h1
          ∙ ap (λ i. Some (id (member_at s i))) e
          ∙ ap (λ y. Some (id y)) (sym (high_at s c (k + 1)));
      last =
          renumbered_keeps (λ (r : Device). r.upper) (λ r b n. refl) (id u) 1 (drop c s) M1 (member_at (drop c s) (length (drop c s) - 1))
          ∙ ap (λ y. (record_of M1 y).upper) (top_at ∙ j.top_is)
          ∙ (rising j).last;
      bottom = λ k h.
          renumbered_bottom (id u) 1 (drop c s) M1 k h (known1 k h) ∙ ap id (sym first);
      top =
          renumbered_keeps (λ (r : Device). r.top) (λ r b n. refl) (id u) 1 (drop c s) M1 (member_at (drop c s) 0)
          ∙ ap (λ y. (record_of M1 y).top) first ∙ ap (λ (r : Device). r.top) mine ∙ ap id (sym top_at);
      live = λ k m h.
          let ms : 1 < length s = omega (arith, m, n) in
          renumbered_keeps (λ (r : Device). r.live) (λ r b n. refl) (id u) 1 (drop c s) M1 (member_at (drop c s) k)
          ∙ cut_keeps (λ (r : Device). r.live) (λ r. refl) (λ r e. refl) (λ r e. refl) R x u b t (member_at (drop c s) k)
          ∙ ap (λ y. (record_of R y).live) (high_at s c k)
          ∙ l.live (c + k) ms (here k h);
    }

abbrev pub parted : List (List ℕ) → List ℕ → ℕ → List (List ℕ)
parted S s c = regrouped (regrouped S (take c s)) (drop c s)

pub tied_detached : {records : List Device} {stacks : List (List ℕ)} {stack : List ℕ} {size lower upper bottom top : ℕ}
    (detach : Detaches records stacks stack size lower upper bottom top)
    → DescribesStacks (detached records stack size lower upper bottom top) (parted stacks stack size)
tied_detached {records = R} {stacks = S} {stack = s} {size = c} {lower = x} {upper = u} {bottom = b} {top = t} j =
    let l = line_of j in
    let M = detached R s c x u b t in
    let regrouped_low = regrouped S (take c s) in
    let T = parted S s c in
    let same_length : length M ≡ length R = detached_length j in
    let n1 : length (take c s) ≡ c = low_length j in
    let n2 : length (drop c s) ≡ length s - c = high_length j in
    let long1 : length regrouped_low ≡ length R = regrouped_length S (take c s) (take c s) ∙ j.tied.counted in
    let low_line = line_low j in
    let high_line = line_high j in
    record {
      counted = regrouped_length regrouped_low (drop c s) (drop c s) ∙ long1 ∙ sym same_length;
      placed = λ e lt.
          let lt1 : e < length R = omega (arith, lt, same_length) in
          let p = j.tied.placed e lt1 in
          elim (find_place (drop c s) e) as (λ _. IsPlaced M T e) [
            | inl w ↦ placed_in M T (drop c s) e high_line w (λ k h. regrouped_in regrouped_low (drop c s) (drop c s) k h (omega (arith, high_line.known k h, same_length, long1)))
            | inr out ↦ elim (find_place (take c s) e) as (λ _. IsPlaced M T e) [
              | inl w ↦ placed_in M T (take c s) e low_line w (λ k h.
                  let h1 : k < c = omega (arith, h, n1) in
                  let away : IsOut (drop c s) (member_at (take c s) k) = subst (IsOut (drop c s)) (sym (low_at s c k h1)) (low_out j k h1) in
                  regrouped_out regrouped_low (drop c s) (drop c s) (member_at (take c s) k) away
                  ∙ regrouped_in S (take c s) (take c s) k h (omega (arith, low_line.known k h, same_length, j.tied.counted)))
              | inr out2 ↦
                  let not_in : (i : ℕ) → i < length s → member_at s i ≢ e = λ i hi q.
                  elim (cases_lt i c) as (λ _. ⊥) [
                    | inl lo ↦ let h : i < length (take c s) = omega (arith, lo, n1) in out2 i h (low_at s c i lo ∙ q)
                    | inr hi2 ↦
                        let h : i - c < length (drop c s) = omega (arith, hi2, hi, n2) in
                        let f : c + (i - c) ≡ i = omega (arith, hi2) in
                        out (i - c) h (high_at s c (i - c) ∙ ap (λ m. member_at s m) f ∙ q)
                  ] in
                  let away : (k : ℕ) → k < length (list_of S e) → (i : ℕ) → i < length s → member_at s i ≢ member_at (list_of S e) k = λ k h i hi q.
                  let px = j.tied.placed x j.known in
                  let hx : i < length (list_of S x) = subst (λ y. i < length y) (sym j.list) hi in
                  let f : list_of S (member_at s i) ≡ s =
                  ap (λ y. list_of S (member_at y i)) (sym j.list) ∙ px.same i hx ∙ j.list in
                  let g : list_of S e ≡ s = sym (p.same k h) ∙ ap (λ y. list_of S y) (sym q) ∙ f in
                  let at : (record_of R e).size - 1 < length (list_of S e) = omega (arith, p.within, p.some) in
                  let at1 : (record_of R e).size - 1 < length s = subst (λ y. (record_of R e).size - 1 < length y) g at in
                  not_in ((record_of R e).size - 1) at1 (ap (λ y. member_at y ((record_of R e).size - 1)) (sym g) ∙ p.own) in
                  let off_low : (k : ℕ) → k < length (list_of S e) → IsOut (take c s) (member_at (list_of S e) k) = λ k h i hi q.
                  let h1 : i < c = omega (arith, hi, n1) in
                  let h2 : i < length s = omega (arith, h1, j.more) in
                  away k h i h2 (sym (low_at s c i h1) ∙ q) in
                  let off_high : (k : ℕ) → k < length (list_of S e) → IsOut (drop c s) (member_at (list_of S e) k) = λ k h i hi q.
                  let h2 : c + i < length s = omega (arith, hi, n2) in
                  away k h (c + i) h2 (sym (high_at s c i) ∙ q) in
                  let h1 : c - 1 < length s = omega (arith, j.more) in
                  let h0 : 0 < length s = omega (arith, j.more) in
                  placed_kept R M S T e p (omega (arith, same_length))
                  (λ k h.
                  renumbered_out (id u) 1 (drop c s) (cut R x u b t) (member_at (list_of S e) k) (off_high k h)
                  ∙ cut_else R x u b t (member_at (list_of S e) k)
                  (λ q. away k h (c - 1) h1 (sym j.lower_is ∙ sym q))
                  (λ q. away k h c j.more (sym j.upper_is ∙ sym q))
                  (λ q. away k h 0 h0 (sym j.bottom_is ∙ sym q)))
                  (λ k h.
                  regrouped_out regrouped_low (drop c s) (drop c s) (member_at (list_of S e) k) (off_high k h)
                  ∙ regrouped_out S (take c s) (take c s) (member_at (list_of S e) k) (off_low k h))
            ]
          ];
    }

pub facts_detached : (records : List Device) (stack : List ℕ) (size lower upper bottom top : ℕ)
    → map facts_in (detached records stack size lower upper bottom top) ≡ map facts_in records
facts_detached R s c x u b t =
    renumbered_maps facts_in (λ r b n. refl) (id u) 1 (drop c s) (cut R x u b t)
    ∙ edit_maps facts_in (without_below t) (λ r. refl) (topped R x b) u
    ∙ edit_maps facts_in (with_top x) (λ r. refl) (with_bare R x) b
    ∙ edit_maps facts_in without_above (λ r. refl) R x

pub known_high : {records : List Device} {stacks : List (List ℕ)} {stack : List ℕ} {size lower upper bottom top : ℕ}
    (detach : Detaches records stacks stack size lower upper bottom top)
    → (place : ℕ) → place < length (drop size stack) → member_at (drop size stack) place < length (cut records lower upper bottom top)
known_high {records = R} {stacks = S} {stack = s} {size = c} {lower = x} {upper = u} {bottom = b} {top = t} j k h =
    let h1 : c + k < length s = omega (arith, h, high_length j) in
    let q : member_at s (c + k) < length (cut R x u b t) = omega (arith, member j (c + k) h1, cut_length R x u b t) in
    subst (λ y. y < length (cut R x u b t)) (sym (high_at s c k)) q
