-- The records that attach leaves describe the stacks that it is to leave.
use Rattle.std.proofs.Common.{◌≡◌, ℕ, ◌+◌, ◌-◌, ◌<◌, ◌≢◌, true, List, [], ◌∷◌, ◌++◌, length, map, refl, sym, ◌∙◌, ap, subst, arith, Some, None, inl, inr}
use Rattle.std.proofs.lemmas.Bool.{cases_lt}
use Rattle.std.proofs.lemmas.List.{get_or_append_left, get_or_at, length_push}
use Rattle.irp_types.specs.Limits.{most_locations}
use Rattle.irp_types.specs.Stacks.{regrouped}
use Rattle.irp_stack.specs.declared.device.Device.{Device}
use Rattle.irp_stack.specs.Records.{record_of, member_at, list_of, id, edit, facts_in, DescribesStack, IsPlaced, DescribesStacks}
use Rattle.irp_stack.proofs.Regrouped.{IsIn, IsOut, find_place, regrouped_length, regrouped_in, regrouped_out, edit_length, edit_here, edit_else, edit_keeps, edit_maps, placed_in, placed_kept}

-- an attach that is not refused: the device stands alone, the target's stack has room, and these are its top and bottom
pub record Attaches (records : List Device) (stacks : List (List ℕ)) (device to : ℕ) (top bottom : ℕ) : Type 0 where
  pub tied : DescribesStacks records stacks
  pub known : device < length records
  pub target : to < length records
  pub lone : length (list_of stacks device) ≡ 1
  pub apart : IsOut (list_of stacks to) device
  pub room : length (list_of stacks to) < most_locations
  pub top_is : top ≡ member_at (list_of stacks to) (length (list_of stacks to) - 1)
  pub bottom_is : bottom ≡ member_at (list_of stacks to) 0
  pub live : (record_of records device).live ≡ true
  pub live_target : (record_of records to).live ≡ true

-- the three changes of a record, and the records after each
abbrev with_above : ℕ → Device → Device
with_above d r = record r { upper = Some (id d) }

abbrev with_top : ℕ → Device → Device
with_top d r = record r { top = id d }

abbrev with_below : ℕ → ℕ → ℕ → Device → Device
with_below top bottom n r = record r { lower = Some (id top); bottom = id bottom; size = n }

abbrev with_upper : List Device → ℕ → ℕ → List Device
with_upper R d top = edit R top (with_above d)

abbrev topped : List Device → ℕ → ℕ → ℕ → List Device
topped R d top bottom = edit (with_upper R d top) bottom (with_top d)

abbrev attached_at : List Device → ℕ → ℕ → ℕ → ℕ → List Device
attached_at R d top bottom n = edit (topped R d top bottom) d (with_below top bottom n)

attached_length : (records : List Device) (device top bottom size : ℕ) → length (attached_at records device top bottom size) ≡ length records
attached_length R d top bottom n =
    edit_length (topped R d top bottom) d (with_below top bottom n) ∙ edit_length (with_upper R d top) bottom (with_top d)
    ∙ edit_length R top (with_above d)

topped_length : (records : List Device) (device top bottom : ℕ) → length (topped records device top bottom) ≡ length records
topped_length R d top bottom = edit_length (with_upper R d top) bottom (with_top d) ∙ edit_length R top (with_above d)

-- what the changes keep of a record
kept : {Part : Type 0} (read : Device → Part) → ((own : Device) (upper : ℕ) → read (with_above upper own) ≡ read own)
    → ((own : Device) (upper : ℕ) → read (with_top upper own) ≡ read own) → (records : List Device) (device top bottom size other : ℕ)
    → other ≢ device → read (record_of (attached_at records device top bottom size) other) ≡ read (record_of records other)
kept f a b R d top bottom n x ne =
    ap f (edit_else (topped R d top bottom) d x (with_below top bottom n) ne)
    ∙ edit_keeps f (with_top d) (λ r. b r d) (with_upper R d top) bottom x
    ∙ edit_keeps f (with_above d) (λ r. a r d) R top x

untouched : (records : List Device) (device top bottom size other : ℕ) → other ≢ device → other ≢ top → other ≢ bottom
    → record_of (attached_at records device top bottom size) other ≡ record_of records other
untouched R d top bottom n x n1 n2 n3 =
    edit_else (topped R d top bottom) d x (with_below top bottom n) n1
    ∙ edit_else (with_upper R d top) bottom x (with_top d) n3
    ∙ edit_else R top x (with_above d) n2

upper_else : (records : List Device) (device top bottom size other : ℕ) → other ≢ device → other ≢ top
    → (record_of (attached_at records device top bottom size) other).upper ≡ (record_of records other).upper
upper_else R d top bottom n x n1 n2 =
    ap (λ (r : Device). r.upper) (edit_else (topped R d top bottom) d x (with_below top bottom n) n1)
    ∙ edit_keeps (λ (r : Device). r.upper) (with_top d) (λ r. refl) (with_upper R d top) bottom x
    ∙ ap (λ (r : Device). r.upper) (edit_else R top x (with_above d) n2)

upper_top : (records : List Device) (device top bottom size : ℕ) → top ≢ device → top < length records
    → (record_of (attached_at records device top bottom size) top).upper ≡ Some (id device)
upper_top R d top bottom n n1 lt =
    ap (λ (r : Device). r.upper) (edit_else (topped R d top bottom) d top (with_below top bottom n) n1)
    ∙ edit_keeps (λ (r : Device). r.upper) (with_top d) (λ r. refl) (with_upper R d top) bottom top
    ∙ ap (λ (r : Device). r.upper) (edit_here R top (with_above d) lt)

top_bottom : (records : List Device) (device top bottom size : ℕ) → bottom ≢ device → bottom < length records
    → (record_of (attached_at records device top bottom size) bottom).top ≡ id device
top_bottom R d top bottom n n1 lt =
    let l : bottom < length (with_upper R d top) = omega (arith, lt, edit_length R top (with_above d)) in
    ap (λ (r : Device). r.top) (edit_else (topped R d top bottom) d bottom (with_below top bottom n) n1)
    ∙ ap (λ (r : Device). r.top) (edit_here (with_upper R d top) bottom (with_top d) l)

at_d : (records : List Device) (device top bottom size : ℕ) → device < length records
    → record_of (attached_at records device top bottom size) device ≡ with_below top bottom size (record_of (topped records device top bottom) device)
at_d R d top bottom n lt =
    let l : d < length (topped R d top bottom) = omega (arith, lt, topped_length R d top bottom) in
    edit_here (topped R d top bottom) d (with_below top bottom n) l

-- the places of the new stack
low : (stack : List ℕ) (device place : ℕ) → place < length stack → member_at (stack ++ device ∷ []) place ≡ member_at stack place
low s d k h = get_or_append_left s (d ∷ []) 0 k h

high : (stack : List ℕ) (device : ℕ) → member_at (stack ++ device ∷ []) (length stack) ≡ device
high s d = get_or_at s d [] 0 (length s) refl

-- what the records tell before an attach
line_to : {records : List Device} {stacks : List (List ℕ)} {device to top bottom : ℕ} (attach : Attaches records stacks device to top bottom)
    → DescribesStack records (list_of stacks to)
line_to {records = R} {stacks = S} {device = d} {to} {top} {bottom} j = (j.tied.placed to j.target).line

is_d : {records : List Device} {stacks : List (List ℕ)} {device to top bottom : ℕ} (attach : Attaches records stacks device to top bottom)
    → member_at (list_of stacks device) 0 ≡ device
is_d {records = R} {stacks = S} {device = d} {to} {top} {bottom} j =
    let p = j.tied.placed d j.known in
    let e : (record_of R d).size - 1 ≡ 0 = omega (arith, p.within, p.some, j.lone) in
    ap (λ k. member_at (list_of S d) k) (sym e) ∙ p.own

no_upper : {records : List Device} {stacks : List (List ℕ)} {device to top bottom : ℕ} (attach : Attaches records stacks device to top bottom)
    → (record_of records device).upper ≡ None
no_upper {records = R} {stacks = S} {device = d} {to} {top} {bottom} j =
    let p = j.tied.placed d j.known in
    let e : length (list_of S d) - 1 ≡ 0 = omega (arith, j.lone) in
    ap (λ x. (record_of R x).upper) (sym (is_d j) ∙ ap (λ k. member_at (list_of S d) k) (sym e)) ∙ p.line.last

live_low : {records : List Device} {stacks : List (List ℕ)} {device to top bottom : ℕ} (attach : Attaches records stacks device to top bottom)
    → (place : ℕ) → place < length (list_of stacks to) → (record_of records (member_at (list_of stacks to) place)).live ≡ true
live_low {records = R} {stacks = S} {device = d} {to} {top} {bottom} j k h =
    let s = list_of S to in
    let p = j.tied.placed to j.target in
    elim (cases_lt 1 (length s)) as (λ _. (record_of R (member_at s k)).live ≡ true) [
      | inl more ↦ p.line.live k more h
      | inr few ↦
          let e : k ≡ (record_of R to).size - 1 = omega (arith, h, few, p.within, p.some) in
          ap (λ i. (record_of R (member_at s i)).live) e ∙ ap (λ x. (record_of R x).live) p.own ∙ j.live_target
    ]

abbrev pub attached : List Device → List (List ℕ) → ℕ → ℕ → ℕ → ℕ → List Device
attached R S d to top bottom = attached_at R d top bottom (length (list_of S to) + 1)

off_d : {records : List Device} {stacks : List (List ℕ)} {device to top bottom : ℕ} (attach : Attaches records stacks device to top bottom)
    → (place : ℕ) → place < length (list_of stacks to) → member_at (list_of stacks to) place ≢ device
off_d j k h = j.apart k h

off_top : {records : List Device} {stacks : List (List ℕ)} {device to top bottom : ℕ} (attach : Attaches records stacks device to top bottom)
    → (place : ℕ) → place + 1 < length (list_of stacks to) → member_at (list_of stacks to) place ≢ top
off_top {records = R} {stacks = S} {device = d} {to} {top} {bottom} j k h e =
    let s = list_of S to in
    let l = line_to j in
    let h1 : k < length s = omega (arith, h) in
    let h2 : length s - 1 < length s = omega (arith, h) in
    let z : k + 1 ≡ length s - 1 + 1 = sym (l.size k h1) ∙ ap (λ x. (record_of R x).size) (e ∙ j.top_is) ∙ l.size (length s - 1) h2 in
    absurd (omega (arith, z, h))

-- what holds of each place of the target's stack and of the new top holds of each place of the new stack
both : (Holds : ℕ → ℕ → Type 0) (stack : List ℕ) (device : ℕ) → ((place : ℕ) → place < length stack → Holds place (member_at stack place))
    → Holds (length stack) device → (place : ℕ) → place < length (stack ++ device ∷ []) → Holds place (member_at (stack ++ device ∷ []) place)
both P s d f g k h =
    elim (cases_lt k (length s)) as (λ _. P k (member_at (s ++ d ∷ []) k)) [
      | inl lt ↦ subst (P k) (sym (low s d k lt)) (f k lt)
      | inr ge ↦
          let e : k ≡ length s = omega (arith, ge, h, length_push s d) in
          subst (λ i. P i (member_at (s ++ d ∷ []) i)) (sym e) (subst (P (length s)) (sym (high s d)) g)
    ]

line_joined : {records : List Device} {stacks : List (List ℕ)} {device to top bottom : ℕ} (attach : Attaches records stacks device to top bottom)
    → DescribesStack (attached records stacks device to top bottom) (list_of stacks to ++ device ∷ [])
line_joined {records = R} {stacks = S} {device = d} {to} {top} {bottom} j =
    let s = list_of S to in
    let t = s ++ d ∷ [] in
    let n = length s + 1 in
    let M = attached R S d to top bottom in
    let l = line_to j in
    let long : length t ≡ length s + 1 = length_push s d in
    let last : length s - 1 < length s = omega (arith, l.some) in
    let top_known : top < length R = subst (λ x. x < length R) (sym j.top_is) (l.known (length s - 1) last) in
    let bottom_known : bottom < length R = subst (λ x. x < length R) (sym j.bottom_is) (l.known 0 l.some) in
    let top_off : top ≢ d = λ e. j.apart (length s - 1) last (sym j.top_is ∙ e) in
    let bottom_off : bottom ≢ d = λ e. j.apart 0 l.some (sym j.bottom_is ∙ e) in
    let first : member_at t 0 ≡ bottom = low s d 0 l.some ∙ sym j.bottom_is in
    let end : member_at t (length t - 1) ≡ d =
    let e : length t - 1 ≡ length s = omega (arith, long) in ap (λ k. member_at t k) e ∙ high s d in
    let mine = at_d R d top bottom n j.known in
    record {
      some = omega (arith, long);
      few = omega (arith, long, j.room);
      known = both (λ k x. x < length M) s d
          (λ k h. omega (arith, l.known k h, attached_length R d top bottom n))
          (omega (arith, j.known, attached_length R d top bottom n));
      size = both (λ k x. (record_of M x).size ≡ k + 1) s d
          (λ k h. kept (λ (r : Device). r.size) (λ r e. refl) (λ r e. refl) R d top bottom n (member_at s k) (off_d j k h) ∙ l.size k h)
          (ap (λ (r : Device). r.size) mine);
      first =
          ap (λ x. (record_of M x).lower) (first ∙ j.bottom_is)
          ∙ kept (λ (r : Device). r.lower) (λ r e. refl) (λ r e. refl) R d top bottom n (member_at s 0) (off_d j 0 l.some)
          ∙ l.first;
      lower = λ k h.
          elim (cases_lt (k + 1) (length s)) as (λ _. (record_of M (member_at t (k + 1))).lower ≡ Some (id (member_at t k))) [
            | inl lt ↦
                let lt1 : k < length s = omega (arith, lt) in
                ap (λ x. (record_of M x).lower) (low s d (k + 1) lt)
                ∙ kept (λ (r : Device). r.lower) (λ r e. refl) (λ r e. refl) R d top bottom n (member_at s (k + 1)) (off_d j (k + 1) lt)
                ∙ l.lower k lt
                ∙ ap (λ x. Some (id x)) (sym (low s d k lt1))
            | inr ge ↦
                let e : k + 1 ≡ length s = omega (arith, ge, h, long) in
                let e1 : length s - 1 ≡ k = omega (arith, e) in
                let lt1 : k < length s = omega (arith, e) in
                ap (λ i. (record_of M (member_at t i)).lower) e
                ∙ ap (λ x. (record_of M x).lower) (high s d)
                ∙ ap (λ (r : Device). r.lower) mine
                ∙ ap (λ x. Some (id x)) (j.top_is ∙ ap (λ i. member_at s i) e1 ∙ sym (low s d k lt1))
          ];
      upper = λ k h.
          elim (cases_lt (k + 1) (length s)) as (λ _. (record_of M (member_at t k)).upper ≡ Some (id (member_at t (k + 1)))) [
            | inl lt ↦
                let lt1 : k < length s = omega (arith, lt) in
                ap (λ x. (record_of M x).upper) (low s d k lt1)
                ∙ upper_else R d top bottom n (member_at s k) (off_d j k lt1) (off_top j k lt)
                ∙ l.upper k lt
                ∙ ap (λ x. Some (id x)) (sym (low s d (k + 1) lt))
            | inr ge ↦
                let e : k + 1 ≡ length s = omega (arith, ge, h, long) in
                let e1 : k ≡ length s - 1 = omega (arith, e) in
                let lt1 : k < length s = omega (arith, e) in
                ap (λ x. (record_of M x).upper) (low s d k lt1 ∙ ap (λ i. member_at s i) e1 ∙ sym j.top_is)
                ∙ upper_top R d top bottom n top_off top_known
                ∙ ap (λ x. Some (id x)) (sym (high s d) ∙ ap (λ i. member_at t i) (sym e))
          ];
      last =
          ap (λ x. (record_of M x).upper) end
          ∙ ap (λ (r : Device). r.upper) mine
          ∙ edit_keeps (λ (r : Device). r.upper) (with_top d) (λ r. refl) (with_upper R d top) bottom d
          ∙ ap (λ (r : Device). r.upper) (edit_else R top d (with_above d) (λ e. top_off (sym e)))
          ∙ no_upper j;
      bottom =
          λ k h. both (λ k x. (record_of M x).bottom ≡ id bottom) s d
          (λ k h. kept (λ (r : Device). r.bottom) (λ r e. refl) (λ r e. refl) R d top bottom n (member_at s k) (off_d j k h)
          ∙ l.bottom k h ∙ ap id (sym j.bottom_is))
          (ap (λ (r : Device). r.bottom) mine) k h
          ∙ ap id (sym first);
      top = ap (λ x. (record_of M x).top) first ∙ top_bottom R d top bottom n bottom_off bottom_known ∙ ap id (sym end);
      live = λ k m h. both (λ k x. (record_of M x).live ≡ true) s d
          (λ k h. kept (λ (r : Device). r.live) (λ r e. refl) (λ r e. refl) R d top bottom n (member_at s k) (off_d j k h) ∙ live_low j k h)
          (ap (λ (r : Device). r.live) mine
          ∙ edit_keeps (λ (r : Device). r.live) (with_top d) (λ r. refl) (with_upper R d top) bottom d
          ∙ edit_keeps (λ (r : Device). r.live) (with_above d) (λ r. refl) R top d
          ∙ j.live) k h;
    }

-- the stack of a member of the new stack had only such members
closed : {records : List Device} {stacks : List (List ℕ)} {device to top bottom : ℕ} (attach : Attaches records stacks device to top bottom)
    → (member : ℕ) → IsIn (list_of stacks to ++ device ∷ []) member → (place : ℕ) → place < length (list_of stacks member)
    → IsIn (list_of stacks to ++ device ∷ []) (member_at (list_of stacks member) place)
closed {records = R} {stacks = S} {device = d} {to} {top} {bottom} j x w =
    let s = list_of S to in
    let t = s ++ d ∷ [] in
    let long : length t ≡ length s + 1 = length_push s d in
    subst (λ x. (k : ℕ) → k < length (list_of S x) → IsIn t (member_at (list_of S x) k)) w.2
    (both (λ _ x. (k : ℕ) → k < length (list_of S x) → IsIn t (member_at (list_of S x) k)) s d
    (λ i h k l.
    let e : list_of S (member_at s i) ≡ s = (j.tied.placed to j.target).same i h in
    let l1 : k < length s = subst (λ y. k < length y) e l in
    let l2 : k < length t = omega (arith, l1, long) in
    (k, l2, low s d k l1 ∙ ap (λ y. member_at y k) (sym e)))
    (λ k l.
    let e : 0 ≡ k = omega (arith, l, j.lone) in
    let l2 : length s < length t = omega (arith, long) in
    (length s, l2, high s d ∙ sym (is_d j) ∙ ap (λ i. member_at (list_of S d) i) e))
    w.0 w.1)

pub tied_joined : {records : List Device} {stacks : List (List ℕ)} {device to top bottom : ℕ} (attach : Attaches records stacks device to top bottom)
    → DescribesStacks (attached records stacks device to top bottom) (regrouped stacks (list_of stacks to ++ device ∷ []))
tied_joined {records = R} {stacks = S} {device = d} {to} {top} {bottom} j =
    let s = list_of S to in
    let t = s ++ d ∷ [] in
    let n = length s + 1 in
    let M = attached R S d to top bottom in
    let T = regrouped S t in
    let l = line_to j in
    let same_length : length M ≡ length R = attached_length R d top bottom n in
    let long : length t ≡ length s + 1 = length_push s d in
    let line = line_joined j in
    let last : length s - 1 < length s = omega (arith, l.some) in
    let h0 : 0 < length t = omega (arith, long) in
    let hl : length s - 1 < length t = omega (arith, long) in
    let hd : length s < length t = omega (arith, long) in
    record {
      counted = regrouped_length S t t ∙ j.tied.counted ∙ sym same_length;
      placed = λ e lt.
          let lt1 : e < length R = omega (arith, lt, same_length) in
          let p = j.tied.placed e lt1 in
          elim (find_place t e) as (λ _. IsPlaced M T e) [
            | inl w ↦ placed_in M T t e line w (λ k h. regrouped_in S t t k h (omega (arith, line.known k h, same_length, j.tied.counted)))
            | inr out ↦
                let away : (k : ℕ) → k < length (list_of S e) → IsOut t (member_at (list_of S e) k) = λ k h i hi same.
                let x = member_at (list_of S e) k in
                let f : list_of S x ≡ list_of S e = p.same k h in
                let at : (record_of R e).size - 1 < length (list_of S e) = omega (arith, p.within, p.some) in
                let at1 : (record_of R e).size - 1 < length (list_of S x) = subst (λ y. (record_of R e).size - 1 < length y) (sym f) at in
                let w = closed j x (i, hi, same) ((record_of R e).size - 1) at1 in
                out w.0 w.1 (w.2 ∙ ap (λ y. member_at y ((record_of R e).size - 1)) f ∙ p.own) in
                placed_kept R M S T e p (omega (arith, same_length))
                (λ k h. untouched R d top bottom n (member_at (list_of S e) k)
                (λ q. away k h (length s) hd (high s d ∙ sym q))
                (λ q. away k h (length s - 1) hl (low s d (length s - 1) last ∙ sym j.top_is ∙ sym q))
                (λ q. away k h 0 h0 (low s d 0 l.some ∙ sym j.bottom_is ∙ sym q)))
                (λ k h. regrouped_out S t t (member_at (list_of S e) k) (away k h))
          ];
    }

pub facts_joined : (records : List Device) (stacks : List (List ℕ)) (device to top bottom : ℕ)
    → map facts_in (attached records stacks device to top bottom) ≡ map facts_in records
facts_joined R S d to top bottom =
    edit_maps facts_in (with_below top bottom (length (list_of S to) + 1)) (λ r. refl) (topped R d top bottom) d
    ∙ edit_maps facts_in (with_top d) (λ r. refl) (with_upper R d top) bottom
    ∙ edit_maps facts_in (with_above d) (λ r. refl) R top

pub joined_length : (records : List Device) (stacks : List (List ℕ)) (device to top bottom : ℕ)
    → length (attached records stacks device to top bottom) ≡ length records
joined_length R S d to top bottom = attached_length R d top bottom (length (list_of S to) + 1)
