-- Lemmas on the map of a list of places.
use Rattle.std.proofs.Common.{◌≡◌, ℕ, ◌+◌, ◌<◌, ◌≤◌, suc, zero, cond, List, [], ◌∷◌, length, Option, Some, None, is_some, refl, sym, ◌∙◌, ap, subst, arith, inl, inr, set, add-one}
use Rattle.std.proofs.lemmas.List.{get_or-set_same, get_or-set_other}
use Rattle.std.proofs.lemmas.Bool.{cases_eq, cases_lt}
use Rattle.std.specs.Ordering.{nat_cmp}
use Rattle.std.specs.Cmp.{nat_cmp_total}
use Rattle.std.specs.FinMap as fin
use Rattle.irp_types.specs.State.{LivePacket}
use Rattle.irp_manager.specs.Slots.{Slots, place_at, put_if, kept, live_of}
use Rattle.irp_manager.proofs.Maps.{get_inserted, get_kept, same}

get-put_other : (m : Slots) (k : ℕ) (o : Option LivePacket) (q : ℕ) → (q ≡ k → ⊥) → fin.get (put_if m k o) q ≡ fin.get m q
get-put_other m k None q h = refl
get-put_other m k (Some l) q h = get_kept m k l q h

get-put_same : (m : Slots) (k : ℕ) (o : Option LivePacket) → fin.get m k ≡ None → fin.get (put_if m k o) k ≡ o
get-put_same m k None e = e
get-put_same m k (Some l) e = get_inserted m k l

get-above : (xs : List (Option LivePacket)) (n q : ℕ) → n ≤ q → fin.get (kept xs n) q ≡ None
get-above xs zero q h = fin.get-empty nat_cmp q
get-above xs (suc n) q h = get-put_other (kept xs n) n (place_at xs n) q (λ e. omega arith) ∙ get-above xs n q (omega arith)

get-below : (xs : List (Option LivePacket)) (n q : ℕ) → q < n → fin.get (kept xs n) q ≡ place_at xs q
get-below xs zero q h = absurd (omega arith)
get-below xs (suc n) q h =
    elim (cases_eq q n) as (λ _. fin.get (kept xs (suc n)) q ≡ place_at xs q) [
      | inl e ↦ subst (λ q. fin.get (kept xs (suc n)) q ≡ place_at xs q) (sym e) (get-put_same (kept xs n) n (place_at xs n) (get-above xs n n (omega arith)))
      | inr d ↦ get-put_other (kept xs n) n (place_at xs n) q d ∙ get-below xs n q (omega arith)
    ]

past : (xs : List (Option LivePacket)) (q : ℕ) → length xs ≤ q → place_at xs q ≡ None
past [] q h = refl
past (x ∷ xs) zero h = absurd (omega arith)
past (x ∷ xs) (suc q) h = past xs q (omega arith)

pub get-live : (xs : List (Option LivePacket)) (q : ℕ) → fin.get (live_of xs) q ≡ place_at xs q
get-live xs q =
    elim (cases_lt q (length xs)) as (λ _. fin.get (live_of xs) q ≡ place_at xs q) [
      | inl h ↦ get-below xs (length xs) q h
      | inr h ↦ get-above xs (length xs) q h ∙ sym (past xs q h)
    ]

pub live-put : (xs : List (Option LivePacket)) (i : ℕ) (l : LivePacket) → i < length xs → live_of (set xs i (Some l)) ≡ fin.insert (live_of xs) i l
live-put xs i l h = same _ _ (λ q.
    get-live (set xs i (Some l)) q ∙ elim (cases_eq q i) as (λ _. place_at (set xs i (Some l)) q ≡ fin.get (fin.insert (live_of xs) i l) q) [
      | inl e ↦ subst (λ q. place_at (set xs i (Some l)) q ≡ fin.get (fin.insert (live_of xs) i l) q) (sym e) (get_or-set_same xs i (Some l) None h ∙ sym (get_inserted (live_of xs) i l))
      | inr d ↦ get_or-set_other xs i q (Some l) None d ∙ sym (get-live xs q) ∙ sym (get_kept (live_of xs) i l q d)
    ])

len-put : (m : Slots) (k : ℕ) (o : Option LivePacket) → fin.get m k ≡ None → fin.len (put_if m k o) ≡ (cond (is_some o) (fin.len m + 1) (fin.len m))
len-put m k None e = refl
len-put m k (Some l) e = fin.len-insert nat_cmp_total m k l ∙ ap (λ o. cond (is_some o) (fin.len m) (fin.len m + 1)) e

pub len-kept : (xs : List (Option LivePacket)) (n : ℕ) → fin.len (kept xs (n + 1)) ≡ cond (is_some (place_at xs n)) (fin.len (kept xs n) + 1) (fin.len (kept xs n))
len-kept xs n = rw add-one (len-put (kept xs n) n (place_at xs n) (get-above xs n n (omega arith)))

pub len-none : (xs : List (Option LivePacket)) → fin.len (kept xs 0) ≡ 0
len-none xs = fin.len-empty nat_cmp LivePacket
