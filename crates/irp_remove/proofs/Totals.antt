-- Sums over the views of all seats.
use Rattle.std.proofs.Common.{◌≡◌, ℕ, zero, suc, ◌+◌, ◌≤◌, Bool, true, false, List, [], ◌∷◌, ◌++◌, set, sym, ap, arith}
use mathlib.Core.Option.{some, some-injective, some-ne-none}
use lib.ListN.{get_elem?}
use Rattle.irp_remove.specs.declared.views.Stage.{Stage}
use Rattle.irp_remove.specs.declared.views.Stage.TheVariants.{Idle, Trying, Held}
use Rattle.irp_remove.specs.declared.views.View.{View}
use Rattle.irp_remove.specs.declared.views.View.TheVariants.{First, Observer, Stake}
use Rattle.irp_remove.specs.Core.{total, one_if, at_stage, held_at, held, staked, stakes}

-- the sum after one view has changed
pub total_set : (f : View → ℕ) (views : List View) (id : ℕ) (v w : View) → get_elem? views id ≡ some v → total f (set views id w) + f v ≡ total f views + f w
total_set f [] id v w at = absurd (some-ne-none v (sym at))
total_set f (x ∷ xs) zero v w at = let same : f x ≡ f v = ap f (some-injective x v at) in omega arith
total_set f (x ∷ xs) (suc id) v w at = let rest = total_set f xs id v w at in omega arith

-- the sum with one view more
pub total_snoc : (f : View → ℕ) (views : List View) (w : View) → total f (views ++ w ∷ []) ≡ total f views + f w
total_snoc f [] w = omega arith
total_snoc f (x ∷ xs) w = let rest = total_snoc f xs w in omega arith

-- no view has more than the sum
pub part_of_total : (f : View → ℕ) (views : List View) (id : ℕ) (v : View) → get_elem? views id ≡ some v → f v ≤ total f views
part_of_total f [] id v at = absurd (some-ne-none v (sym at))
part_of_total f (x ∷ xs) zero v at = let same : f x ≡ f v = ap f (some-injective x v at) in omega arith
part_of_total f (x ∷ xs) (suc id) v at = let rest = part_of_total f xs id v at in omega arith

pub total_le : (f g : View → ℕ) → ((v : View) → f v ≤ g v) → (views : List View) → total f views ≤ total g views
total_le f g le [] = omega arith
total_le f g le (x ∷ xs) = let here = le x in let rest = total_le f g le xs in omega arith

held_at_stage : (lock : ℕ) (stage : Stage) → held_at lock stage ≤ at_stage lock stage
held_at_stage lock Idle = omega arith
held_at_stage lock (Trying k) = omega arith
held_at_stage lock (Held k tag) = omega arith

held_is_staked : (lock : ℕ) (v : View) → held lock v ≤ staked lock v
held_is_staked lock (First o s) = omega arith
held_is_staked lock (Observer w) = omega arith
held_is_staked lock (Stake stage seen) = held_at_stage lock stage

pub one_if_le : (b : Bool) → one_if b ≤ 1
one_if_le true = omega arith
one_if_le false = omega arith

at_stage_le : (lock : ℕ) (stage : Stage) → at_stage lock stage ≤ 1
at_stage_le lock Idle = omega arith
at_stage_le lock (Trying k) = one_if_le _
at_stage_le lock (Held k tag) = one_if_le _

pub staked_is_one : (lock : ℕ) (v : View) → staked lock v ≤ stakes v
staked_is_one lock (First o s) = omega arith
staked_is_one lock (Observer w) = omega arith
staked_is_one lock (Stake stage seen) = at_stage_le lock stage

pub held_staked : (lock : ℕ) (views : List View) → total (held lock) views ≤ total (staked lock) views
held_staked lock views = total_le (held lock) (staked lock) (held_is_staked lock) views

pub staked_stakes : (lock : ℕ) (views : List View) → total (staked lock) views ≤ total stakes views
staked_stakes lock views = total_le (staked lock) stakes (staked_is_one lock) views
