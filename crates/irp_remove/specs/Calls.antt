-- What each call does to a remove seat. The cases of a call exclude each other, so each refusal comes exactly where its
-- case names it.
-- A step is described by the view before and after, and by some state in which the rule allows it. Where a parity is
-- given, the word in that state has it. No clause says that it is the word which the running table had.
use Rattle.std.specs.Prelude.{◌≡◌, ◌≢◌, ◌⊎◌, ℕ, ◌+◌, ◌-◌, ◌%◌, ◌<◌, ◌≤◌, true, false, List, [], ◌∷◌, ◌++◌, length}
use Rattle.std.specs.Prelude.{Contains, Some, slice_get, slice_set, remove, bit_or}
use Rattle.irp_types.specs.Limits.{most_held}
use Rattle.irp_remove.specs.declared.refusal.AcquireRefusal.{AcquireRefusal}
use Rattle.irp_remove.specs.declared.refusal.AcquireRefusal.TheVariants as acquire
use Rattle.irp_remove.specs.declared.refusal.ReleaseRefusal.{ReleaseRefusal}
use Rattle.irp_remove.specs.declared.refusal.ReleaseRefusal.TheVariants as release
use Rattle.irp_remove.specs.declared.refusal.BeginRefusal.{BeginRefusal}
use Rattle.irp_remove.specs.declared.refusal.BeginRefusal.TheVariants as begin
use Rattle.irp_remove.specs.declared.refusal.DrainRefusal.{DrainRefusal}
use Rattle.irp_remove.specs.declared.refusal.DrainRefusal.TheVariants as drain
use Rattle.irp_remove.specs.declared.refusal.HandRefusal.{HandRefusal}
use Rattle.irp_remove.specs.declared.refusal.HandRefusal.TheVariants as hand
use Rattle.irp_remove.specs.Core.{flag, total, saw, watch_looked, IsEvent}
use Rattle.irp_remove.specs.declared.views.Stage.TheVariants.{Idle, Trying, Held}
use Rattle.irp_remove.specs.declared.views.View.{View}
use Rattle.irp_remove.specs.declared.views.View.TheVariants.{Observer, Stake}
use Rattle.irp_remove.specs.Seats.{Holder}

-- the seat is of the same table, under the same number
abbrev pub IsSameSeat : Holder → Holder → Type 0
IsSameSeat before after = (after.table ≡ before.table) × (after.number ≡ before.number)

-- the observer began the removal of the lock or found it begun, by a begin_remove of the seat
abbrev pub ObserverKnowsRemoved : ℕ → Holder → Type 0
ObserverKnowsRemoved lock holder = (flag holder.watch.began lock ≡ true) ⊎ (flag holder.watch.saw lock ≡ true)

-- the seat began the removal of the lock or found it begun
abbrev pub KnowsRemoved : ℕ → Holder → Type 0
KnowsRemoved lock holder = ObserverKnowsRemoved lock holder ⊎ (0 < total (saw lock) holder.idle_views)

-- one step by an idle stake: it found the removal not begun, and holds the lock
abbrev pub StakeTook : ℕ → ℕ → View → View → Type 0
StakeTook lock tag idle_view held_view =
    (seen : List ℕ) × (word : ℕ) × (idle_view ≡ Stake Idle seen) × (held_view ≡ Stake (Held lock tag) seen)
    × (word % 2 ≡ 0)
    × IsEvent lock word (word + 2) idle_view held_view

-- two steps by an idle stake: it found the removal begun, and took back what it had added
abbrev pub StakeMissed : ℕ → View → View → Type 0
StakeMissed lock view after =
    (seen : List ℕ) × (word : ℕ) × (later_word : ℕ) × (view ≡ Stake Idle seen) × (after ≡ Stake Idle (lock ∷ seen))
    × (word % 2 ≡ 1)
    × IsEvent lock word (word + 2) view (Stake (Trying lock) (lock ∷ seen))
    × IsEvent lock later_word (later_word - 2) (Stake (Trying lock) (lock ∷ seen)) after

-- one step by a stake that holds the lock: it is idle
abbrev pub StakeGave : ℕ → ℕ → View → View → Type 0
StakeGave lock tag held_view idle_view =
    (seen : List ℕ) × (word : ℕ) × (held_view ≡ Stake (Held lock tag) seen) × (idle_view ≡ Stake Idle seen)
    × IsEvent lock word (word - 2) held_view idle_view

-- the last idle stake has taken a reference
abbrev pub OneMore : ℕ → ℕ → Holder → Holder → Type 0
OneMore lock tag before after =
    (idle_view : View) × (held_view : View) × StakeTook lock tag idle_view held_view
    × (before.idle_views ≡ after.idle_views ++ idle_view ∷ [])
    × (after.held_views ≡ before.held_views ++ held_view ∷ []) × (after.held ≡ before.held ++ (lock, tag) ∷ [])

-- acquire answered Ok
abbrev pub Acquired : ℕ → ℕ → ℕ → Holder → Holder → Type 0
Acquired count lock tag before after =
    (lock < count) × (length before.held < most_held) × (flag before.watch.began lock ≡ false)
    × (flag before.watch.saw lock ≡ false)
    × OneMore lock tag before after × (after.watch ≡ before.watch)

-- the last idle stake tried, and knows the lock removed
abbrev pub TriedInVain : ℕ → Holder → Holder → Type 0
TriedInVain lock before after =
    (rest : List View) × (view : View) × (view_after : View) × StakeMissed lock view view_after
    × (before.idle_views ≡ rest ++ view ∷ []) × (after.idle_views ≡ rest ++ view_after ∷ [])
    × (after.held ≡ before.held) × (after.held_views ≡ before.held_views) × (after.watch ≡ before.watch)

-- acquire was refused
abbrev pub AcquireRefused : ℕ → ℕ → Holder → Holder → AcquireRefusal → Type 0
AcquireRefused count lock before after acquire.NoLock = (count ≤ lock) × (after ≡ before)
AcquireRefused count lock before after acquire.SeatFull =
    (lock < count) × (length before.held ≡ most_held) × (after ≡ before)
AcquireRefused count lock before after acquire.DeletePending =
    (lock < count) × (length before.held < most_held) × KnowsRemoved lock after
    × ((ObserverKnowsRemoved lock before × (after ≡ before))
    ⊎ ((flag before.watch.began lock ≡ false) × (flag before.watch.saw lock ≡ false) × TriedInVain lock before after))

-- one reference to the lock under the tag is given back
abbrev pub OneLess : ℕ → ℕ → Holder → Holder → Type 0
OneLess lock tag before after =
    (place : ℕ) × (held_view : View) × (idle_view : View) × StakeGave lock tag held_view idle_view
    × (slice_get before.held place ≡ Some (lock, tag)) × (slice_get before.held_views place ≡ Some held_view)
    × (after.held ≡ remove before.held place) × (after.held_views ≡ remove before.held_views place)
    × (after.idle_views ≡ before.idle_views ++ idle_view ∷ [])

-- release answered Ok
abbrev pub Released : ℕ → ℕ → ℕ → Holder → Holder → Type 0
Released count lock tag before after = (lock < count) × OneLess lock tag before after × (after.watch ≡ before.watch)

-- release was refused
abbrev pub ReleaseRefused : ℕ → ℕ → ℕ → Holder → Holder → ReleaseRefusal → Type 0
ReleaseRefused count lock tag before after release.NoLock = (count ≤ lock) × (after ≡ before)
ReleaseRefused count lock tag before after release.NotHeld =
    (lock < count) × (¬ Contains before.held (lock, tag)) × (after ≡ before)

-- one step by the observer, which set the removed bit: the word's parity is as given
abbrev pub BitSet : ℕ → ℕ → Holder → Holder → Type 0
BitSet lock parity before after =
    (word : ℕ) × (word % 2 ≡ parity) × IsEvent lock word (bit_or word 1) (Observer before.watch) (Observer after.watch)

-- begin_remove answered Ok
abbrev pub Begun : ℕ → ℕ → ℕ → Holder → Holder → Type 0
Begun count lock tag before after =
    (lock < count) × (after.watch ≡ record before.watch { began = slice_set before.watch.began lock true })
    × BitSet lock 0 before after × OneLess lock tag before after

-- begin_remove was refused
abbrev pub BeginRefused : ℕ → ℕ → ℕ → Holder → Holder → BeginRefusal → Type 0
BeginRefused count lock tag before after begin.NoLock = (count ≤ lock) × (after ≡ before)
BeginRefused count lock tag before after begin.NotHeld =
    (lock < count) × (¬ Contains before.held (lock, tag)) × (after ≡ before)
BeginRefused count lock tag before after begin.AlreadyRemoving =
    (lock < count) × Contains before.held (lock, tag)
    × (after ≡ record before { watch = record before.watch { saw = slice_set before.watch.saw lock true } })
    × BitSet lock 1 before after

-- one step by the observer: it looked once more, at this lock, and found this word
abbrev pub Looked : ℕ → ℕ → ℕ → Holder → Holder → Type 0
Looked count lock word before after =
    (lock < count) × (after ≡ record before { watch = watch_looked lock word before.watch })
    × IsEvent lock word word (Observer before.watch) (Observer after.watch)

-- drained did not answer Yes
abbrev pub DrainRefused : ℕ → ℕ → Holder → Holder → DrainRefusal → Type 0
DrainRefused count lock before after drain.NoLock = (count ≤ lock) × (after ≡ before)
DrainRefused count lock before after (drain.Busy word) = (word ≢ 1) × Looked count lock word before after

-- a stake that holds the lock under the tag and an idle one have changed owners, each with its view
abbrev pub ChangedOwners : ℕ → ℕ → Holder → Holder → Holder → Holder → Type 0
ChangedOwners lock tag giver giver_after taker taker_after =
    (place : ℕ) × (held_view : View) × (idle_view : View)
    × (slice_get giver.held place ≡ Some (lock, tag)) × (slice_get giver.held_views place ≡ Some held_view)
    × (giver_after.held ≡ remove giver.held place) × (giver_after.held_views ≡ remove giver.held_views place)
    × (taker_after.held ≡ taker.held ++ (lock, tag) ∷ [])
    × (taker_after.held_views ≡ taker.held_views ++ held_view ∷ [])
    × (taker.idle_views ≡ taker_after.idle_views ++ idle_view ∷ [])
    × (giver_after.idle_views ≡ giver.idle_views ++ idle_view ∷ [])

-- hand answered Ok
abbrev pub Handed : ℕ → ℕ → ℕ → Holder → Holder → Holder → Holder → Type 0
Handed count lock tag giver giver_after taker taker_after =
    (lock < count) × (length taker.held < most_held) × ChangedOwners lock tag giver giver_after taker taker_after
    × (giver_after.watch ≡ giver.watch) × (taker_after.watch ≡ taker.watch)

-- hand was refused
abbrev pub HandRefused : ℕ → ℕ → ℕ → Holder → Holder → Holder → Holder → HandRefusal → Type 0
HandRefused count lock tag giver giver_after taker taker_after hand.NoLock =
    (count ≤ lock) × (giver_after ≡ giver) × (taker_after ≡ taker)
HandRefused count lock tag giver giver_after taker taker_after hand.NotHeld =
    (lock < count) × (¬ Contains giver.held (lock, tag)) × (giver_after ≡ giver) × (taker_after ≡ taker)
HandRefused count lock tag giver giver_after taker taker_after hand.SeatFull =
    (lock < count) × Contains giver.held (lock, tag) × (length taker.held ≡ most_held) × (giver_after ≡ giver)
    × (taker_after ≡ taker)
