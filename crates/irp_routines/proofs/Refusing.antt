-- What is known where nothing refuses a closure or a driver.
use Rattle.std.proofs.Common.{◌≡◌, ℕ, ◌<◌, ◌==◌, Bool, true, false, not, ◌||◌, List, length, take, slice_index_or, nat_le, nat_lt, Option, Some, None, sym, cond}
use Rattle.std.specs.List.{All, list_any}
use Rattle.std.proofs.lemmas.Bool.{and_parts, leb-true, leb-false}
use Rattle.std.proofs.lemmas.Option.{none-some}
use Rattle.std.proofs.lemmas.List.Elements.{All-from_get_or}
use Rattle.irp_types.specs.Limits.{last_major, most_drivers, most_dispatches}
use Rattle.irp_types.specs.Rules.{IsWithin}
use Rattle.irp_types.specs.State.{Tables, Entrance}
use Rattle.irp_types.specs.declared.routine.Known.{Known}
use Rattle.irp_routines.specs.Tables.{is_within, full_at, pair_refusal, refusal_at, pairs_refusal, dispatch_refusal, driver_refusal, no_entrance}
use Rattle.irp_routines.specs.declared.not_added.Reason.{Reason}
use Rattle.irp_routines.specs.declared.not_added.Reason.TheVariants.{Full, NoRoutine, BadMajor}
use Rattle.irp_routines.proofs.FirstReasons.{both_none, none_at}

-- where no reason is given, the test for it fails
told_not : (test : Bool) (reason : Reason) (other : Option Reason) → cond test (Some reason) other ≡ None → (test ≡ false) × (other ≡ None)
told_not true reason other none = absurd (none-some reason (sym none))
told_not false reason other none = (λ i. false, none)

-- there is room
pub room : (most count : ℕ) → full_at most count ≡ None → count < most
room most count none = leb-false most count (told_not (nat_le most count) Full None none).0

not_false : (test : Bool) → not test ≡ false → test ≡ true
not_false true is = λ i. true
not_false false is = absurd (true_false is)
  where
    true_false : ◌≡◌ {A = Bool} true false → ⊥
    true_false same = cc

pub within_from : (known counts : Known) → is_within known counts ≡ true → IsWithin known counts
within_from known counts is =
    let first = and_parts (nat_le known.watch counts.watch) _ is in
    let second = and_parts (nat_le known.change counts.change) _ first.1 in
    let third = and_parts (nat_le known.keeper counts.keeper) _ second.1 in
    let fourth = and_parts (nat_le known.keep_on_error counts.keep_on_error) _ third.1 in
    let fifth = and_parts (nat_le known.free counts.free) (nat_le known.cancel counts.cancel) fourth.1 in
    record {
      watch = leb-true _ _ first.0;
      change = leb-true _ _ second.0;
      keeper = leb-true _ _ third.0;
      keep_on_error = leb-true _ _ fourth.0;
      free = leb-true _ _ fifth.0;
      cancel = leb-true _ _ fifth.1;
    }

-- a dispatch that isn't refused names only what there is, and there is room for it
pub dispatch_fits : (tables : Tables) (known : Known) → dispatch_refusal tables known ≡ None → IsWithin known tables.counts × (length tables.dispatches < most_dispatches)
dispatch_fits tables known none =
    let both = told_not (not (is_within known tables.counts)) NoRoutine (full_at most_dispatches (length tables.dispatches)) none in
    (within_from known tables.counts (not_false (is_within known tables.counts) both.0), room most_dispatches (length tables.dispatches) both.1)

pair_named : (dispatches : ℕ) (before : List Entrance) (pair : Entrance) → pair_refusal dispatches before pair ≡ None → pair.1.0 < dispatches
pair_named dispatches before pair none =
    let other = (told_not (nat_lt last_major pair.0 || list_any (λ (entrance : Entrance). entrance.0 == pair.0) before) BadMajor _ none).1 in
    leb-false dispatches pair.1.0 (told_not (nat_le dispatches pair.1.0) NoRoutine None other).0

-- the dispatches of a driver that isn't refused are there, and there is room for it
pub driver_fits : (tables : Tables) (pairs : List Entrance) → driver_refusal tables pairs ≡ None
    → All (λ (entrance : Entrance). entrance.1.0 < length tables.dispatches) pairs × (length tables.drivers < most_drivers)
driver_fits tables pairs none =
    let count = length tables.dispatches in
    let both = both_none (pairs_refusal count pairs) (full_at most_drivers (length tables.drivers)) none in (
      All-from_get_or (λ (entrance : Entrance). entrance.1.0 < count) pairs no_entrance
          (λ place within. pair_named count (take place pairs) (slice_index_or pairs place no_entrance) (none_at (refusal_at count pairs) (length pairs) place both.0 within)),
      room most_drivers (length tables.drivers) both.1,
    )
