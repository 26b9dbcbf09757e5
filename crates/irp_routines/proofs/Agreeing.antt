-- Tables that agree with each other still do with one more closure or driver.
use Rattle.std.proofs.Common.{◌≡◌, ◌+◌, ◌<◌, ◌≤◌, List, [], ◌∷◌, ◌++◌, length, refl, arith, length-append}
use Rattle.std.proofs.lemmas.List.Elements.{All-push, All-weaker}
use Rattle.irp_types.specs.Limits.{most_drivers, most_routines, most_dispatches}
use Rattle.irp_types.specs.Rules.{IsWithin, count_of_rule}
use Rattle.irp_types.specs.State.{Tables, Entrance, IsDriver, AreTables, most_known}
use Rattle.irp_types.specs.declared.routine.Rule.{Rule}
use Rattle.irp_types.specs.declared.routine.Rule.TheVariants.{Watch, Change, Keeper, KeepOnError, Free}
use Rattle.irp_types.specs.declared.routine.CancelRule.{CancelRule}
use Rattle.irp_types.specs.declared.routine.Known.{Known}
use Rattle.irp_routines.specs.Tables.{one_more, with_routine, with_cancel, with_dispatch, with_driver}

-- the same facts of other counts
within : (known counts : Known) → known.watch ≤ counts.watch → known.change ≤ counts.change → known.keeper ≤ counts.keeper
    → known.keep_on_error ≤ counts.keep_on_error → known.free ≤ counts.free → known.cancel ≤ counts.cancel → IsWithin known counts
within known counts watch change keeper keep_on_error free cancel = record { watch = watch; change = change; keeper = keeper; keep_on_error = keep_on_error; free = free; cancel = cancel }

-- what may be named may be so where there is one more
within_more : (rule : Rule) (known counts : Known) → IsWithin known counts → IsWithin known (one_more counts rule)
within_more Watch known counts is = within known _ (omega (arith, is.watch)) is.change is.keeper is.keep_on_error is.free is.cancel
within_more Change known counts is = within known _ is.watch (omega (arith, is.change)) is.keeper is.keep_on_error is.free is.cancel
within_more Keeper known counts is = within known _ is.watch is.change (omega (arith, is.keeper)) is.keep_on_error is.free is.cancel
within_more KeepOnError known counts is = within known _ is.watch is.change is.keeper (omega (arith, is.keep_on_error)) is.free is.cancel
within_more Free known counts is = within known _ is.watch is.change is.keeper is.keep_on_error (omega (arith, is.free)) is.cancel

-- one more is within the limits where there was room
few_more : (rule : Rule) (counts : Known) → count_of_rule counts rule < most_routines → IsWithin counts most_known → IsWithin (one_more counts rule) most_known
few_more Watch counts room is = within _ _ (omega (arith, room)) is.change is.keeper is.keep_on_error is.free is.cancel
few_more Change counts room is = within _ _ is.watch (omega (arith, room)) is.keeper is.keep_on_error is.free is.cancel
few_more Keeper counts room is = within _ _ is.watch is.change (omega (arith, room)) is.keep_on_error is.free is.cancel
few_more KeepOnError counts room is = within _ _ is.watch is.change is.keeper (omega (arith, room)) is.free is.cancel
few_more Free counts room is = within _ _ is.watch is.change is.keeper is.keep_on_error (omega (arith, room)) is.cancel

same_cancels : (rule : Rule) (counts : Known) → (one_more counts rule).cancel ≡ counts.cancel
same_cancels Watch counts = refl
same_cancels Change counts = refl
same_cancels Keeper counts = refl
same_cancels KeepOnError counts = refl
same_cancels Free counts = refl

pub routine_agrees : (tables : Tables) (rule : Rule) → count_of_rule tables.counts rule < most_routines → AreTables tables → AreTables (with_routine tables rule)
routine_agrees tables rule room agree = record {
  cancels = let same = same_cancels rule tables.counts in let cancels = agree.cancels in cc;
  known = All-weaker (λ known. IsWithin known tables.counts) (λ known. IsWithin known (one_more tables.counts rule)) (λ known is. within_more rule known tables.counts is) tables.dispatches agree.known;
  drivers = All-weaker (IsDriver tables) (IsDriver (with_routine tables rule)) (λ driver is. record { rising = is.rising; majors = is.majors; named = is.named }) tables.drivers agree.drivers;
  few_routines = few_more rule tables.counts room agree.few_routines;
  few_dispatches = agree.few_dispatches;
  few_drivers = agree.few_drivers;
}

pub cancel_agrees : (tables : Tables) (rule : CancelRule) → length tables.cancel_rules < most_routines → AreTables tables → AreTables (with_cancel tables rule)
cancel_agrees tables rule room agree =
    let cancels = agree.cancels in
    let long = length-append tables.cancel_rules (rule ∷ []) in
    record {
      cancels = omega (arith, cancels, long);
      known = All-weaker (λ known. IsWithin known tables.counts) (λ known. IsWithin known (with_cancel tables rule).counts)
          (λ known is. within known (with_cancel tables rule).counts is.watch is.change is.keeper is.keep_on_error is.free (omega (arith, is.cancel))) tables.dispatches agree.known;
      drivers = All-weaker (IsDriver tables) (IsDriver (with_cancel tables rule)) (λ driver is. record { rising = is.rising; majors = is.majors; named = is.named }) tables.drivers agree.drivers;
      few_routines = let few = agree.few_routines in within _ _ few.watch few.change few.keeper few.keep_on_error few.free (omega (arith, cancels, room));
      few_dispatches = agree.few_dispatches;
      few_drivers = agree.few_drivers;
    }

pub dispatch_agrees : (tables : Tables) (known : Known) → length tables.dispatches < most_dispatches → IsWithin known tables.counts → AreTables tables → AreTables (with_dispatch tables known)
dispatch_agrees tables known room named agree =
    let long : length (tables.dispatches ++ known ∷ []) ≡ length tables.dispatches + 1 = length-append tables.dispatches (known ∷ []) in
    record {
      cancels = agree.cancels;
      known = All-push (λ given. IsWithin given tables.counts) tables.dispatches known agree.known named;
      drivers = All-weaker (IsDriver tables) (IsDriver (with_dispatch tables known))
          (λ driver is. record {
            rising = is.rising;
            majors = is.majors;
            named = All-weaker (λ (entrance : Entrance). entrance.1.0 < length tables.dispatches) (λ (entrance : Entrance). entrance.1.0 < length (tables.dispatches ++ known ∷ []))
                (λ entrance there. omega (arith, there, long)) driver is.named;
          }) tables.drivers agree.drivers;
      few_routines = agree.few_routines;
      few_dispatches = omega (arith, long, room);
      few_drivers = agree.few_drivers;
    }

pub driver_agrees : (tables : Tables) (driver : List Entrance) → length tables.drivers < most_drivers → IsDriver tables driver → AreTables tables → AreTables (with_driver tables driver)
driver_agrees tables driver room is agree =
    let long : length (tables.drivers ++ driver ∷ []) ≡ length tables.drivers + 1 = length-append tables.drivers (driver ∷ []) in
    record {
      cancels = agree.cancels;
      known = agree.known;
      drivers = All-push (IsDriver (with_driver tables driver)) tables.drivers driver
          (All-weaker (IsDriver tables) (IsDriver (with_driver tables driver)) (λ each given. record { rising = given.rising; majors = given.majors; named = given.named }) tables.drivers agree.drivers)
          (record { rising = is.rising; majors = is.majors; named = is.named });
      few_routines = agree.few_routines;
      few_dispatches = agree.few_dispatches;
      few_drivers = omega (arith, long, room);
    }
