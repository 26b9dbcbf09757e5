-- The formats accept a script's header.
use Rattle.std.proofs.Common.{◌≡◌, ℕ, ◌<◌, ◌≤◌, All, true, List, [], ◌∷◌, length, sym, ap, ◌∙◌, subst, refl, arith}
use Rattle.std.specs.Prelude.{not, ◌&&◌}
use Rattle.std.specs.List.{AllByRecursion}
use Rattle.std.proofs.lemmas.Bool.{and_parts, leb-true, ltb-true}
use Rattle.std.proofs.lemmas.List.{length-map, length-replicate}
use Rattle.std.proofs.lemmas.List.Elements.{All-from_recursion, All-replicate, recursion_from_All}
use Rattle.std.proofs.lemmas.List.Sorted.{All-permutation}
use Rattle.irp_types.specs.Limits.{last_major}
use Rattle.irp_types.specs.Rules.{IsWithin}
use Rattle.irp_types.specs.State.{Entrance, IsDriver, Tables, most_known}
use Rattle.irp_types.specs.declared.routine.Known.{Known}
use Rattle.irp_transcript.specs.Headers.{IsHeader, fixed_of, slots_of}
use Rattle.irp_transcript.specs.declared.header.Header.{Header}
use Rattle.irp_steps.specs.Behaviours.{cancel_rule_of}
use Rattle.irp_script_reader.specs.Forms.{slots_of as script_slots}
use Rattle.irp_script_reader.specs.Plans.{has_major, is_driver, is_handler}
use Rattle.irp_script_reader.specs.Sound.{IsSound, known_of}
use Rattle.irp_script_reader.specs.declared.script.ScriptParts.{ScriptParts}
use Rattle.irp_steps.proofs.Slots.{slots_same}
use Rattle.irp_machine.specs.Headers.{AreSorted, IsHeaderOf, IsSorted}

same_within : (known : Known) → IsWithin known known
same_within known = record {
  watch = omega arith;
  change = omega arith;
  keeper = omega arith;
  keep_on_error = omega arith;
  free = omega arith;
  cancel = omega arith;
}

-- ---- drivers

handlers_are : (dispatches : ℕ) (driver : List Entrance) → is_driver dispatches driver ≡ true → AllByRecursion (λ (pair : Entrance). is_handler dispatches pair ≡ true) driver
handlers_are dispatches [] is = tt
handlers_are dispatches (first ∷ others) is =
    let both = and_parts (is_handler dispatches first) (not (has_major first.0 others) && is_driver dispatches others) is in
    (both.0, handlers_are dispatches others (and_parts (not (has_major first.0 others)) (is_driver dispatches others) both.1).1)

driver_is : (tables : Tables) (driver sorted : List Entrance) → is_driver (length tables.dispatches) driver ≡ true → IsSorted driver sorted → IsDriver tables sorted
driver_is tables driver sorted is sorting =
    let dispatches = length tables.dispatches in
    let handlers = All-from_recursion (λ (pair : Entrance). is_handler dispatches pair ≡ true) driver (handlers_are dispatches driver is) in
    let parts : (pair : Entrance) → is_handler dispatches pair ≡ true → (pair.0 ≤ last_major) × (pair.1.0 < dispatches) =
    λ pair is. (let both = and_parts _ _ is in (leb-true pair.0 last_major both.0, ltb-true pair.1.0 dispatches both.1)) in
    record {
      rising = sorting.rising;
      majors = All-permutation (λ (pair : Entrance). pair.0 ≤ last_major) driver sorted sorting.pairs (λ k d low. (parts _ (handlers k d low)).0);
      named = All-permutation (λ (pair : Entrance). pair.1.0 < dispatches) driver sorted sorting.pairs (λ k d low. (parts _ (handlers k d low)).1);
    }

drivers_are : (tables : Tables) (drivers sorted : List (List Entrance)) → AreSorted drivers sorted
    → AllByRecursion (λ driver. is_driver (length tables.dispatches) driver ≡ true) drivers → AllByRecursion (IsDriver tables) sorted
drivers_are tables [] [] sorting all = tt
drivers_are tables [] (one ∷ sorted) sorting all = absurd sorting
drivers_are tables (driver ∷ drivers) [] sorting all = absurd sorting
drivers_are tables (driver ∷ drivers) (one ∷ sorted) sorting all =
    (driver_is tables driver one all.0 sorting.0, drivers_are tables drivers sorted sorting.1 all.1)

sorted_long : (drivers sorted : List (List Entrance)) → AreSorted drivers sorted → length sorted ≡ length drivers
sorted_long [] [] sorting = refl
sorted_long [] (one ∷ sorted) sorting = absurd sorting
sorted_long (driver ∷ drivers) [] sorting = absurd sorting
sorted_long (driver ∷ drivers) (one ∷ sorted) sorting = (let rest = sorted_long drivers sorted sorting.1 in omega (arith, rest))

-- ---- the header

pub header_accepted : (script : ScriptParts) (header : Header) → IsSound script → IsHeaderOf script header → IsHeader header
header_accepted script header sound is =
    let tables = (fixed_of header).tables in
    let many : length header.dispatches ≡ length script.dispatches = ap length is.dispatches ∙ length-replicate (length script.dispatches) (known_of script) in
    let long = sorted_long script.drivers header.drivers is.drivers in
    let slots : slots_of header.form ≡ script_slots script.form = ap slots_of is.form ∙ slots_same script.form in
    let all : All (λ driver. is_driver (length tables.dispatches) driver ≡ true) script.drivers =
    subst (λ count. All (λ driver. is_driver count driver ≡ true) script.drivers) (sym many) sound.drivers in
    let locks = is.locks in
    let seats = is.seats in
    let some_locks = sound.some_locks in
    let few_locks = sound.few_locks in
    let some_seats = sound.some_seats in
    let few_seats = sound.few_seats in
    let few_slots = sound.few_slots in
    let few_dispatches = sound.few_dispatches in
    let few_drivers = sound.few_drivers in
    record {
      tables = record {
        cancels =
            ap (λ (known : Known). known.cancel) is.completions ∙ sym (length-map script.cancels cancel_rule_of)
            ∙ sym (ap length is.cancels);
        known =
            subst (All (λ known. IsWithin known header.completions)) (sym is.dispatches)
            (All-replicate (λ known. IsWithin known header.completions) (length script.dispatches) (known_of script)
            (subst (λ counts. IsWithin (known_of script) counts) (sym is.completions) (same_within (known_of script))));
        drivers = All-from_recursion (IsDriver tables) header.drivers (drivers_are tables script.drivers header.drivers is.drivers (recursion_from_All _ script.drivers all));
        few_routines = subst (λ counts. IsWithin counts most_known) (sym is.completions) sound.few_routines;
        few_dispatches = omega (arith, many, few_dispatches);
        few_drivers = omega (arith, long, few_drivers);
      };
      some_locks = omega (arith, locks, some_locks);
      few_locks = omega (arith, locks, few_locks);
      some_seats = omega (arith, seats, some_seats);
      few_seats = omega (arith, seats, few_seats);
      few_slots = omega (arith, slots, few_slots);
    }
