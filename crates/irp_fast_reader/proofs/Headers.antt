-- A header is read as it was written, and its form stands.
use Rattle.std.proofs.Common.{◌≡◌, ℕ, suc, ◌<◌, ◌≤◌, ◌^◌, List, length, map, Some, refl, sym, ap, ◌∙◌, arith, le-leb}
use Rattle.std.specs.Prelude.{⊤}
use Rattle.std.specs.List.{All}
use Rattle.irp_forms.specs.Found.{cancel_rule_found}
use Rattle.irp_forms.specs.Names.{cancel_rule_at, cancel_rule_name, cancel_rules}
use Rattle.irp_forms.specs.Parts.{has_keys, list_at}
use Rattle.irp_forms.specs.Values.{completions_at, first_counts_at, handler_at, known_at}
use Rattle.irp_types.specs.Limits.{last_major, most_dispatches}
use Rattle.irp_types.specs.Rules.{IsWithin}
use Rattle.irp_types.specs.State.{Entrance, IsDriver, Tables, most_known}
use Rattle.irp_types.specs.declared.{routine.CancelRule.CancelRule, routine.Known.Known}
use Rattle.irp_transcript.specs.Headers.{IsHeader, fixed_of, slots_of}
use Rattle.irp_transcript.specs.declared.{header.Form.Form, header.Header.Header}
use Rattle.irp_transcript.specs.declared.header.Form.TheVariants as form
use Rattle.irp_transcript_reader.specs.Lines.{header_at, header_form_at, header_keys_at}
use Rattle.irp_transcript_writer.specs.Json.{list}
use Rattle.irp_transcript_writer.specs.Lines.{cancel_rule_json, completions_json, driver_json, handler_json, header_json, known_json, line_of_form}
use Rattle.irp_fast_reader.proofs.Names.{found_plain}
use Rattle.irp_fast_reader.proofs.Numbers.{items_stand, list_back, u8_back, u32_back, wide}
use Rattle.irp_fast_reader.proofs.Stands.{Stands}

-- ---- the parts

rule_back : (kind : CancelRule) → cancel_rule_at (cancel_rule_json kind) ≡ Some kind
rule_back kind = cancel_rule_found kind

rule_stands : (levels : ℕ) (kind : CancelRule) → Stands (cancel_rule_json kind) levels
unfolding cancel_rules
rule_stands levels kind = found_plain cancel_rule_name cancel_rules kind refl (cancel_rule_found kind)

any_rule : (rules : List CancelRule) → All (λ (kind : CancelRule). ⊤) rules
any_rule rules k d within = tt

-- each count is small
pub record IsSmall (known : Known) : Type 0 where
  pub watch : known.watch < 2 ^ 32
  pub change : known.change < 2 ^ 32
  pub keeper : known.keeper < 2 ^ 32
  pub keep_on_error : known.keep_on_error < 2 ^ 32
  pub free : known.free < 2 ^ 32
  pub cancel : known.cancel < 2 ^ 32

small : (counts known : Known) → IsWithin counts most_known → IsWithin known counts → IsSmall known
small counts known few within = record {
  watch = omega (arith, few.watch, within.watch);
  change = omega (arith, few.change, within.change);
  keeper = omega (arith, few.keeper, within.keeper);
  keep_on_error = omega (arith, few.keep_on_error, within.keep_on_error);
  free = omega (arith, few.free, within.free);
  cancel = omega (arith, few.cancel, within.cancel);
}

itself : (counts : Known) → IsWithin counts counts
itself counts = record {
  watch = omega arith;
  change = omega arith;
  keeper = omega arith;
  keep_on_error = omega arith;
  free = omega arith;
  cancel = omega arith;
}

completions_back : (known : Known) → IsSmall known → completions_at (completions_json known) ≡ Some (record known { cancel = 0 })
unfolding completions_at first_counts_at
completions_back known h =
    rw (
      u32_back known.watch h.watch,
      u32_back known.change h.change,
      u32_back known.keeper h.keeper,
      u32_back known.keep_on_error h.keep_on_error,
      u32_back known.free h.free,
    )

known_back : (known : Known) → IsSmall known → known_at (known_json known) ≡ Some known
unfolding known_at first_counts_at
known_back known h =
    rw (
      u32_back known.watch h.watch,
      u32_back known.change h.change,
      u32_back known.keeper h.keeper,
      u32_back known.keep_on_error h.keep_on_error,
      u32_back known.free h.free,
      u32_back known.cancel h.cancel,
    )

known_stands : (levels : ℕ) (known : Known) → IsSmall known → Stands (known_json known) (suc levels)
known_stands levels known h = (
  omega (arith, h.watch),
  (
    omega (arith, h.change),
    (
      omega (arith, h.keeper),
      (
        omega (arith, h.keep_on_error),
        (
          omega (arith, h.free),
          (omega (arith, h.cancel), tt),
        ),
      ),
    ),
  ),
)

completions_stand : (levels : ℕ) (known : Known) → IsSmall known → Stands (completions_json known) (suc levels)
completions_stand levels known h =
    (omega (arith, h.watch), (omega (arith, h.change), (omega (arith, h.keeper), (omega (arith, h.keep_on_error), (omega (arith, h.free), tt)))))

-- a major function code and one of so many dispatches
abbrev pub IsHandler : Entrance → Type 0
IsHandler entrance = (entrance.0 ≤ last_major) × (entrance.1.0 < most_dispatches)

handler_back : (entrance : Entrance) → IsHandler entrance → handler_at (handler_json entrance) ≡ Some entrance
unfolding handler_at
handler_back entrance h = rw (u8_back entrance.0 (omega (arith, h.0)), u32_back entrance.1.0 (omega (arith, h.1)))

handler_stands : (levels : ℕ) (entrance : Entrance) → IsHandler entrance → Stands (handler_json entrance) (suc levels)
handler_stands levels entrance h = (omega (arith, h.0), (omega (arith, h.1), tt))

handlers : (tables : Tables) → length tables.dispatches ≤ most_dispatches → (driver : List Entrance) → IsDriver tables driver → All IsHandler driver
handlers tables few driver is k d within = (is.majors k d within, omega (arith, is.named k d within, few))

driver_back : (tables : Tables) → length tables.dispatches ≤ most_dispatches → (driver : List Entrance) → IsDriver tables driver
    → list_at handler_at (driver_json driver) ≡ Some driver
driver_back tables few driver is = list_back handler_json handler_at IsHandler handler_back driver (handlers tables few driver is)

driver_stands : (levels : ℕ) (tables : Tables) → length tables.dispatches ≤ most_dispatches → (driver : List Entrance) → IsDriver tables driver
    → Stands (driver_json driver) (suc (suc levels))
driver_stands levels tables few driver is =
    items_stand handler_json IsHandler (suc levels) (handler_stands levels) driver (handlers tables few driver is)

-- ---- the header

-- the header of this form, which counts its cancel routines
abbrev counted : Form → Header → Header
counted kind header = record header { form = kind; completions = record header.completions { cancel = length header.cancels } }

-- the lists of a header that is accepted
record ListsBack (header : Header) : Type 0 where
  cancels : list_at cancel_rule_at (list (map cancel_rule_json header.cancels)) ≡ Some header.cancels
  completions : completions_at (completions_json header.completions) ≡ Some (record header.completions { cancel = 0 })
  dispatches : list_at known_at (list (map known_json header.dispatches)) ≡ Some header.dispatches
  drivers : list_at (list_at handler_at) (list (map driver_json header.drivers)) ≡ Some header.drivers
  few : length header.cancels ≤ 256

lists_back : (header : Header) → IsHeader header → ListsBack header
lists_back header is =
    let tables = (fixed_of header).tables in
    let few = is.tables.few_routines in
    let dispatches = is.tables.few_dispatches in
    record {
      cancels = list_back cancel_rule_json cancel_rule_at (λ kind. ⊤) (λ kind h. rule_back kind) header.cancels (any_rule header.cancels);
      completions = completions_back header.completions (small header.completions header.completions few (itself header.completions));
      dispatches =
          list_back known_json known_at (λ known. IsWithin known header.completions)
          (λ known within. known_back known (small header.completions known few within)) header.dispatches is.tables.known;
      drivers = list_back driver_json (list_at handler_at) (IsDriver tables) (driver_back tables dispatches) header.drivers is.tables.drivers;
      few = omega (arith, is.tables.cancels, few.cancel);
    }

form_back : (kind : Form) (header : Header) → slots_of kind < 2 ^ 32 → header.locks < 2 ^ 32 → header.seats < 2 ^ 32 → ListsBack header
    → header_at (line_of_form kind header) ≡ Some (counted kind header)
unfolding header_at header_form_at header_keys_at has_keys
form_back form.One header slots_small locks_small seats_small lists =
    rw (
      u32_back 1 (omega arith),
      lists.completions,
      lists.cancels,
      le-leb (length header.cancels) 256 lists.few,
      lists.dispatches,
      lists.drivers,
      u32_back header.locks locks_small,
      u32_back header.seats seats_small,
    )
form_back (form.Two slots) header slots_small locks_small seats_small lists =
    rw (
      u32_back 2 (omega arith),
      u32_back slots slots_small,
      lists.completions,
      lists.cancels,
      le-leb (length header.cancels) 256 lists.few,
      lists.dispatches,
      lists.drivers,
      u32_back header.locks locks_small,
      u32_back header.seats seats_small,
    )

-- a header that the formats accept
pub header_back : (header : Header) → IsHeader header → header_at (header_json header) ≡ Some header
header_back header is =
    form_back header.form header (omega (arith, is.few_slots)) (omega (arith, is.few_locks)) (omega (arith, is.few_seats)) (lists_back header is)
    ∙ ap (λ (count : ℕ). Some (record header { completions = record header.completions { cancel = count } })) (sym is.tables.cancels)

-- the parts of a header that is accepted stand, in either form
record PartsStand (levels : ℕ) (header : Header) : Type 0 where
  cancels : Stands (list (map cancel_rule_json header.cancels)) levels
  completions : Stands (completions_json header.completions) levels
  dispatches : Stands (list (map known_json header.dispatches)) levels
  drivers : Stands (list (map driver_json header.drivers)) levels
  locks : header.locks < 2 ^ 64
  seats : header.seats < 2 ^ 64

parts_stand : (levels : ℕ) (header : Header) → IsHeader header → PartsStand (suc (suc (suc levels))) header
parts_stand levels header is =
    let few = is.tables.few_routines in
    let rules = any_rule header.cancels in
    let drivers = driver_stands levels (fixed_of header).tables is.tables.few_dispatches in
    record {
      cancels =
          items_stand cancel_rule_json (λ kind. ⊤) (suc (suc levels))
          (λ kind h. rule_stands (suc (suc levels)) kind) header.cancels rules;
      completions =
          completions_stand (suc (suc levels)) header.completions
          (small header.completions header.completions few (itself header.completions));
      dispatches =
          items_stand known_json (λ known. IsWithin known header.completions) (suc (suc levels))
          (λ known within. known_stands (suc levels) known (small header.completions known few within))
          header.dispatches is.tables.known;
      drivers =
          items_stand driver_json (IsDriver (fixed_of header).tables) (suc (suc levels)) drivers
          header.drivers is.tables.drivers;
      locks = omega (arith, is.few_locks);
      seats = omega (arith, is.few_seats);
    }

form_stands : (levels : ℕ) (kind : Form) (header : Header) → slots_of kind < 2 ^ 32 → IsHeader header
    → Stands (line_of_form kind header) (suc (suc (suc (suc levels))))
form_stands levels form.One header slots_small is =
    let parts = parts_stand levels header is in (refl, refl, (parts.cancels, (parts.completions, (parts.dispatches, (parts.drivers, (omega arith, (parts.locks, (parts.seats, tt))))))))
form_stands levels (form.Two slots) header slots_small is =
    let parts = parts_stand levels header is in (refl, refl, (parts.cancels, (parts.completions, (parts.dispatches, (parts.drivers, (omega arith, (parts.locks, (parts.seats, (wide slots slots_small, tt)))))))))

pub header_stands : (levels : ℕ) (header : Header) → IsHeader header → Stands (header_json header) (suc (suc (suc (suc levels))))
header_stands levels header is = form_stands levels header.form header (omega (arith, is.few_slots)) is
