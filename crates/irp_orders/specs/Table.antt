-- The table of outcomes.
use Rattle.std.specs.Prelude.{ℕ, ◌≡◌, ◌+◌, ◌*◌, ◌/◌, ◌%◌, ◌^◌, ◌==◌, ◌&&◌, nat_lt, Bool, not, List, [], ◌∷◌, ◌++◌, codes, Option, if◌then◌else◌, length, map, slice_get, String, string_bytes}
use Rattle.std.specs.Fmt.{decimal}
use Rattle.std.specs.List.{enumerate_from, flat_map, list_any}
use Rattle.std.specs.Option.{option_map_or}
use Rattle.irp_types.specs.declared.names.IrpRef.{IrpRef}
use Rattle.irp_names.specs.Sinks.{Says}
use Rattle.irp_names.specs.Small.{told_if}
use Rattle.irp_machine.specs.Answering.{IsToldOf}
use Rattle.irp_machine.specs.declared.live_end.DeviceEnd.{DeviceEnd}
use Rattle.irp_machine.specs.declared.live_end.LiveEnd.{LiveEnd}
use Rattle.irp_machine.specs.declared.outcome.End.{End}
use Rattle.irp_machine.specs.declared.outcome.LockEnd.{LockEnd}
use Rattle.irp_machine.specs.declared.outcome.SlotEnd.{SlotEnd}
use Rattle.irp_plain.specs.declared.answered.Told.{Told}
use Rattle.irp_script_reader.specs.declared.script.ScriptParts.{ScriptParts}
use Rattle.irp_orders.specs.Counts.{orders_text}
use Rattle.irp_orders.specs.Ends.{dead_label_line, device_line, lock_line, packet_lines, slot_line}
use Rattle.irp_orders.specs.Facts.{names}
use Rattle.irp_orders.specs.Lines.{differing_lines, line, tells_device, tells_label, tells_lock, tells_slot}
use Rattle.irp_orders.specs.Rows.{all_orders}
use Rattle.irp_orders.specs.declared.columns.Columns.{Columns}
use Rattle.irp_orders.specs.declared.found.Found.{Found}

-- what the table of these outcomes of a script tells
pub record AreColumnsOf (script : ScriptParts) (founds : List Found) (columns : Columns) : Type 0 where
  pub script_is : columns.script.now ≡ script
  pub labels : map string_bytes columns.labels.now ≡ script.labels
  pub orders : columns.orders ≡ all_orders 0 founds

-- ---- heads

-- tenths of a percent
abbrev pub tenths_text : ℕ → List ℕ
tenths_text tenths =
    codes " (" ++ (decimal (tenths / 10) ++ (codes "." ++ (decimal (tenths % 10) ++ codes " %)")))

-- a part of a whole, in tenths of a percent; nothing where the numbers are too large for that
abbrev pub share_text : ℕ → ℕ → List ℕ
share_text part whole =
    if whole == 0 then []
    else told_if (nat_lt (part * 1000) (2 ^ 128)) (tenths_text (part * 1000 / whole))

-- how many outcomes are alike
abbrev pub alike_text : ℕ → List ℕ
alike_text joined = codes ", " ++ (decimal joined ++ codes " outcomes alike")

-- how many outcomes were joined in a row, where there are several
abbrev pub joined_text : ℕ → List ℕ
joined_text joined = told_if (nat_lt 1 joined) (alike_text joined)

-- the first line of an outcome, which has this number: how many of so many orders lead to it
abbrev pub head_line : ℕ → ℕ → Found → List ℕ
head_line whole number found =
    line (codes "outcome " ++ (decimal number ++ (codes ": " ++ (decimal found.orders ++ (codes " of "
    ++ (orders_text whole ++ (share_text found.orders whole ++ joined_text found.joined)))))))

-- the first line of the table
abbrev pub table_head : ℕ → ℕ → List ℕ
table_head outcomes orders =
    line (codes "outcomes: " ++ (decimal outcomes ++ (codes ", of " ++ orders_text orders)))

-- ---- what an outcome leaves

abbrev pub is_live : List LiveEnd → IrpRef → Bool
is_live packets irp = list_any (names irp) packets

-- a label that is told and names no live packet, by what it stands for
abbrev pub label_line : {Z : Type 0} → Columns → End → ℕ × String Z → List ℕ
label_line columns end row =
    option_map_or
    (λ (irp : IrpRef). told_if (tells_label columns row.0 && not (is_live end.packets irp)) (dead_label_line (string_bytes row.1) irp))
    (slice_get end.labels row.0) []

abbrev pub told_device_line : Columns → ℕ × DeviceEnd → List ℕ
told_device_line columns row = told_if (tells_device columns row.0) (device_line columns.tells_drivers row.0 row.1)

abbrev pub told_lock_line : Columns → ℕ × LockEnd → List ℕ
told_lock_line columns row = told_if (tells_lock columns row.0) (lock_line row.0 row.1)

abbrev pub told_slot_line : Columns → ℕ × SlotEnd → List ℕ
told_slot_line columns row = told_if (tells_slot columns row.0) (slot_line row.0 row.1)

-- what an outcome leaves: each live packet, and of labels, devices, remove locks and cancel slots those that are told
abbrev pub end_lines : Columns → End → List ℕ
end_lines columns end =
    flat_map (packet_lines columns.facts columns.labels.now end.labels) end.packets
    ++ (flat_map (label_line columns end) (enumerate_from 0 columns.labels.now)
    ++ (flat_map (told_device_line columns) (enumerate_from 0 end.devices)
    ++ (flat_map (told_lock_line columns) (enumerate_from 0 end.locks)
    ++ flat_map (told_slot_line columns) (enumerate_from 0 end.slots))))

-- ---- rows

-- the lines of an outcome, which has this number: its head, the steps whose answers differ between outcomes, each with its
-- own answer, and what it leaves
abbrev pub row_lines : Columns → ℕ → Found → List Told → List ℕ
row_lines columns number row told =
    head_line columns.orders number row ++ (differing_lines columns told ++ end_lines columns row.outcome.end)

-- a text is the lines of an outcome along the order that leads to it
abbrev pub IsRowText : Columns → ℕ → Found → List ℕ → Type 0
IsRowText columns number row text =
    (told : List Told) × IsToldOf columns.script.now row.outcome.path.items told
    × (text ≡ row_lines columns number row told)

-- the lines of an outcome were put
abbrev pub PutsRow : Columns → ℕ → Found → Option (List ℕ) → Option (List ℕ) → Type 0
PutsRow columns number row before after =
    (text : List ℕ) × IsRowText columns number row text × Says text before after

-- a text is the lines of these outcomes, one after another, of which the first has this number
abbrev pub AreRowTexts : Columns → ℕ → List Found → List ℕ → Type 0
AreRowTexts columns number [] text = text ≡ []
AreRowTexts columns number (row ∷ rows) text =
    (first : List ℕ) × (rest : List ℕ) × IsRowText columns number row first
    × AreRowTexts columns (number + 1) rows rest × (text ≡ first ++ rest)

-- a text is the table of these outcomes
abbrev pub IsTable : Columns → List Found → List ℕ → Type 0
IsTable columns rows text =
    (rest : List ℕ) × AreRowTexts columns 1 rows rest
    × (text ≡ table_head (length rows) columns.orders ++ rest)
