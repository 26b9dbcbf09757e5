-- The lines of what isn't right of an outcome.
use Rattle.std.specs.Prelude.{ℕ, ◌==◌, nat_le, List, [], ◌++◌, codes, Option, Some, None, if◌then◌else◌, is_some, slice_get, String, string_bytes}
use Rattle.std.specs.Fmt.{decimal}
use Rattle.std.specs.List.{enumerate_from, flat_map, position}
use Rattle.std.specs.Option.{option_and_then, option_map_or}
use Rattle.irp_types.specs.declared.entry.Entry.{Entry}
use Rattle.irp_types.specs.declared.location.Owner.{Owner}
use Rattle.irp_types.specs.declared.location.Owner.TheVariants as owner
use Rattle.irp_types.specs.declared.names.IrpRef.{IrpRef}
use Rattle.irp_names.specs.Refusals.{refusal_name}
use Rattle.irp_names.specs.Small.{packet_text, told_if}
use Rattle.irp_condition.specs.Holding.{told_value}
use Rattle.irp_condition.specs.Writing.{word_of_answer}
use Rattle.irp_condition.specs.declared.value.Value.{Value}
use Rattle.irp_condition.specs.declared.value.Value.TheVariants as value
use Rattle.irp_machine.specs.declared.live_end.LiveEnd.{LiveEnd}
use Rattle.irp_machine.specs.declared.outcome.End.{End}
use Rattle.irp_machine.specs.declared.outcome.LockEnd.{LockEnd}
use Rattle.irp_machine.specs.declared.outcome.SlotEnd.{SlotEnd}
use Rattle.irp_plain.specs.declared.answered.Answered.{Answered}
use Rattle.irp_plain.specs.declared.answered.Answered.TheVariants.{Reply}
use Rattle.irp_orders.specs.Ends.{holders_text, reference_of}
use Rattle.irp_orders.specs.Facts.{names, seen_of}
use Rattle.irp_orders.specs.Lines.{line}
use Rattle.irp_orders.specs.Right.{is_refused, is_refused_reply}
use Rattle.irp_orders.specs.declared.found.Found.{Found}

-- ---- steps that were refused

-- a refusal by its name
abbrev pub reason_name : Value → List ℕ
reason_name (value.Refused refusal) = refusal_name refusal
reason_name (value.Answer answer) = word_of_answer answer
reason_name other = []

abbrev pub reason_of : Answered → List ℕ
reason_of answer = reason_name (told_value (seen_of answer))

-- the line of a step that was refused
abbrev pub refusal_line : ℕ → List ℕ → Answered → List ℕ
refusal_line place of answer =
    line (codes "wrong: step " ++ (decimal place ++ (of ++ (codes " was refused: " ++ reason_of answer))))

-- a step of setup, if it was refused
abbrev pub untaken_line : ℕ × Entry → List ℕ
untaken_line row =
    told_if (is_refused_reply row.1.reply) (refusal_line row.0 (codes " of setup") (Reply row.1.reply))

abbrev pub refused_answer_line : ℕ → Answered → List ℕ
refused_answer_line place answer = told_if (is_refused answer) (refusal_line place [] answer)

-- a step, if it was refused
abbrev pub refused_line : ℕ × Option Answered → List ℕ
refused_line row = option_map_or (refused_answer_line row.0) row.1 []

-- ---- packets, remove locks and cancel slots

-- the place of the first of these references that names a live packet
abbrev pub place_of : List IrpRef → LiveEnd → Option ℕ
place_of named live = position (λ (irp : IrpRef). names irp live) named

-- the first of these labels that names a live packet, where they stand for these references
abbrev pub label_of : {Z : Type 0} → List (String Z) → List IrpRef → LiveEnd → Option (String Z)
label_of labels named live = option_and_then (slice_get labels) (place_of named live)

-- a live packet by its first label, else by its use
abbrev pub packet_name : {Z : Type 0} → List (String Z) → List IrpRef → LiveEnd → List ℕ
packet_name labels named live =
    option_map_or string_bytes (label_of labels named live) (packet_text (reference_of live))

-- the line of a packet that this owner has, if it is a device
abbrev pub kept_by_line : List ℕ → Owner → List ℕ
kept_by_line name (owner.Device device) =
    line (codes "wrong: D" ++ (decimal device.0 ++ (codes " has " ++ name)))
kept_by_line name other = []

abbrev pub kept_line : {Z : Type 0} → List (String Z) → List IrpRef → LiveEnd → List ℕ
kept_line labels named live = kept_by_line (packet_name labels named live) live.owner

-- the line of a remove lock that somebody holds
abbrev pub held_by_line : ℕ → LockEnd → List ℕ
held_by_line number lock =
    line (codes "wrong: remove lock " ++ (decimal number ++ (codes " is held" ++ holders_text (codes ", by seat ") lock)))

-- a remove lock, if somebody holds it
abbrev pub held_line : ℕ × LockEnd → List ℕ
held_line row = if nat_le row.1.word 1 then [] else held_by_line row.0 row.1

-- the line of a cancel slot in which this use stands
abbrev pub content_line : ℕ → ℕ → List ℕ
content_line number content =
    codes "wrong: cancel slot " ++ (decimal number ++ (codes " is full: use " ++ (decimal content
    ++ codes " stands in it\n")))

-- a cancel slot, if a use stands in it
abbrev pub full_line : ℕ × SlotEnd → List ℕ
full_line row = if row.1.content == 0 then [] else content_line row.0 row.1.content

-- the line of a packet, if it still has a cancel routine
abbrev pub left_line : {Z : Type 0} → List (String Z) → List IrpRef → LiveEnd → List ℕ
left_line labels named live =
    told_if (is_some live.cancel_routine)
    (line (codes "wrong: " ++ (packet_name labels named live ++ codes " still has a cancel routine")))

-- ---- an outcome

-- a line for each thing that isn't right of an outcome, behind this setup: the steps that were refused, the packets that
-- devices have, the remove locks that are held, the cancel slots that are full, the packets with cancel routines
abbrev pub wrong_lines : {Z : Type 0} → List (String Z) → List Entry → Found → List ℕ
wrong_lines labels setup found =
    let end = found.outcome.end in
    flat_map untaken_line (enumerate_from 0 setup)
    ++ (flat_map refused_line (enumerate_from 0 found.answers.items)
    ++ (flat_map (kept_line labels end.labels) end.packets
    ++ (flat_map held_line (enumerate_from 0 end.locks)
    ++ (flat_map full_line (enumerate_from 0 end.slots)
    ++ flat_map (left_line labels end.labels) end.packets))))
