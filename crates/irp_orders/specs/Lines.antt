-- The lines of steps and of what they were answered.
use Rattle.std.specs.Prelude.{ℕ, Bool, false, List, [], ◌++◌, codes, Option, Some, None, slice_get, string_bytes, String}
use Rattle.std.specs.Fmt.{decimal}
use Rattle.std.specs.List.{flat_map}
use Rattle.std.specs.Option.{option_map_or}
use Rattle.irp_types.specs.Calls.{Call, call_with, packet_named, party_named}
use Rattle.irp_types.specs.declared.call.Call.{Call as CallOf}
use Rattle.irp_types.specs.declared.call.Call.TheVariants as call
use Rattle.irp_types.specs.declared.call.Party.{Party}
use Rattle.irp_types.specs.declared.names.DeviceId.{DeviceId}
use Rattle.irp_types.specs.declared.reply.Reply.{Reply}
use Rattle.irp_transcript.specs.declared.word_line.WordLine.{WordLine}
use Rattle.irp_names.specs.Calls.{call_name}
use Rattle.irp_names.specs.Replies.{reply_text}
use Rattle.irp_names.specs.Sinks.{Says}
use Rattle.irp_names.specs.Small.{packet_text, party_text, told_if}
use Rattle.irp_listing.specs.WordLines.{word_line_text}
use Rattle.irp_machine.specs.Answering.{IsToldOf}
use Rattle.irp_machine.specs.Replays.{line_of}
use Rattle.irp_plain.specs.declared.answered.Answered.{Answered}
use Rattle.irp_plain.specs.declared.answered.Answered.TheVariants.{Reply as Replied, Word}
use Rattle.irp_plain.specs.declared.answered.Told.{Told}
use Rattle.irp_script_reader.specs.declared.act.Named.{Named}
use Rattle.irp_script_reader.specs.declared.act.Named.TheVariants as named
use Rattle.irp_script_reader.specs.declared.act.Step.{Step}
use Rattle.irp_script_reader.specs.declared.act.StepAct.{StepAct}
use Rattle.irp_script_reader.specs.declared.act.StepAct.TheVariants as does
use Rattle.irp_orders.specs.declared.columns.Columns.{Columns}
use Rattle.irp_orders.specs.declared.columns.Mark.{Mark}

-- words as a line
abbrev pub line : List ℕ → List ℕ
line words = words ++ codes "\n"

-- a packet as a step names it: by its label, or by its reference
abbrev pub label_text : {Z : Type 0} → ℕ → Option (String Z) → List ℕ
label_text place None = codes "label " ++ decimal place
label_text place (Some label) = string_bytes label

abbrev pub named_text : {Z : Type 0} → List (String Z) → Named → List ℕ
named_text labels (named.Irp irp) = packet_text irp
named_text labels (named.Label place) = label_text place (slice_get labels place)

-- the device that a call names first, beside its caller
abbrev pub device_named : Call → Option DeviceId
device_named (call.CallDriver party irp target) = Some target
device_named (call.Delete device) = Some device
device_named (call.Attach device to) = Some device
device_named (call.Detach lower) = Some lower
device_named other = None

-- the device and the packet that a call names
abbrev pub arguments_text : {Z : Type 0} → List (String Z) → Option DeviceId → Option Named → List ℕ
arguments_text labels None None = []
arguments_text labels (Some device) None = codes "(D" ++ (decimal device.0 ++ codes ")")
arguments_text labels None (Some packet) = codes "(" ++ (named_text labels packet ++ codes ")")
arguments_text labels (Some device) (Some packet) =
    codes "(D" ++ (decimal device.0 ++ (codes ", " ++ (named_text labels packet ++ codes ")")))

-- who makes a call, where the call names a party
abbrev pub caller_text : Option Party → List ℕ
caller_text None = []
caller_text (Some party) = party_text party ++ codes ": "

-- a call of a script, whose packet and token have no number yet, with these in their place
abbrev pub numbered : CallOf Named ℕ → Call
numbered call = call_with call (record { slot = 0; use_no = 0 }) 0

-- a call of a step, and its reply
abbrev pub call_text : {Z : Type 0} → List (String Z) → CallOf Named ℕ → Reply → List ℕ
call_text labels call reply =
    caller_text (party_named (numbered call)) ++ (call_name (numbered call)
    ++ (arguments_text labels (device_named (numbered call)) (packet_named call)
    ++ (codes " -> " ++ reply_text (numbered call) reply)))

-- the allocation of a packet under a label, and its reply
abbrev pub allocation_text : {Z : Type 0} → List (String Z) → ℕ → ℕ → Reply → List ℕ
allocation_text labels size label reply =
    codes "IoAllocateIrp as " ++ (named_text labels (named.Label label)
    ++ (codes " -> " ++ reply_text (call.Allocate size) reply))

-- an act that the manager answered
abbrev pub act_text : {Z : Type 0} → List (String Z) → StepAct → Reply → List ℕ
act_text labels (does.Call call) reply = call_text labels call reply
act_text labels (does.Allocate size label) reply = allocation_text labels size label reply
act_text labels other reply = []

-- the line of a step that the manager answered
abbrev pub reply_line : {Z : Type 0} → List (String Z) → ℕ → Step → Reply → List ℕ
reply_line labels place step reply =
    line (codes "    step " ++ (decimal place ++ (codes "  seat " ++ (decimal step.seat
    ++ (codes ": " ++ act_text labels step.act reply)))))

-- the line of a step that a remove lock or a cancel slot answered
abbrev pub word_line : Option WordLine → List ℕ
word_line None = []
word_line (Some one) = line (codes "    " ++ word_line_text one)

-- the line of a step, by who answered it
abbrev pub answered_line : {Z : Type 0} → List (String Z) → List Step → Step → Told → Answered → List ℕ
answered_line labels steps step told (Replied reply) = reply_line labels told.step step reply
answered_line labels steps step told (Word reply) = word_line (line_of steps step.seat told)

-- the line of what a seat was told: the step of that place, and its own answer
abbrev pub told_line : {Z : Type 0} → List (String Z) → List Step → Told → List ℕ
told_line labels steps told =
    option_map_or (λ (step : Step). answered_line labels steps step told told.answer) (slice_get steps told.step) []

-- a line for each, in their order
abbrev pub told_lines : {Z : Type 0} → List (String Z) → List Step → List Told → List ℕ
told_lines labels steps told = flat_map (told_line labels steps) told

-- ---- along an order

-- the step at a place has answers that differ between outcomes
abbrev pub tells_step : Columns → ℕ → Bool
tells_step columns place = option_map_or (λ (mark : Mark). mark.step) (slice_get columns.marks.items place) false

-- a label stands for other packets in other outcomes; others leave a device otherwise; some order leaves a remove lock with
-- a word other than 0, or a cancel slot otherwise than empty and not asked for
abbrev pub tells_label : Columns → ℕ → Bool
tells_label columns place = option_map_or (λ (mark : Mark). mark.label) (slice_get columns.marks.items place) false

abbrev pub tells_device : Columns → ℕ → Bool
tells_device columns number = option_map_or (λ (mark : Mark). mark.device) (slice_get columns.marks.items number) false

abbrev pub tells_lock : Columns → ℕ → Bool
tells_lock columns number = option_map_or (λ (mark : Mark). mark.lock) (slice_get columns.marks.items number) false

abbrev pub tells_slot : Columns → ℕ → Bool
tells_slot columns number = option_map_or (λ (mark : Mark). mark.slot) (slice_get columns.marks.items number) false

-- the line of what a seat was told, where the answers of this step differ between outcomes
abbrev pub differing_line : Columns → Told → List ℕ
differing_line columns told =
    told_if (tells_step columns told.step) (told_line columns.labels.now columns.script.now.steps told)

abbrev pub differing_lines : Columns → List Told → List ℕ
differing_lines columns told = flat_map (differing_line columns) told

-- the lines of each step that is answered along a path of seats were put, each with its own answer, in the order of the
-- answers
abbrev pub PutsInOrder : Columns → List ℕ → Option (List ℕ) → Option (List ℕ) → Type 0
PutsInOrder columns path before after =
    (told : List Told) × IsToldOf columns.script.now path told
    × Says (told_lines columns.labels.now columns.script.now.steps told) before after

-- the same of those steps whose answers differ between outcomes
abbrev pub PutsDiffering : Columns → List ℕ → Option (List ℕ) → Option (List ℕ) → Type 0
PutsDiffering columns path before after =
    (told : List Told) × IsToldOf columns.script.now path told × Says (differing_lines columns told) before after
