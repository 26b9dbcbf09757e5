-- Which lines stand for which entries.
use Rattle.std.specs.Prelude.{ℕ, Bool, ◌≡◌, ◌+◌, List, [], ◌++◌, codes, Option, if◌then◌else◌}
use Rattle.std.specs.List.{flat_map, repeat}
use Rattle.irp_types.specs.Questions.{shown_of}
use Rattle.irp_types.specs.declared.asked.Asked.{Asked}
use Rattle.irp_types.specs.declared.entry.Entry.{Entry}
use Rattle.irp_types.specs.declared.names.DeviceId.{DeviceId}
use Rattle.irp_types.specs.declared.names.IrpRef.{IrpRef}
use Rattle.irp_names.specs.Closures.{answered_text}
use Rattle.irp_listing.specs.Heads.{head_text, moves}
use Rattle.irp_listing.specs.Lines.{head_of, further_of}
use Rattle.irp_listing.specs.Outcomes.{outcome_of, outcome_text}
use Rattle.irp_listing.specs.Questions.{question_text}
use Rattle.irp_listing.specs.Stacks.{depth_of, is_left_out, just_above, lost_by}

-- a further line, behind so many steps of two spaces
abbrev pub indented : ℕ → List ℕ → List ℕ
indented steps words = further_of (repeat steps (codes "  ") ++ words)

-- the two lines of a question: what was asked, and two steps further in what was answered
abbrev pub question_lines : (DeviceId → Option DeviceId) → Asked → List ℕ
question_lines above question =
    let depth = depth_of above (shown_of question).device in
    indented depth (question_text question) ++ indented (depth + 2) (answered_text question)

-- the line that tells where the packet is, behind a call that moved it
abbrev pub outcome_line : Entry → List ℕ
outcome_line entry =
    if moves entry entry.reply
    then indented 1 (outcome_text (outcome_of entry.call entry.asked) entry.call entry.reply)
    else []

-- the block of an entry: a line with its number, the call and the reply, and perhaps the seat; two lines for each
-- question, in order; and the line that tells where the packet is
abbrev pub block_with : Bool → Bool → (DeviceId → Option DeviceId) → Entry → List ℕ
block_with tells_seat left_out above entry =
    head_of entry.number (head_text tells_seat left_out entry)
    ++ (flat_map (question_lines above) entry.asked ++ outcome_line entry)

-- the same, where these are the packets that devices lost
abbrev pub block_of : Bool → (DeviceId → Option IrpRef) → (DeviceId → Option DeviceId) → Entry → List ℕ
block_of tells_seat lost above entry = block_with tells_seat (is_left_out lost entry) above entry

-- the block of the last of the entries so far, where seats are told or not
abbrev pub block_after : Bool → List Entry → Entry → List ℕ
block_after tells_seat so_far entry = block_of tells_seat (lost_by so_far) (just_above so_far) entry

-- a text is the block of an entry, where seats are told or not, for packets that devices lost, and for some device just
-- above each
pub record IsBlock (entry : Entry) (block : List ℕ) : Type 0 where
  pub tells_seat : Bool
  pub lost : DeviceId → Option IrpRef
  pub above : DeviceId → Option DeviceId
  pub whole : block ≡ block_of tells_seat lost above entry
