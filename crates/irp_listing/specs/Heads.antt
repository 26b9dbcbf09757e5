-- The first line of an entry's block, in words.
use Rattle.std.specs.Prelude.{ℕ, Bool, true, false, is_some, not, List, [], ◌++◌, codes, length, ◌==◌, if◌then◌else◌}
use Rattle.std.specs.Fmt.{decimal}
use Rattle.std.specs.Option.{option_map_or}
use Rattle.irp_types.specs.Calls.{Call, packet_completed, party_named}
use Rattle.irp_types.specs.declared.asked.Asked.{Asked}
use Rattle.irp_types.specs.declared.call.Call.TheVariants.{CallDriver, Cancel}
use Rattle.irp_types.specs.declared.call.Party.{Party}
use Rattle.irp_types.specs.declared.entry.Entry.{Entry}
use Rattle.irp_types.specs.declared.refusal.Refusal.{Refusal}
use Rattle.irp_types.specs.declared.reply.Reply.{Reply}
use Rattle.irp_types.specs.declared.reply.Reply.TheVariants.{Done, Refused}
use Rattle.irp_names.specs.Calls.{call_text}
use Rattle.irp_names.specs.Refusals.{refusal_meaning, refusal_name, refusal_text}
use Rattle.irp_names.specs.Replies.{reply_text}
use Rattle.irp_names.specs.Small.{party_text}

-- a call behind the party that makes it, where it names one
abbrev pub caller_text : Call → Bool → List ℕ
caller_text call drained =
    option_map_or (λ (party : Party). party_text party ++ (codes ": " ++ call_text call drained)) (party_named call)
    (call_text call drained)

-- the call sends or completes its packet; a Cancel does where it asked somebody
abbrev pub sends : Call → List Asked → Bool
sends (CallDriver party irp target) asked = true
sends (Cancel irp) asked = not (length asked == 0)
sends call asked = is_some (packet_completed call)

-- it moved its packet
abbrev pub moves : Entry → Reply → Bool
moves entry (Refused refusal) = false
moves entry other = sends entry.call entry.asked

-- where an outcome is told below, the reply is told there
abbrev pub unless_sent : Entry → List ℕ
unless_sent entry = if sends entry.call entry.asked then [] else codes " -> " ++ reply_text entry.call entry.reply

-- a refusal: of a completion that a right driver leaves out, and of any other call
abbrev pub refused_text : Bool → Call → Refusal → List ℕ
refused_text true call refusal =
    refusal_name refusal ++ (codes ", " ++ (refusal_meaning refusal
    ++ codes " (a right driver makes no such call: its cancel routine was gone)"))
refused_text false call refusal = refusal_text call refusal

-- what stands behind the call: nothing where it is done; each refusal; other replies unless an outcome is told
abbrev pub answer_text : Bool → Entry → Reply → List ℕ
answer_text is_left_out entry Done = []
answer_text is_left_out entry (Refused refusal) = codes " -> refused: " ++ refused_text is_left_out entry.call refusal
answer_text is_left_out entry other = unless_sent entry

-- the seat, where it is told
abbrev pub seat_text : Bool → ℕ → List ℕ
seat_text true seat = codes "seat " ++ (decimal seat ++ codes "  ")
seat_text false seat = []

-- the whole line
abbrev pub head_text : Bool → Bool → Entry → List ℕ
head_text tells_seat is_left_out entry =
    seat_text tells_seat entry.seat ++ (caller_text entry.call entry.drained
    ++ answer_text is_left_out entry entry.reply)
