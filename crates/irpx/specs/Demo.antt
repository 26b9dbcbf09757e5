-- What the demonstration writes.
use Rattle.std.specs.Prelude.{ℕ, ◌≡◌, ◌⊎◌, List, [], ◌∷◌, map, Result, Ok, Err, Some}
use Rattle.irp_types.specs.Histories.{IsLegal}
use Rattle.irp_types.specs.declared.entry.Entry.{Entry}
use Rattle.irp_types.specs.Calls.{Call}
use Rattle.irp_types.specs.declared.call.Call.TheVariants.{
  CreateDevice,
  Allocate,
  SetNext,
  CallDriver,
}
use Rattle.irp_types.specs.declared.call.Party.TheVariants.{Originator}
use Rattle.irp_types.specs.declared.names.IrpRef.{IrpRef}
use Rattle.irp_types.specs.declared.reply.Reply.{Reply}
use Rattle.irp_types.specs.declared.reply.Reply.TheVariants.{Device, Irp, Done, Status as StatusIs}
use Rattle.irp_types.specs.Status.{success}
use Rattle.irp_types.specs.declared.names.DeviceId.{DeviceId}
use Rattle.irp_transcript.specs.Headers.{fixed_of, IsHeader}
use Rattle.irp_transcript.specs.Transcripts.{TranscriptValue}
use Rattle.irp_transcript.specs.declared.header.Header.{Header}
use Rattle.irp_streams.specs.Streams.{IsQuiet, Output}
use Rattle.irpx.specs.Writing.{Prints, StopsShort}
use Rattle.irpx.specs.declared.not_done.NotDone.{NotDone}
use Rattle.irpx.specs.declared.not_done.NotDone.TheVariants.{NoMemory}
use Rattle.irpx.specs.declared.not_done.Phase.TheVariants.{Running}

-- the calls of a history, in order, each with the seat that made it and with its reply
abbrev pub calls_of : List Entry → List (ℕ × Call × Reply)
calls_of history = map (λ (entry : Entry). (entry.seat, entry.call, entry.reply)) history

-- the calls of the demonstration, all of seat 0: a device of driver 0 under lock 0 and a packet of one location are
-- made; this packet is filled with a read with word 7, and is sent to this device, and comes back with success
abbrev pub AreDemoCalls : List (ℕ × Call × Reply) → Type 0
AreDemoCalls calls =
    (target : DeviceId) × (irp : IrpRef)
    × (calls ≡ (0, CreateDevice (record { 0 = 0 }) (record { 0 = 0 }), Device target) ∷ (0, Allocate 1, Irp irp)
    ∷ (0, SetNext Originator irp 0x03 7, Done) ∷ (0, CallDriver Originator irp target, StatusIs success) ∷ [])

-- the transcript of a legal history with the calls of the demonstration, under a header that the formats accept
pub record IsDemoTranscript (transcript : TranscriptValue) : Type 0 where
  pub header : Header
  pub told : transcript.header ≡ Some header
  pub no_words : transcript.words ≡ []
  pub fits : IsHeader header
  pub legal : IsLegal (fixed_of header) transcript.entries
  pub calls : AreDemoCalls (calls_of transcript.entries)

-- what the demonstration leaves: the text of such a transcript went out, and nothing failed; or memory ran out, and
-- nothing went out; or the writing broke off
abbrev pub AfterDemo : {T : Type 0} → Output → Output → Result T NotDone → Type 0
AfterDemo before after (Ok done) =
    (transcript : TranscriptValue) × IsDemoTranscript transcript
    × Prints transcript before after
AfterDemo before after (Err fault) =
    ((fault ≡ NoMemory Running) × IsQuiet before after)
    ⊎ ((transcript : TranscriptValue) × IsDemoTranscript transcript
    × StopsShort transcript before after fault)
