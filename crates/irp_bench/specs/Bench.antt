-- What becomes of callers, of the owners of slots, and of transcripts.
use Rattle.std.specs.Prelude.{ℕ, ◌≡◌, ◌+◌, zero, suc, List, [], ◌∷◌, ◌++◌, map, length, Ok}
use Rattle.irp_types.specs.Status.{success, pending}
use Rattle.irp_types.specs.declared.names.IrpRef.{IrpRef}
use Rattle.irp_types.specs.declared.refusal.Refusal.{Refusal}
use Rattle.irp_types.specs.Calls.{Call}
use Rattle.irp_types.specs.declared.call.Call.TheVariants.{Allocate, CallDriver, Complete, Free}
use Rattle.irp_types.specs.declared.call.Party.TheVariants.{Originator}
use Rattle.irp_types.specs.declared.reply.Reply.{Reply}
use Rattle.irp_types.specs.declared.reply.Reply.TheVariants.{Done, Irp, Status as StatusIs, Refused}
use Rattle.irp_types.specs.declared.entry.Entry.{Entry}
use Rattle.irp_manager.specs.Seats.{Seated}
use Rattle.irp_bench.specs.declared.calls.Work.{Work}
use Rattle.irp_bench.specs.declared.calls.Work.TheVariants.{Rounds, Unused, Sends}
use Rattle.irp_slots.specs.Models.{Publisher, Asker}
use Rattle.irp_judge.specs.Checked.{IsVerdictOn}
use Rattle.irp_judge.specs.declared.verdict.Verdict.TheVariants.{Legal}
use Rattle.irp_transcript.specs.Transcripts.{no_lines}
use Rattle.irp_transcript_reader.specs.Reading.{ReadsFrom, cut}
use Rattle.irp_transcript_writer.specs.Lines.{lines, text_of}
use Rattle.irp_bench.specs.declared.texts.Made.{Made}
use Rattle.irp_bench.specs.declared.texts.Made.TheVariants.{Text, Transcript, Verdict, Count}
use Rattle.irp_bench.specs.declared.texts.Sample.{Sample}
use Rattle.irp_bench.specs.declared.texts.Task.{Task}
use Rattle.irp_bench.specs.declared.texts.Task.TheVariants.{Write, WriteValues, Read, ReadValues, Judge, Blocks}

-- what a call with its reply makes of a caller
abbrev pub Making : Type 0 → Type 1
Making C = C → Call → Reply → C → Type 0

-- a call was refused
abbrev pub MakesRefused : {C : Type 0} → Making C → Call → C → C → Type 0
MakesRefused making call old new = (why : Refusal) × making old call (Refused why) new

-- the calls of a work were made once: in a round a completion is refused, and giving the packet back once more; a
-- packet that was sent came back with success
abbrev pub MakesOne : {C : Type 0} → Making C → Work → C → C → Type 0
MakesOne {C} making (Rounds times) old new = (irp : IrpRef) × (one two three : C)
    × making old (Allocate 1) (Irp irp) one × MakesRefused making (Complete Originator irp pending 0) one two
    × making two (Free irp) Done three × MakesRefused making (Free irp) three new
MakesOne {C} making (Unused live) old new = (irp : IrpRef) × (one : C)
    × making old (Allocate 16) (Irp irp) one × making one (Free irp) Done new
MakesOne making (Sends target packets times) old new = (irp : IrpRef)
    × making old (CallDriver Originator irp target) (StatusIs success) new

-- one thing was made so many times
abbrev pub Repeats : {C : Type 0} → (C → C → Type 0) → ℕ → C → C → Type 0
Repeats made zero old new = new ≡ old
Repeats {C} made (suc count) old new = (last : C) × Repeats made count old last × made last new

-- the calls of these entries, each with its reply
abbrev pub calls_of : List Entry → List (Call × Reply)
calls_of entries = map (λ (entry : Entry). (entry.call, entry.reply)) entries

-- a seat keeps one entry more, of this call with this reply, and its number
pub record Keeps (old : Seated) (call : Call) (reply : Reply) (new : Seated) : Type 0 where
  pub number : new.number ≡ old.number
  pub calls : calls_of new.entries ≡ calls_of old.entries ++ (call, reply) ∷ []

-- it has taken out of its slot what it had published, and nothing else
abbrev pub TookBack : Publisher → Type 0
TookBack publisher = publisher.owning.taken ≡ publisher.owning.published ∷ []

-- a canceller has taken so many uses more
abbrev pub TookMore : ℕ → Asker → Asker → Type 0
TookMore count old new = length new.asking.taken ≡ length old.asking.taken + count

-- the transcript's text was written, the text read, the transcript judged; of the others only which kind comes of each
abbrev pub ComesOf : Task → Sample → Made → Type 0
ComesOf Write sample (Text text) = text.items ≡ text_of (lines sample.transcript)
ComesOf Read sample (Transcript made) = ReadsFrom no_lines 0 (Ok made) (cut sample.text.items)
ComesOf Judge sample (Verdict verdict) = IsVerdictOn sample.transcript verdict
ComesOf WriteValues sample (Count count) = Unit {0}
ComesOf ReadValues sample (Count count) = Unit {0}
ComesOf Blocks sample (Verdict verdict) = Unit {0}
ComesOf task sample other = ⊥

-- all of so many entries were read, or judged legal
abbrev pub IsExpected : ℕ → Made → Type 0
IsExpected count (Transcript made) = length made.entries ≡ count
IsExpected count (Verdict verdict) = verdict ≡ Legal count
IsExpected count made = Unit {0}

-- what had to come of a task has come of it
abbrev pub HasCome : Task → ℕ → Sample → Type 0
HasCome task count sample = (made : Made) × ComesOf task sample made × IsExpected count made
