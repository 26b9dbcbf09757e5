-- What a line asks.
use Rattle.std.specs.Prelude.{ℕ, ◌<◌, List, [], ◌∷◌, length, codes, Option, Some, None, Result, Ok, Err, if◌then◌else◌}
use Rattle.serde_json.specs.Data.{Data}
use Rattle.serde_json.specs.Find.{get, as_bool}
use Rattle.irp_forms.specs.Parts.{◌>>=◌, only_keys, or_else}
use Rattle.irp_forms.specs.Values.{irp_at}
use Rattle.irp_transcript_reader.specs.Calls.{entry_call_at}
use Rattle.irp_transcript_reader.specs.Reading.{IsLine, most_bytes}
use Rattle.irp_live.specs.declared.asking.LineFault.{LineFault}
use Rattle.irp_live.specs.declared.asking.LineFault.TheVariants.{TooLong, NotJson, NoForm}
use Rattle.irp_live.specs.declared.asking.Question.{Question}
use Rattle.irp_live.specs.declared.asking.Question.TheVariants.{Would, Look, End}
use Rattle.irp_live.specs.declared.asking.Unheard.{Unheard}
use Rattle.irp_live.specs.declared.asking.Unheard.TheVariants.{Fault, NoMemory}

-- what a call would be refused with: an object with this key alone
unfoldable pub would_at : Data → Option Question
would_at form = do
  its ← only_keys (codes "would" ∷ []) form
  called ← get (codes "would") form >>= entry_call_at
  Some (Would called)

-- what a Look of a packet would be replied with
unfoldable pub look_at : Data → Option Question
look_at form = do
  its ← only_keys (codes "look" ∷ []) form
  irp ← get (codes "look") form >>= irp_at
  Some (Look irp)

-- the end
unfoldable pub end_at : Data → Option Question
end_at form = do
  its ← only_keys (codes "end" ∷ []) form
  ends ← get (codes "end") form >>= as_bool
  if ends then Some End else None

-- what a value asks, where it isn't the next line of a transcript
abbrev pub question_at : Data → Option Question
question_at form = or_else (would_at form) (or_else (look_at form) (end_at form))

-- a line is read as this value, or it is too long, or it isn't JSON
abbrev pub IsHeard : List ℕ → Result Data LineFault → Type 0
IsHeard line (Ok form) = IsLine line form
IsHeard line (Err TooLong) = most_bytes < length line
IsHeard line (Err NotJson) = (form : Data) → IsLine line form → ⊥
IsHeard line (Err NoForm) = ⊥

-- why a line has no value: its fault, or want of memory
abbrev pub IsUnheard : List ℕ → Unheard → Type 0
IsUnheard line (Fault fault) = IsHeard line (Err fault)
IsUnheard line NoMemory = Unit {0}
