-- The exit statuses, and which ending comes of what.
use Rattle.std.specs.Prelude.{ℕ, Bool, true, false}
use Rattle.irp_condition.specs.declared.fault.Unread.{Unread}
use Rattle.irp_condition.specs.declared.fault.Unread.TheVariants as unread
use Rattle.irp_machine.specs.declared.limits.NotFound.{NotFound}
use Rattle.irp_machine.specs.declared.limits.NotFound.TheVariants as found
use Rattle.irp_machine.specs.declared.limits.NotMade.{NotMade}
use Rattle.irp_machine.specs.declared.limits.NotMade.TheVariants as made
use Rattle.irp_streams.specs.declared.reading.StreamFault.{StreamFault}
use Rattle.irp_streams.specs.declared.reading.StreamFault.TheVariants as stream
use Rattle.irp_script_reader.specs.declared.refusal.ScriptFault.{ScriptFault}
use Rattle.irp_script_reader.specs.declared.refusal.ScriptFault.TheVariants as script
use Rattle.irp_program.specs.declared.opening.Unopened.{Unopened}
use Rattle.irp_program.specs.declared.opening.Unopened.TheVariants as unopened
use Rattle.irp_program.specs.declared.words.Unasked.{Unasked}
use Rattle.irp_program.specs.declared.words.Unasked.TheVariants as unasked
use Rattle.irp_orders.specs.declared.ending.Ending.{Ending}
use Rattle.irp_orders.specs.declared.ending.Ending.TheVariants.{
  Done,
  RefusedScript,
  FaultyWords,
  Differs,
  Broken,
  NoMemory,
  Met,
  NoOrder,
  OtherWords,
  NotBesideRight,
  RefusedCondition,
  NoOutcome,
  NoFile,
  Failed,
}

-- the exit status of an ending
abbrev pub status_of : Ending → ℕ
status_of Done = 0
status_of (RefusedScript refusal) = 1
status_of (FaultyWords lines) = 1
status_of Differs = 1
status_of Broken = 2
status_of NoMemory = 3
status_of (Met met) = 3
status_of NoOrder = 3
status_of OtherWords = 4
status_of NotBesideRight = 4
status_of (RefusedCondition fault) = 4
status_of (NoOutcome count) = 4
status_of (NoFile name reason) = 5
status_of Failed = 5

-- whether an ending has a line for standard error
abbrev pub has_line : Ending → Bool
has_line Done = false
has_line Broken = false
has_line ending = true

-- ---- which ending comes of what

-- of an exploration that was given up
abbrev pub of_unfound : NotFound → Ending
of_unfound found.Memory = NoMemory
of_unfound bound = Met bound

-- of an order that isn't made again
abbrev pub of_unmade : NotMade → Ending
of_unmade made.Memory = NoMemory
of_unmade made.NoStep = NoOrder

-- of a text that isn't read as a condition
abbrev pub of_unread : Unread → Ending
of_unread (unread.Fault fault) = RefusedCondition fault
of_unread unread.NoMemory = NoMemory

-- of an input that isn't read, or a text that isn't written
abbrev pub of_unheard : StreamFault → Ending
of_unheard stream.Failed = Failed
of_unheard stream.NoMemory = NoMemory

-- of a text that isn't read as a script
abbrev pub of_refused : ScriptFault → Ending
of_refused (script.Refused refusal) = RefusedScript refusal
of_refused script.NoMemory = NoMemory

-- other words, or want of memory for them
abbrev pub of_words : Unasked → Ending
of_words unasked.Usage = OtherWords
of_words unasked.NoMemory = NoMemory

-- a file that isn't opened
abbrev pub of_unopened : Unopened → Ending
of_unopened (unopened.NoFile name reason) = NoFile name reason
of_unopened unopened.NoMemory = NoMemory
