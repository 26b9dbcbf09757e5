-- The exit statuses, and the lines for standard error.
use Rattle.std.specs.Prelude.{ℕ, List, ◌++◌, codes, Option, Some, None, Result, Ok, Err}
use Rattle.std.specs.Fmt.{decimal}
use Rattle.irp_judge.specs.declared.verdict.Verdict.{Verdict}
use Rattle.irp_judge.specs.declared.verdict.Verdict.TheVariants as verdict
use Rattle.irp_fast_reader.specs.Fitting.{name_of}
use Rattle.irpx.specs.declared.ending.Ending.{Ending}
use Rattle.irpx.specs.declared.ending.Ending.TheVariants.{Done, Illegal, Faulty}
use Rattle.irpx.specs.declared.not_done.NotDone.{NotDone}
use Rattle.irpx.specs.declared.not_done.NotDone.TheVariants as fault
use Rattle.irpx.specs.declared.not_done.Phase.TheVariants.{Reading}

-- ---- what a result ends with

-- why a text isn't had from the input: it failed, or memory ran out
abbrev pub IsReadingFault : NotDone → Type 0
IsReadingFault fault.Input = Unit {0}
IsReadingFault (fault.NoMemory Reading) = Unit {0}
IsReadingFault other = ⊥

-- by what its value ends with; a fault with itself
abbrev pub ending_of : {T : Type 0} → (T → Ending) → Result T NotDone → Ending
ending_of of_value (Ok value) = of_value value
ending_of of_value (Err told) = Faulty told

-- what was done
abbrev pub done : Unit {0} → Ending
done it = Done

-- a verdict that was written
abbrev pub of_verdict : Verdict → Ending
of_verdict (verdict.Legal entries) = Done
of_verdict (verdict.Illegal at) = Illegal

-- ---- what an ending is seen by

-- the exit status of a fault: of a text that is refused, of receipts or labels that differ, of memory that ran out or a
-- transcript that doesn't fit, of other words, and of a stream that failed
abbrev pub fault_status : NotDone → ℕ
fault_status (fault.RefusedScript refusal) = 1
fault_status (fault.HandsBetween step) = 1
fault_status (fault.RefusedLine line) = 1
fault_status fault.ReceiptsDiffer = 2
fault_status (fault.LabelsDiffer label) = 2
fault_status (fault.NoMemory phase) = 3
fault_status (fault.Stopped stop) = 3
fault_status (fault.Unfit unfit) = 3
fault_status fault.Usage = 4
fault_status fault.Input = 5
fault_status fault.Output = 5

-- the exit status of an ending
abbrev pub status_of : Ending → ℕ
status_of Done = 0
status_of Illegal = 2
status_of (Faulty told) = fault_status told

-- a fault's line for standard error, without its newline, where it is known: that of a refused script ends with the
-- refusal's text
abbrev pub complaint_of : NotDone → Option (List ℕ)
complaint_of (fault.RefusedScript refusal) = None
complaint_of (fault.HandsBetween step) = None
complaint_of (fault.RefusedLine line) = Some (codes "irpx: transcript refused: line " ++ decimal line)
complaint_of fault.ReceiptsDiffer = Some (codes "irpx: receipts differ")
complaint_of (fault.LabelsDiffer label) = Some (codes "irpx: labels differ: label " ++ decimal label)
complaint_of (fault.NoMemory phase) = Some (codes "irpx: out of memory")
complaint_of (fault.Stopped stop) = Some (codes "irpx: out of memory")
complaint_of (fault.Unfit unfit) = Some (codes "irpx: can't be read again: " ++ name_of unfit)
complaint_of fault.Usage = Some (codes "irpx: usage: irpx demo, run [--workers N] or check")
complaint_of fault.Input = Some (codes "irpx: input or output failed")
complaint_of fault.Output = Some (codes "irpx: input or output failed")
