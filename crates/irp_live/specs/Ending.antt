-- The exit statuses, and the lines for standard error.
use Rattle.std.specs.Prelude.{ℕ, List, codes, Result, Ok, Err}
use Rattle.irp_judge.specs.declared.verdict.Verdict.{Verdict}
use Rattle.irp_judge.specs.declared.verdict.Verdict.TheVariants as verdict
use Rattle.irp_live.specs.declared.ending.Ending.{Ending}
use Rattle.irp_live.specs.declared.ending.Ending.TheVariants.{Done, RefusedHeader, Illegal, NoMemory, OtherWords, Failed}
use Rattle.irp_streams.specs.declared.reading.StreamFault.TheVariants as stream
use Rattle.irp_live.specs.declared.talking.LiveFault.{LiveFault}
use Rattle.irp_live.specs.declared.talking.LiveFault.TheVariants as live

-- what a result ends with
abbrev pub ending_of : Result Verdict LiveFault → Ending
ending_of (Ok (verdict.Legal entries)) = Done
ending_of (Ok (verdict.Illegal at)) = Illegal
ending_of (Err live.RefusedHeader) = RefusedHeader
ending_of (Err (live.Stream stream.Failed)) = Failed
ending_of (Err (live.Stream stream.NoMemory)) = NoMemory

-- the exit status
abbrev pub status_of : Ending → ℕ
status_of Done = 0
status_of RefusedHeader = 1
status_of Illegal = 2
status_of NoMemory = 3
status_of OtherWords = 4
status_of Failed = 5

-- the line for standard error, without its newline
abbrev pub complaint_of : Ending → List ℕ
complaint_of Done = codes ""
complaint_of Illegal = codes ""
complaint_of RefusedHeader = codes "irp: transcript refused: line 1"
complaint_of NoMemory = codes "irp: out of memory"
complaint_of OtherWords = codes "irp: usage: irp live, or irp live --help"
complaint_of Failed = codes "irp: input or output failed"
