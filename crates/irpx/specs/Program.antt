-- What the program does for its words.
use Rattle.std.specs.Prelude.{◌≡◌, Result, Ok, Err}
use Rattle.irp_judge.specs.declared.verdict.Verdict.{Verdict}
use Rattle.irp_feed.specs.Input.{most_taken as most_checked}
use Rattle.irpx.specs.Checking.{Checks}
use Rattle.irpx.specs.Demo.{AfterDemo}
use Rattle.irpx.specs.Ending.{done, ending_of, of_verdict}
use Rattle.irpx.specs.Running.{AfterRun, most_taken as most_run}
use Rattle.irp_streams.specs.Streams.{IsQuiet, Streams, TakesAtMost}
use Rattle.irpx.specs.declared.ending.Ending.{Ending}
use Rattle.irpx.specs.declared.ending.Ending.TheVariants.{Faulty}
use Rattle.irpx.specs.declared.not_done.NotDone.{NotDone}
use Rattle.irpx.specs.declared.orders.Order.{Order}
use Rattle.irpx.specs.declared.orders.Order.TheVariants.{Demo, Run, Check}

-- how much was read: nothing, but where the words ask for a script to be run or for a transcript to be checked
abbrev pub ReadsFor : Result Order NotDone → Streams → Streams → Type 0
ReadsFor (Ok Demo) before after = after.left ≡ before.left
ReadsFor (Ok (Run workers)) before after = TakesAtMost most_run before.left after.left
ReadsFor (Ok Check) before after = TakesAtMost most_checked before.left after.left
ReadsFor (Err fault) before after = after.left ≡ before.left

-- what was done, by what the words ask for
abbrev pub Obeys : Result Order NotDone → Streams → Streams → Ending → Type 0
Obeys (Ok Demo) before after ending =
    (result : Result (Unit {0}) NotDone) × (ending ≡ ending_of done result)
    × AfterDemo before.output after.output result
Obeys (Ok (Run workers)) before after ending =
    (result : Result (Unit {0}) NotDone) × (ending ≡ ending_of done result)
    × AfterRun workers before after result
Obeys (Ok Check) before after ending =
    (result : Result Verdict NotDone) × (ending ≡ ending_of of_verdict result)
    × Checks before after result
Obeys (Err fault) before after ending =
    (ending ≡ Faulty fault) × IsQuiet before.output after.output
