-- What the program does for its words.
use Rattle.std.specs.Prelude.{◌≡◌, Result}
use Rattle.irp_judge.specs.declared.verdict.Verdict.{Verdict}
use Rattle.irp_live.specs.Ending.{ending_of}
use Rattle.irp_streams.specs.Streams.{Streams}
use Rattle.irp_live.specs.Talking.{IsLived}
use Rattle.irp_live.specs.declared.ending.Ending.{Ending}
use Rattle.irp_live.specs.declared.ending.Ending.TheVariants as ending
use Rattle.irp_live.specs.declared.order.Order.{Order}
use Rattle.irp_live.specs.declared.order.Order.TheVariants.{Live, Help, Other, NoMemory}
use Rattle.irp_live.specs.declared.talking.LiveFault.{LiveFault}

-- lines are answered where the words ask for nothing else; other words take nothing of the input
abbrev pub Obeys : Order → Streams → Streams → Ending → Type 0
Obeys Live old new it = (result : Result Verdict LiveFault) × (it ≡ ending_of result) × IsLived old result new
Obeys Help old new it = new.left ≡ old.left
Obeys Other old new it = (new ≡ old) × (it ≡ ending.OtherWords)
Obeys NoMemory old new it = (new ≡ old) × (it ≡ ending.NoMemory)
