-- References that are handed over between workers. Of so many workers, a seat falls to the one whose number is what the
-- seat's leaves when divided by how many there are.
use Rattle.std.specs.Prelude.{ℕ, ◌%◌, ◌==◌, Bool, false, not}
use Rattle.irp_script_reader.specs.declared.act.Step.{Step}
use Rattle.irp_script_reader.specs.declared.act.StepAct.{StepAct}
use Rattle.irp_script_reader.specs.declared.act.StepAct.TheVariants as act

-- whether a seat's act hands a reference to a seat of another worker
abbrev pub goes_between : ℕ → ℕ → StepAct → Bool
goes_between workers seat (act.Hand hand) = not (seat % workers == hand.to % workers)
goes_between workers seat other = false

-- whether a step hands a reference between seats of different workers
abbrev pub hands_between : ℕ → Step → Bool
hands_between workers step = goes_between workers step.seat step.act
