-- What is true of the handlers from here on is true of all of them.
use Rattle.std.proofs.Common.{◌≡◌, drop}
use Rattle.irp_script_reader.specs.Plans.{is_driver}
use Rattle.irp_script_reader.proofs.plans.is_driver.Given as goal

abbrev pub invariant-loop-index : goal.invariant-loop-index
invariant-loop-index l = is_driver l.dispatches l.handlers ≡ is_driver l.dispatches (drop l.index l.handlers)
