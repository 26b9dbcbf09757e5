-- What was found.
use Rattle.std.proofs.Common.{refl}
use Rattle.irp_judge.specs.Judges.{seen}
use Rattle.irp_view.proofs.Judged.{finds}
use Rattle.irp_view.proofs.judging.found_in.Goals as goal

pub returns : goal.returns
returns c = λ transcript are.
    (finds (seen c.args.judging.judge) c.args.judging.kept transcript _ are c.fed.ensures refl c.into_wrong.ensures refl refl)
