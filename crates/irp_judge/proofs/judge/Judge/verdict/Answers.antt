use Rattle.std.proofs.Common.{None, Some}
use Rattle.irp_judge.specs.Judges.{seen}
use Rattle.irp_judge.proofs.Judged.{judged_verdict}
use Rattle.irp_judge.proofs.judge.Judge.verdict.Goals as goal

pub returns-in-None : goal.returns-in-None
returns-in-None c = λ history has. judged_verdict (seen c.args.self.now) history None has c.in-None.is

pub returns-in-Some : goal.returns-in-Some
returns-in-Some c = λ history has. judged_verdict (seen c.args.self.now) history (Some c.in-Some.wrong) has c.in-Some.is
