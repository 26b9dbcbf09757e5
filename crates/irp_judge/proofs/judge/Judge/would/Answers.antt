use Rattle.std.proofs.Common.{rules, refl}
use Rattle.irp_transcript.specs.Headers.{fixed_of}
use Rattle.irp_judge.proofs.judge.Judge.would.Goals as goal

pub returns : goal.returns
returns c = c.first_refusal.ensures (fixed_of c.args.self.now.header.now) refl (search rules) c.args.self.now.agrees
