use Rattle.std.proofs.Common.{◌≡◌, subst, sym, rules}
use Rattle.irp_script.specs.Gates.{due_at}
use Rattle.irp_script.specs.Workers.{work_of}
use Rattle.irp_script.proofs.worker.Worker.pass.Goals as goal

pub begins-requires : goal.begins-requires
begins-requires g c =
    let same : c.due_at-due.result ≡ due_at c.args.index c.args.step (work_of c.args.self.now).heard = search rules in
    subst (g.G.StepGate.admits c.args.gate.now) (sym same) c.requires.admits

pub ends-requires : goal.ends-requires
ends-requires g c =
    let same : c.due_at-due.result ≡ due_at c.args.index c.args.step (work_of c.args.self.now).heard = search rules in
    subst (g.G.StepGate.admits c.args.gate.now) (sym same) c.requires.admits
