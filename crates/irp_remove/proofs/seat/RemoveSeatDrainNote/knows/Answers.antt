use Rattle.std.proofs.Common.{rules, arith, ap, ◌∙◌}
use Rattle.irp_remove.specs.Core.{flag}
use Rattle.irp_remove.proofs.Seating.{flag_past}
use Rattle.irp_remove.proofs.seat.RemoveSeatDrainNote.knows.Goals as goal

pub returns-else-lock-lt64 : goal.returns-else-lock-lt64
returns-else-lock-lt64 c = flag_past _ _ c.self.invariant.flags.2 c.if-lock-lt64.false ∙ (ap (λ xs. flag xs c.args.lock.0) (Rattle.std.proofs.Common.sym c.self.invariant.drained_is) ∙ ap (λ h. flag h.watch.drained c.args.lock.0) c.self.view_is)
