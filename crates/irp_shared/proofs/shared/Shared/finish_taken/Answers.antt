use Rattle.std.proofs.Common.{rules, ℕ, ◌<◌, subst}
use Rattle.irp_shared.specs.Sharing.{FindsFull}
use Rattle.irp_shared.proofs.shared.Shared.finish_taken.Goals as goal

pub returns-in-Err-clause-behind : goal.returns-in-Err-clause-behind
returns-in-Err-clause-behind g c = λ told back is.
    subst (λ (seen : ℕ). told < seen) c.room.ensures.same.1 ((c.call.ensures.behind told).0 (search rules)).1

pub returns-in-Err-clause-full : goal.returns-in-Err-clause-full
returns-in-Err-clause-full g c = λ back is.
    subst (FindsFull g.L.Session.fixed g.L.Session.may) c.room.ensures.same.1 (c.call.ensures.finds (search rules))
