use Rattle.std.proofs.Common.{ℕ, ◌<◌, subst}
use Rattle.irp_shared.specs.Sharing.{FindsFull}
use Rattle.irp_shared.proofs.shared.Shared.call.Goals as goal

pub returns-clause-behind : goal.returns-clause-behind
returns-clause-behind g c = λ told is. subst (λ (seen : ℕ). told < seen) c.room.ensures.same.1 ((c.call.ensures.behind told).0 is).1

pub returns-clause-full : goal.returns-clause-full
returns-clause-full g c = λ is. subst (FindsFull g.L.Session.fixed g.L.Session.may) c.room.ensures.same.1 (c.call.ensures.finds is)
