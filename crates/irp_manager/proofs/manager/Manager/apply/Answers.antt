use Rattle.irp_manager.specs.Keeps.{slabbed, IsNext, IsNextOfLive}
use Rattle.irp_manager.specs.ManagerStates.{SlotGivenBack}
use Rattle.irp_manager.specs.declared.manager_state.Applied.{Applied}
use Rattle.irp_manager.proofs.Handed.{if_ok}
use Rattle.irp_manager.proofs.manager.Manager.apply.Goals as goal

pub returns-clause-gave : goal.returns-clause-gave
returns-clause-gave g c =
    let old = c.args.self.now.state in
    let call = c.args.call in
    let new = c.apply.new.self in
    if_ok (λ (applied : Applied). SlotGivenBack slabbed IsNextOfLive old call applied.reply new)
    (λ (applied : Applied). SlotGivenBack slabbed (λ keep slot left. IsNext left slot) old call applied.reply new)
    (λ applied given irp is done. let back = given irp is done in (back.0, back.1 back.0)) c.apply.result c.apply.ensures.gave
