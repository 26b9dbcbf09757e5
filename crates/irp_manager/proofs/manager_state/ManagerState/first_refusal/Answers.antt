use Rattle.std.proofs.Common.{sym, ◌∙◌, ap}
use Rattle.irp_types.specs.Refusals.{first_refusal}
use Rattle.irp_manager.specs.ManagerStates.{state_of}
use Rattle.irp_manager.proofs.manager_state.ManagerState.first_refusal.Goals as goal

pub returns-in-CreateDevice : goal.returns-in-CreateDevice
returns-in-CreateDevice g c fixed counts drivers agrees =
    c.creating.ensures fixed c.args.drained drivers agrees
    ∙ ap (first_refusal fixed (state_of g.K.Keep.live c.args.self.now) c.args.drained) (sym c.in-CreateDevice.is)

pub returns-in-Delete : goal.returns-in-Delete
returns-in-Delete g c fixed counts drivers agrees =
    c.delete_refusal.ensures fixed ∙ ap (first_refusal fixed (state_of g.K.Keep.live c.args.self.now) c.args.drained) (sym c.in-Delete.is)

pub returns-in-Allocate : goal.returns-in-Allocate
returns-in-Allocate g c fixed counts drivers agrees =
    c.allocate_refusal.ensures.refusal fixed c.args.drained agrees
    ∙ ap (first_refusal fixed (state_of g.K.Keep.live c.args.self.now) c.args.drained) (sym c.in-Allocate.is)
