use Rattle.std.proofs.Common.{sym, ◌∙◌, ap}
use Rattle.irp_types.specs.Checks.{first_failing, or_else}
use Rattle.irp_types.specs.Stacks.{create_checks}
use Rattle.irp_manager.proofs.manager_state.ManagerState.creating.Goals as goal

pub returns-in-Some : goal.returns-in-Some
returns-in-Some g c fixed drained same agrees =
    sym (c.create_refusal.ensures fixed drained same agrees ∙ ap (λ given. or_else given (first_failing (create_checks c.args.self.now.stacks.devices))) c.in-Some.is)

pub returns : goal.returns
returns g c fixed drained same agrees =
    c.no_device_left.ensures
    ∙ sym (c.create_refusal.ensures fixed drained same agrees ∙ ap (λ given. or_else given (first_failing (create_checks c.args.self.now.stacks.devices))) c.in_default.is)
