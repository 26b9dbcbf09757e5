use Rattle.std.proofs.Common.{◌≡◌, sym, subst}
use Rattle.irp_types.specs.State.{opening_state}
use Rattle.irp_types.specs.Standing.{StandingFacts}
use Rattle.irp_manager.proofs.Recording.{stands_opening}
use Rattle.irp_manager.proofs.manager_state.ManagerState.with_limit.Goals as goal

pub returns-clause-stands : goal.returns-clause-stands
returns-clause-stands g c counts =
    let opens : record { live = g.K.Keep.live c.args.keep; devices = c.with_limit.result.devices; next_use = 1 } ≡ opening_state =
    λ i. record { live = c.requires.empty i; devices = (c.with_limit.ensures i).devices; next_use = 1 } in
    subst (StandingFacts counts) (sym opens) (stands_opening counts)
