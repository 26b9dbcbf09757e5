use Rattle.std.proofs.Common.{sym, ◌∙◌, ap}
use Rattle.std.specs.Option.{option_copied}
use Rattle.irp_types.specs.State.{LivePacket}
use Rattle.irp_manager.specs.ManagerStates.{state_of}
use Rattle.irp_manager.specs.Owning.{own_refusal}
use Rattle.irp_manager.proofs.Looking.{without_party, other_party, own_party}
use Rattle.irp_manager.proofs.manager_state.ManagerState.by_party.Goals as goal

pub returns-in_default : goal.returns-in_default
returns-in_default g c =
    without_party (state_of g.K.Keep.live c.args.self.now) c.args.party c.args.irp _ (sym c.get.ensures ∙ ap option_copied c.in_default.is)

pub returns-in-Some-party_refusal : goal.returns-in-Some-party_refusal
returns-in-Some-party_refusal g c =
    other_party (state_of g.K.Keep.live c.args.self.now) c.args.party c.args.irp c.in-Some.live.now c.in-Some-party_refusal.refusal _ (sym c.get.ensures ∙ ap option_copied c.in-Some.is)
    (sym c.in-Some-party_refusal.is ∙ c.party_refusal.ensures.refusal)

pub returns : goal.returns
returns g c =
    own_party (state_of g.K.Keep.live c.args.self.now) c.args.party c.args.irp c.in-Some.live.now (λ packet. own_refusal c.args.counts c.args.self.now.stacks.devices packet c.args.call) c.owning.result
    (sym c.get.ensures ∙ ap option_copied c.in-Some.is) (sym c.in_default-party_refusal.is ∙ c.party_refusal.ensures.refusal) (c.owning.ensures ∙ ap (λ (given : LivePacket). own_refusal c.args.counts c.args.self.now.stacks.devices given.packet c.args.call) c.live.view_is)
