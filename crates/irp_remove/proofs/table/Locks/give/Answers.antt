use Rattle.std.proofs.Common.{◌<◌, ℕ, ◌∙◌, subst}
use Rattle.irp_remove.specs.declared.views.Stage.TheVariants.{Held}
use Rattle.irp_remove.proofs.Steps.{give_back_allowed}
use Rattle.irp_remove.proofs.Knowing.{one_view, held_here, held_else}
use Rattle.irp_remove.proofs.table.Locks.give.Goals as goal

pub fetch_sub-requires : goal.fetch_sub-requires
fetch_sub-requires c =
    let party = c.into_seat-party in
    let lock = c.args.held.lock in
    let tag = c.args.held.tag in
    let seen = c.requires.2.0 in
    let placed = one_view _ _ _ party.ensures.2 c.requires.2.1 in
    let inside = subst (λ (z : ℕ). lock < z) c.args.self.now.counted c.requires.1 in
    (party.ensures.0 ∙ c.requires.0, c.requires.1, give_back_allowed _ _ _ _ (Held lock tag) seen _ placed inside (held_here lock tag) (held_else lock tag))
