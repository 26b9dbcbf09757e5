use Rattle.std.proofs.Common.{◌<◌, ℕ, ap, ◌∙◌, subst, ◌∷◌}
use Rattle.irp_remove.specs.declared.views.Stage.TheVariants.{Trying}
use Rattle.irp_remove.proofs.Steps.{acquire_allowed, give_back_allowed}
use Rattle.irp_remove.proofs.Knowing.{one_view, acquired_taken, trying_here, trying_else}
use Rattle.irp_remove.proofs.table.Locks.take.Goals as goal

pub fetch_add-found-requires : goal.fetch_add-found-requires
fetch_add-found-requires g c =
    let party = c.into_seat-party in
    let seen = c.requires.idle.1.0 in
    let idle = one_view _ _ _ party.ensures.2 c.requires.idle.1.1 in
    let inside = subst (λ (z : ℕ). c.args.lock < z) c.args.self.now.counted c.requires.lock in
    (party.ensures.0 ∙ c.requires.idle.0, c.requires.lock, acquire_allowed _ _ _ _ _ seen _ idle inside)

pub fetch_sub-requires : goal.fetch_sub-requires
fetch_sub-requires g c =
    let party = c.into_seat-party in
    let seen = c.requires.idle.1.0 in
    let idle = one_view _ _ _ party.ensures.2 c.requires.idle.1.1 in
    let inside = subst (λ (z : ℕ). c.args.lock < z) c.args.self.now.counted c.requires.lock in
    let trying = ap (λ m. m.0) c.fetch_add-found.ensures.2.0 ∙ acquired_taken _ _ _ seen _ idle (λ e. c.if-found-eq0.false e) in (
      c.fetch_add-found.ensures.0 ∙ (party.ensures.0 ∙ c.requires.idle.0),
      c.requires.lock,
      give_back_allowed _ _ _ _ (Trying c.args.lock) (c.args.lock ∷ seen) _ trying inside (trying_here c.args.lock) (trying_else c.args.lock),
    )
