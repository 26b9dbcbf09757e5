use Rattle.std.proofs.Common.{rules, ◌≡◌, ◌++◌, ◌∷◌, [], ℕ, List, length, map, inr, sym, ap, ◌∙◌, subst}
use Rattle.atomic_table.specs.Seated.{TableId}
use Rattle.irp_remove.specs.declared.views.View.{View}
use Rattle.irp_remove.specs.Seats.{IsHeld, IsIdle, pair_of, view_of}
use Rattle.irp_remove.proofs.Seating.{to_held, back_to_idle, knows_last, room_left, one_more}
use Rattle.irp_remove.proofs.table.Locks.acquire.Goals as goal

pub invariant_of-seat-in-Ok : goal.invariant_of-seat-in-Ok
invariant_of-seat-in-Ok c =
    let here = ap (λ h. h.table) c.seat.view_is ∙ c.requires in
    rw c.push.ensures.items (to_held _ _ _ _ _ _ c.seat.invariant c.pop.new.self.items c.in-Ok.taken c.pop.ensures.rest (search rules)
    (subst (λ (z : TableId). IsHeld z c.in-Ok.taken) (sym here) c.in-Ok.ensures.stake.0))

pub invariant_of-seat-in-Err : goal.invariant_of-seat-in-Err
invariant_of-seat-in-Err c =
    let here = ap (λ h. h.table) c.seat.view_is ∙ c.requires in
    rw c.push-in-Err.ensures.items (back_to_idle _ _ _ _ _ _ c.seat.invariant c.pop.new.self.items c.in-Err.refused c.pop.ensures.rest (search rules)
    (subst (λ (z : TableId). IsIdle z c.in-Err.refused) (sym here) c.in-Err.ensures.stake))

pub returns-in-Ok-clause-reply : goal.returns-in-Ok-clause-reply
returns-in-Ok-clause-reply c =
    let taken = c.in-Ok.taken in
    let named : pair_of taken ≡ (c.args.lock.0, c.args.tag) = λ i. (c.in-Ok.ensures.stake.1 i, c.in-Ok.ensures.stake.2 i) in (
      search rules,
      room_left _ _ _ _ _ _ c.seat.invariant (length c.pop.new.self.items) (search rules) _ (ap (λ h. h.held) c.seat.view_is),
      search rules,
      search rules,
      (
        view_of c.in-Some.idle,
        view_of taken,
        c.in-Ok.ensures.steps,
        sym (ap (λ h. h.idle_views) c.seat.view_is) ∙ one_more view_of _ c.pop.new.self.items c.in-Some.idle c.in-Some.ensures.items,
        one_more view_of _ _ taken c.push.ensures.items ∙ ap (λ (z : List View). z ++ view_of taken ∷ []) (ap (λ h. h.held_views) c.seat.view_is),
        one_more pair_of _ _ taken c.push.ensures.items ∙ (ap (λ (z : List (ℕ × ℕ)). z ++ pair_of taken ∷ []) (ap (λ h. h.held) c.seat.view_is) ∙ ap (λ p. c.args.seat.now.held ++ p ∷ []) named),
      ),
      ap (λ h. h.watch) c.seat.view_is,
    )

pub returns-in-Err-clause-reply : goal.returns-in-Err-clause-reply
returns-in-Err-clause-reply c =
    let refused = c.in-Err.refused in
    let now = one_more view_of _ c.pop.new.self.items refused c.push-in-Err.ensures.items in (
      search rules,
      room_left _ _ _ _ _ _ c.seat.invariant (length c.pop.new.self.items) (search rules) _ (ap (λ h. h.held) c.seat.view_is),
      inr (knows_last _ _ (view_of refused) c.args.lock.0 _ now c.in-Err.ensures.steps.4),
      inr (
        search rules,
        search rules,
        (
          map view_of c.pop.new.self.items,
          view_of c.in-Some.idle,
          view_of refused,
          c.in-Err.ensures.steps,
          sym (ap (λ h. h.idle_views) c.seat.view_is) ∙ one_more view_of _ c.pop.new.self.items c.in-Some.idle c.in-Some.ensures.items,
          now,
          ap (λ h. h.held) c.seat.view_is,
          ap (λ h. h.held_views) c.seat.view_is,
          ap (λ h. h.watch) c.seat.view_is,
        ),
      ),
    )
