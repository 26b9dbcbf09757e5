use Rattle.std.proofs.Common.{rules, ◌≡◌, ◌++◌, ◌∷◌, [], ℕ, List, Some, slice_get, ap, ◌∙◌, sym, subst}
use Rattle.atomic_table.specs.Seated.{TableId}
use Rattle.irp_remove.specs.declared.views.View.{View}
use Rattle.irp_remove.specs.Seats.{IsIdle, pair_of, view_of}
use Rattle.irp_remove.specs.Calls.{StakeGave}
use Rattle.irp_remove.proofs.Seating.{to_idle, place_within, pair_removed, one_gone, one_more, map_at}
use Rattle.irp_remove.proofs.table.Locks.release.Goals as goal

pub invariant_of-seat : goal.invariant_of-seat
invariant_of-seat c =
    let here = ap (λ h. h.table) c.seat.view_is ∙ c.requires in
    let place = c.in-Some.place in
    rw (c.push.ensures.items, c.remove-held.ensures.items) (to_idle _ _ _ _ _ _ c.seat.invariant place c.give-given.result (place_within _ place _ c.in-Some.ensures.some)
    (subst (λ (z : TableId). IsIdle z c.give-given.result) (sym here) c.give-given.ensures.stake))

pub returns-clause-reply : goal.returns-clause-reply
returns-clause-reply c =
    let place = c.in-Some.place in
    let held = c.remove-held.result in
    let given = c.give-given.result in
    let named = pair_removed c.seat.inside.held.items place held _ c.in-Some.ensures.some c.remove-held.ensures.value in (
      search rules,
      (
        place,
        view_of held,
        view_of given,
        subst (λ (p : ℕ × ℕ). StakeGave p.0 p.1 (view_of held) (view_of given)) named c.give-given.ensures.step,
        subst (λ (z : List (ℕ × ℕ)). slice_get z place ≡ Some (c.args.lock.0, c.args.tag)) (ap (λ h. h.held) c.seat.view_is) c.in-Some.ensures.some,
        subst (λ (z : List View). slice_get z place ≡ Some (view_of held)) (ap (λ h. h.held_views) c.seat.view_is)
            (map_at view_of c.seat.inside.held.items place held (place_within _ place _ c.in-Some.ensures.some) c.remove-held.ensures.value),
        one_gone pair_of _ c.remove-held.new.self.items _ place (ap (λ h. h.held) c.seat.view_is) c.remove-held.ensures.items,
        one_gone view_of _ c.remove-held.new.self.items _ place (ap (λ h. h.held_views) c.seat.view_is) c.remove-held.ensures.items,
        one_more view_of _ _ given c.push.ensures.items ∙ ap (λ (z : List View). z ++ view_of given ∷ []) (ap (λ h. h.idle_views) c.seat.view_is),
      ),
      ap (λ h. h.watch) c.seat.view_is,
    )
