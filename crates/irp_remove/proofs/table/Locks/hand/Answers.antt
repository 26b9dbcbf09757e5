use Rattle.std.proofs.Common.{rules, ◌≡◌, ◌++◌, ◌∷◌, [], List, ℕ, Some, slice_get, ap, ◌∙◌, sym, subst, length}
use Rattle.irp_remove.specs.declared.views.View.{View}
use Rattle.atomic_table.specs.Seated.{TableId}
use Rattle.irp_remove.specs.Seats.{IsIdle, IsHeld, pair_of, view_of}
use Rattle.irp_remove.proofs.Seating.{to_idle, to_held, place_within, all_last, all_at, room_left, pair_removed, one_gone, one_more, map_at}
use Rattle.irp_remove.proofs.table.Locks.hand.Goals as goal

pub invariant_of-giver : goal.invariant_of-giver
invariant_of-giver c =
    let giver = ap (λ h. h.table) c.giver.view_is ∙ c.requires.giver in
    let taker = ap (λ h. h.table) c.taker.view_is ∙ c.requires.taker in
    let place = c.in-Some.place in
    let idle = all_last (IsIdle c.taker.inside.observer.table_id) _ _ _ c.in-Some-pop.ensures.items c.taker.invariant.all_idle in
    rw (c.push.ensures.items, c.remove-handed.ensures.items) (to_idle _ _ _ _ _ _ c.giver.invariant place c.in-Some-pop.idle (place_within _ place _ c.in-Some.ensures.some)
    (subst (λ (z : TableId). IsIdle z c.in-Some-pop.idle) (taker ∙ sym giver) idle))

pub invariant_of-taker-2 : goal.invariant_of-taker-2
invariant_of-taker-2 c =
    let giver = ap (λ h. h.table) c.giver.view_is ∙ c.requires.giver in
    let taker = ap (λ h. h.table) c.taker.view_is ∙ c.requires.taker in
    let place = c.in-Some.place in
    let held = all_at (IsHeld c.giver.inside.observer.table_id) c.giver.inside.held.items place c.remove-handed.result c.giver.invariant.all_held (place_within _ place _ c.in-Some.ensures.some) c.remove-handed.ensures.value in
    rw c.push-2.ensures.items (to_held _ _ _ _ _ _ c.taker.invariant c.pop.new.self.items c.remove-handed.result c.pop.ensures.rest (search rules)
    (subst (λ (z : TableId). IsHeld z c.remove-handed.result) (giver ∙ sym taker) held))

pub returns-clause-reply : goal.returns-clause-reply
returns-clause-reply c =
    let place = c.in-Some.place in
    let handed = c.remove-handed.result in
    let idle = c.in-Some-pop.idle in
    let named = pair_removed c.giver.inside.held.items place handed _ c.in-Some.ensures.some c.remove-handed.ensures.value in (
      search rules,
      room_left _ _ _ _ _ _ c.taker.invariant (length c.pop.new.self.items) (search rules) _ (ap (λ h. h.held) c.taker.view_is),
      (
        place,
        view_of handed,
        view_of idle,
        subst (λ (z : List (ℕ × ℕ)). slice_get z place ≡ Some (c.args.lock.0, c.args.tag)) (ap (λ h. h.held) c.giver.view_is) c.in-Some.ensures.some,
        subst (λ (z : List View). slice_get z place ≡ Some (view_of handed)) (ap (λ h. h.held_views) c.giver.view_is)
            (map_at view_of c.giver.inside.held.items place handed (place_within _ place _ c.in-Some.ensures.some) c.remove-handed.ensures.value),
        one_gone pair_of _ c.remove-handed.new.self.items _ place (ap (λ h. h.held) c.giver.view_is) c.remove-handed.ensures.items,
        one_gone view_of _ c.remove-handed.new.self.items _ place (ap (λ h. h.held_views) c.giver.view_is) c.remove-handed.ensures.items,
        one_more pair_of _ _ handed c.push-2.ensures.items ∙ (ap (λ (z : List (ℕ × ℕ)). z ++ pair_of handed ∷ []) (ap (λ h. h.held) c.taker.view_is) ∙ ap (λ p. c.args.taker.now.held ++ p ∷ []) named),
        one_more view_of _ _ handed c.push-2.ensures.items ∙ ap (λ (z : List View). z ++ view_of handed ∷ []) (ap (λ h. h.held_views) c.taker.view_is),
        sym (ap (λ h. h.idle_views) c.taker.view_is) ∙ one_more view_of _ c.pop.new.self.items idle c.in-Some-pop.ensures.items,
        one_more view_of _ _ idle c.push.ensures.items ∙ ap (λ (z : List View). z ++ view_of idle ∷ []) (ap (λ h. h.idle_views) c.giver.view_is),
      ),
      ap (λ h. h.watch) c.giver.view_is,
      ap (λ h. h.watch) c.taker.view_is,
    )
