use Rattle.std.proofs.Common.{rules, arith, ◌≡◌, ◌≢◌, ◌<◌, ◌≤◌, ◌%◌, ◌++◌, ◌∷◌, [], ℕ, Bool, List, Some, slice_get, true, length, map, Contains, slice_set, if◌then◌else◌, eq-eqb, ne_eqb, length-set, refl, ap, ◌∙◌, sym, subst}
use Rattle.atomic_table.specs.Seated.{TableId}
use Rattle.irp_remove.specs.declared.views.View.TheVariants.{Observer}
use Rattle.irp_remove.specs.declared.views.Watch.{Watch}
use Rattle.irp_remove.specs.declared.views.View.{View}
use Rattle.irp_remove.specs.Calls.{StakeGave}
use Rattle.irp_remove.specs.Core.{begun, watch_begun}
use Rattle.irp_remove.specs.Seats.{Holder, holder, IsIdle, watch_of, pair_of, view_of}
use Rattle.irp_remove.proofs.Observing.{begin_allowed}
use Rattle.irp_remove.proofs.Seating.{to_idle, watching, place_within, contains_at, holder_watch, pair_removed, one_gone, one_more, map_at}
use Rattle.irp_remove.proofs.table.Locks.begin_remove.Goals as goal

watch_clear : (lock word : ℕ) (w : Watch) → word % 2 ≡ 0 → watch_begun lock word w ≡ record w { began = slice_set w.began lock true }
watch_clear lock word w clear = ap (λ (b : Bool). if b then record w { began = slice_set w.began lock true } else record w { saw = slice_set w.saw lock true }) (eq-eqb (word % 2) 0 clear)

watch_taken : (lock word : ℕ) (w : Watch) → word % 2 ≢ 0 → watch_begun lock word w ≡ record w { saw = slice_set w.saw lock true }
watch_taken lock word w taken = ap (λ (b : Bool). if b then record w { began = slice_set w.began lock true } else record w { saw = slice_set w.saw lock true }) (ne_eqb (word % 2) 0 taken)

pub fetch_or-found-requires : goal.fetch_or-found-requires
fetch_or-found-requires c =
    let here = ap (λ h. h.table) c.seat.view_is ∙ c.requires in
    let less : c.args.lock.0 < c.args.self.now.table.shared.table_id.words = search rules in
    let few : c.args.self.now.table.shared.table_id.words ≤ 64 = c.args.self.now.few in
    let long : length (watch_of c.seat.inside.observer.me.0).began ≡ 64 = ap length c.seat.invariant.began_is ∙ c.seat.invariant.flags.0 in
    (here, less, begin_allowed _ _ _ c.args.lock.0 (watch_of c.seat.inside.observer.me.0) _ c.seat.invariant.observes (subst (λ (z : ℕ). c.args.lock.0 < z) c.args.self.now.counted less) (omega arith))

pub invariant_of-seat : goal.invariant_of-seat
invariant_of-seat c =
    let w = watch_of c.seat.inside.observer.me.0 in
    let word = c.fetch_or-found.result in
    watching _ _ _ _ _ _ c.seat.invariant c.fetch_or-found.new.seat (record w { saw = slice_set w.saw c.args.lock.0 true }) _ _ _ c.fetch_or-found.ensures.0
    (ap (λ m. m.0) c.fetch_or-found.ensures.2.0 ∙ (ap (begun c.args.lock.0 word) c.seat.invariant.observes ∙ ap Observer (watch_taken c.args.lock.0 word w c.if-found-ne0.true)))
    c.seat.invariant.began_is
    (ap (λ (xs : List Bool). slice_set xs c.args.lock.0 true) c.seat.invariant.saw_is)
    c.seat.invariant.drained_is refl (length-set _ _ _) refl

pub returns-then-found-ne0-clause-reply : goal.returns-then-found-ne0-clause-reply
returns-then-found-ne0-clause-reply c =
    let w = watch_of c.seat.inside.observer.me.0 in
    let word = c.fetch_or-found.result in
    let lock = c.args.lock.0 in
    let now = ap watch_of (ap (λ m. m.0) c.fetch_or-found.ensures.2.0 ∙ (ap (begun lock word) c.seat.invariant.observes ∙ ap Observer (watch_taken lock word w c.if-found-ne0.true))) in (
      search rules,
      subst (λ (z : List (ℕ × ℕ)). Contains z (lock, c.args.tag)) (ap (λ h. h.held) c.seat.view_is) (contains_at _ _ _ c.in-Some.ensures.some),
      subst (λ (h : Holder). holder c.fetch_or-found.new.seat.table_id c.seat.inside.number (watch_of c.fetch_or-found.new.seat.me.0) (map pair_of c.seat.inside.held.items) (map view_of c.seat.inside.held.items) (map view_of c.seat.inside.idle.items)
          ≡ record h { watch = record h.watch { saw = slice_set h.watch.saw lock true } })
          c.seat.view_is
          (holder_watch _ _ _ _ _ _ _ _ c.fetch_or-found.ensures.0 now),
      (word, search rules, search rules),
    )

pub remove-requires : goal.remove-requires
remove-requires c = (omega arith, place_within _ _ _ c.in-Some.ensures.some)

pub invariant_of-seat-2 : goal.invariant_of-seat-2
invariant_of-seat-2 c =
    let w = watch_of c.seat.inside.observer.me.0 in
    let word = c.fetch_or-found.result in
    let place = c.in-Some.place in
    let here = ap (λ h. h.table) c.seat.view_is ∙ c.requires in
    let seated = watching _ _ _ _ _ _ c.seat.invariant c.fetch_or-found.new.seat (record w { began = slice_set w.began c.args.lock.0 true }) _ _ _ c.fetch_or-found.ensures.0
    (ap (λ m. m.0) c.fetch_or-found.ensures.2.0 ∙ (ap (begun c.args.lock.0 word) c.seat.invariant.observes ∙ ap Observer (watch_clear c.args.lock.0 word w c.if-found-ne0.false)))
    (ap (λ (xs : List Bool). slice_set xs c.args.lock.0 true) c.seat.invariant.began_is)
    c.seat.invariant.saw_is
    c.seat.invariant.drained_is (length-set _ _ _) refl refl in
    rw (c.push.ensures.items, c.remove.ensures.items) (to_idle _ _ _ _ _ _ seated place c.give-given.result (place_within _ place _ c.in-Some.ensures.some)
    (subst (λ (z : TableId). IsIdle z c.give-given.result) (sym (c.fetch_or-found.ensures.0 ∙ here)) c.give-given.ensures.stake))

pub returns-clause-reply : goal.returns-clause-reply
returns-clause-reply c =
    let w = watch_of c.seat.inside.observer.me.0 in
    let word = c.fetch_or-found.result in
    let lock = c.args.lock.0 in
    let place = c.in-Some.place in
    let held = c.remove.result in
    let given = c.give-given.result in
    let named = pair_removed c.seat.inside.held.items place held _ c.in-Some.ensures.some c.remove.ensures.value in
    let now = ap watch_of (ap (λ m. m.0) c.fetch_or-found.ensures.2.0 ∙ (ap (begun lock word) c.seat.invariant.observes ∙ ap Observer (watch_clear lock word w c.if-found-ne0.false))) in (
      search rules,
      now ∙ ap (λ h. record h.watch { began = slice_set h.watch.began lock true }) c.seat.view_is,
      (word, search rules, search rules),
      (
        place,
        view_of held,
        view_of given,
        subst (λ (p : ℕ × ℕ). StakeGave p.0 p.1 (view_of held) (view_of given)) named c.give-given.ensures.step,
        subst (λ (z : List (ℕ × ℕ)). slice_get z place ≡ Some (lock, c.args.tag)) (ap (λ h. h.held) c.seat.view_is) c.in-Some.ensures.some,
        subst (λ (z : List View). slice_get z place ≡ Some (view_of held)) (ap (λ h. h.held_views) c.seat.view_is)
            (map_at view_of c.seat.inside.held.items place held (place_within _ place _ c.in-Some.ensures.some) c.remove.ensures.value),
        one_gone pair_of _ c.remove.new.self.items _ place (ap (λ h. h.held) c.seat.view_is) c.remove.ensures.items,
        one_gone view_of _ c.remove.new.self.items _ place (ap (λ h. h.held_views) c.seat.view_is) c.remove.ensures.items,
        one_more view_of _ _ given c.push.ensures.items ∙ ap (λ (z : List View). z ++ view_of given ∷ []) (ap (λ h. h.idle_views) c.seat.view_is),
      ),
    )
