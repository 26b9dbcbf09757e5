use Rattle.std.proofs.Common.{rules, ◌<◌, ℕ, Bool, List, true, slice_set, if◌then◌else◌, eq-eqb, ne_eqb, length-set, refl, ap, ◌∙◌, subst}
use Rattle.irp_remove.specs.Core.{looked, watch_looked}
use Rattle.irp_remove.specs.Seats.{watch_of}
use Rattle.irp_remove.proofs.Observing.{look_allowed}
use Rattle.irp_remove.proofs.Seating.{watching}
use Rattle.irp_remove.proofs.table.Locks.drained.Goals as goal

pub load-word-requires : goal.load-word-requires
load-word-requires c =
    let here = ap (λ h. h.table) c.seat.view_is ∙ c.requires in
    let less : c.args.lock.0 < c.args.self.now.table.shared.table_id.words = search rules in
    (here, less, look_allowed _ _ _ c.args.lock.0 (watch_of c.seat.inside.observer.me.0) _ c.seat.invariant.observes (subst (λ (z : ℕ). c.args.lock.0 < z) c.args.self.now.counted less))

pub invariant_of-seat : goal.invariant_of-seat
invariant_of-seat c =
    let w = watch_of c.seat.inside.observer.me.0 in
    watching _ _ _ _ _ _ c.seat.invariant c.load-word.new.seat (watch_looked c.args.lock.0 c.load-word.result w) _ _ _ c.load-word.ensures.0
    (ap (λ m. m.0) c.load-word.ensures.2.0 ∙ ap (looked c.args.lock.0 c.load-word.result) c.seat.invariant.observes)
    c.seat.invariant.began_is
    c.seat.invariant.saw_is
    (ap (λ (b : Bool). if b then slice_set w.drained c.args.lock.0 true else w.drained) (ne_eqb c.load-word.result 1 (search rules)) ∙ c.seat.invariant.drained_is) refl refl refl

pub invariant_of-seat-2 : goal.invariant_of-seat-2
invariant_of-seat-2 c =
    let w = watch_of c.seat.inside.observer.me.0 in
    watching _ _ _ _ _ _ c.seat.invariant c.load-word.new.seat (watch_looked c.args.lock.0 c.load-word.result w) _ _ _ c.load-word.ensures.0
    (ap (λ m. m.0) c.load-word.ensures.2.0 ∙ ap (looked c.args.lock.0 c.load-word.result) c.seat.invariant.observes)
    c.seat.invariant.began_is
    c.seat.invariant.saw_is
    (ap (λ (b : Bool). if b then slice_set w.drained c.args.lock.0 true else w.drained) (eq-eqb c.load-word.result 1 (search rules)) ∙ ap (λ (xs : List Bool). slice_set xs c.args.lock.0 true) c.seat.invariant.drained_is) refl refl (length-set _ _ _)
