use Rattle.std.proofs.Common.{◌≡◌, ◌+◌, ◌∷◌, ◌++◌, ℕ, List, [], drop, get_or, refl, sym, subst, ap, ◌∙◌, inl, inr, arith, append_assoc, append-nil}
use Rattle.std.proofs.lemmas.Result.{err_from_is_err_and}
use Rattle.irp_plain.specs.declared.answered.Told.{Told}
use Rattle.irp_machine.specs.Answering.{IsToldAlong, news}
use Rattle.irp_machine.specs.Machine.{seat_at}
use Rattle.irp_machine.proofs.Later.{drop_here, drop_past}
use Rattle.irp_machine.proofs.Stuck.{Stops, stuck_of}
use Rattle.irp_machine.proofs.answering.told_along.Goals as goal

pub loop-seat-preserved : goal.loop-seat-preserved
loop-seat-preserved c =
    let machine = c.args.machine.now in
    let path = c.args.path.now in
    let place = c.loop-seat.seat-index in
    let before = c.loop-seat.standing in
    let after = c.in_ok-standing.standing in
    let seat = get_or path place 0 in
    let here : drop place path ≡ seat ∷ drop (place + 1) path = drop_here path place 0 (omega (arith, c.loop-seat-test.true)) in
    let fresh = news (seat_at before seat) (seat_at after seat) in
    record {
      rest = λ rest along.
          subst (λ (told : List Told). IsToldAlong machine c.args.start path told)
          (sym (append_assoc c.loop-seat.told.items fresh rest) ∙ ap (λ (told : List Told). told ++ rest) (sym c.in_ok-standing.ensures.told))
          (c.loop-seat.invariant.rest (fresh ++ rest)
          (subst (λ (path : List ℕ). IsToldAlong machine before path (fresh ++ rest)) (sym here)
          (after, rest, c.in_ok-standing.ensures.steps, along, refl)));
      stuck = λ stuck.
          c.loop-seat.invariant.stuck
          (subst (λ (path : List ℕ). Stops machine before path) (sym here) (inr (after, c.in_ok-standing.ensures.steps, stuck)));
    }

pub returns-clause-told : goal.returns-clause-told
returns-clause-told c =
    subst (λ (told : List Told). IsToldAlong c.args.machine.now c.args.start c.args.path.now told) (append-nil c.loop-seat.told.items)
    (c.loop-seat.invariant.rest []
    (subst (λ (path : List ℕ). IsToldAlong c.args.machine.now c.loop-seat.standing path [])
    (sym (drop_past c.args.path.now c.loop-seat.seat-index (omega (arith, c.loop-seat-test.false)))) refl))

pub returns-in_err-standing-clause-no_step : goal.returns-in_err-standing-clause-no_step
returns-in_err-standing-clause-no_step c =
    let path = c.args.path.now in
    let place = c.loop-seat.seat-index in
    let here : drop place path ≡ get_or path place 0 ∷ drop (place + 1) path = drop_here path place 0 (omega (arith, c.loop-seat-test.true)) in
    let p = err_from_is_err_and c.from_residual.result c.from_residual.ensures.1 in
    rw p.1 (λ same.
    stuck_of c.args.machine.now c.args.start c.args.path.now
    (c.loop-seat.invariant.stuck
    (subst (λ (path : List ℕ). Stops c.args.machine.now c.loop-seat.standing path) (sym here)
    (inl (c.in_err-standing.ensures.no_step (sym p.2 ∙ same))))))
