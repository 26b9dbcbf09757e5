use Rattle.std.proofs.Common.{◌≡◌, ◌+◌, ◌∷◌, ℕ, List, drop, get_or, refl, sym, subst, ◌∙◌, inl, inr, arith}
use Rattle.std.proofs.lemmas.Result.{err_from_is_err_and}
use Rattle.irp_machine.specs.Machine.{act_of}
use Rattle.irp_machine.specs.Replays.{Plays}
use Rattle.irp_machine.proofs.Histories.{step_made}
use Rattle.irp_machine.proofs.Later.{drop_here, drop_past}
use Rattle.irp_machine.proofs.Stuck.{Stops, stuck_of}
use Rattle.irp_machine.proofs.replaying.play_all.Goals as goal

pub loop-seat-init : goal.loop-seat-init
loop-seat-init c = record { rest = λ last all rest. rest; stuck = λ stuck. stuck; leads = c.requires }

pub loop-seat-preserved : goal.loop-seat-preserved
loop-seat-preserved c =
    let machine = c.args.machine.now in
    let path = c.args.path.now in
    let place = c.loop-seat.seat-index in
    let here : drop place path ≡ get_or path place 0 ∷ drop (place + 1) path = drop_here path place 0 (omega (arith, c.loop-seat-test.true)) in
    let steps =
    step_made machine c.loop-seat.standing c.loop-seat.entries.items c.play.new.entries.items (get_or path place 0)
    (act_of machine c.loop-seat.standing (get_or path place 0)) c.play.new.standing c.in_ok-play.ensures.plays in
    record {
      rest = λ last all rest.
          c.loop-seat.invariant.rest last all
          (subst (λ (path : List ℕ). Plays machine c.loop-seat.standing c.loop-seat.entries.items path last all) (sym here)
          (c.play.new.standing, c.play.new.entries.items, c.in_ok-play.ensures.plays, rest));
      stuck = λ stuck.
          c.loop-seat.invariant.stuck
          (subst (λ (path : List ℕ). Stops machine c.loop-seat.standing path) (sym here) (inr (c.play.new.standing, steps, stuck)));
      leads = c.in_ok-play.ensures.leads;
    }

pub returns-clause-plays : goal.returns-clause-plays
returns-clause-plays c =
    c.loop-seat.invariant.rest c.loop-seat.standing c.loop-seat.entries.items
    (subst (λ (path : List ℕ). Plays c.args.machine.now c.loop-seat.standing c.loop-seat.entries.items path c.loop-seat.standing c.loop-seat.entries.items)
    (sym (drop_past c.args.path.now c.loop-seat.seat-index (omega (arith, c.loop-seat-test.false)))) (refl, refl))

pub returns-clause-leads : goal.returns-clause-leads
returns-clause-leads c = c.loop-seat.invariant.leads

pub returns-in_err-play-clause-no_step : goal.returns-in_err-play-clause-no_step
returns-in_err-play-clause-no_step c =
    let path = c.args.path.now in
    let place = c.loop-seat.seat-index in
    let here : drop place path ≡ get_or path place 0 ∷ drop (place + 1) path = drop_here path place 0 (omega (arith, c.loop-seat-test.true)) in
    let p = err_from_is_err_and c.from_residual.result c.from_residual.ensures.1 in
    rw p.1 (λ same.
    stuck_of c.args.machine.now c.args.standing.now c.args.path.now
    (c.loop-seat.invariant.stuck
    (subst (λ (path : List ℕ). Stops c.args.machine.now c.loop-seat.standing path) (sym here)
    (inl (c.in_err-play.ensures.no_step (sym p.2 ∙ same))))))
