use Rattle.std.proofs.Common.{◌≡◌, ◌<◌, ◌-◌, ℕ, List, Some, subst}
use Rattle.std.specs.Prelude.{slice_get}
use Rattle.std.proofs.lemmas.Result.{err_from_is_err_and}
use Rattle.irp_machine.specs.Replays.{IsReplay, StopsShort}
use Rattle.irp_machine.specs.declared.limits.NotMade.TheVariants as made
use Rattle.irp_orders.specs.declared.found.Found.{Found}
use Rattle.irp_orders.proofs.Showing.{shows_row, unmade_up}
use Rattle.irp_orders.proofs.answering.shown.Goals as goal

pub returns-in_err-replay-clause-unshown : goal.returns-in_err-replay-clause-unshown
returns-in_err-replay-clause-unshown c =
    let stands : (0 < c.args.number) × (slice_get c.in_ok-rows.rows.items (c.args.number - 1) ≡ Some c.in_ok-row.row.now) =
    subst (λ (rows : List Found). (0 < c.args.number) × (slice_get rows (c.args.number - 1) ≡ Some c.in_ok-row.row.now)) c.as_slice.ensures.value c.in_ok-row.ensures.row in
    let stops : c.in_err-replay.field-0.0 ≡ made.NoStep → StopsShort c.args.script.now c.in_ok-row.row.now.outcome.path.items =
    subst (λ (path : List ℕ). c.in_err-replay.field-0.0 ≡ made.NoStep → StopsShort c.args.script.now path) c.as_slice-2.ensures.value c.in_err-replay.ensures.no_step in
    let passed = err_from_is_err_and c.from_residual-in_err-replay.result c.from_residual-in_err-replay.ensures.1 in
    rw (passed.1, passed.2)
    (unmade_up c.args.script.now c.args.order.now c.args.number c.in_ok-rows.rows.items c.in_ok-row.row.now c.in_err-replay.field-0.0
    c.in_ok-rows.ensures.rows stands stops c.paths_can_be_made.ensures)

pub returns-clause-shown : goal.returns-clause-shown
returns-clause-shown c =
    let stands : (0 < c.args.number) × (slice_get c.in_ok-rows.rows.items (c.args.number - 1) ≡ Some c.in_ok-row.row.now) =
    subst (λ (rows : List Found). (0 < c.args.number) × (slice_get rows (c.args.number - 1) ≡ Some c.in_ok-row.row.now)) c.as_slice.ensures.value c.in_ok-row.ensures.row in
    shows_row c.args.script.now c.args.order.now c.args.number c.in_ok-replay.field-0 c.in_ok-rows.rows.items c.in_ok-row.row.now c.in_ok-rows.ensures.rows stands
    (subst (λ (path : List ℕ). IsReplay c.args.script.now path c.in_ok-replay.field-0) c.as_slice-2.ensures.value c.in_ok-replay.ensures.replay)
    c.replays_end_so.ensures
