-- One driver more is added, and the closures answer as before; at the end all are.
use Rattle.std.proofs.Common.{ℕ, List, ap, ap₂, subst, ◌∙◌}
use Rattle.irp_types.specs.declared.names.DispatchId.{DispatchId}
use Rattle.irp_types.specs.State.{Entrance, Tables}
use Rattle.irp_routines.specs.Tables.{by_major, with_driver}
use Rattle.irp_script.proofs.Told.{answers_kept, store_answers_so}
use Rattle.irpx.specs.Running.{AfterScript, and_drivers}
use Rattle.irp_streams.specs.Streams.{output_of}
use Rattle.irpx.proofs.Adding.{added, all_added, drivers_grow}
use Rattle.irpx.proofs.running.run_with_store.Goals as goal

pub loop-driver-preserved : goal.loop-driver-preserved
loop-driver-preserved g c = (
  added (λ (drivers : List (List Entrance)). and_drivers drivers c.args.store.tables) (λ (driver : List Entrance) (tables : Tables). with_driver tables (by_major driver))
      (drivers_grow c.args.store.tables) c.as_slice-drivers.result.now c.loop-driver.driver-index c.driver-item.result c.loop-driver-test.true
      c.loop-driver.store.tables c.add_driver.new.self.tables c.loop-driver.invariant.0
      (c.in-Ok-add_driver.ensures.added.1 ∙ ap (λ (driver : List Entrance). with_driver c.loop-driver.store.tables (by_major driver)) (c.in-Ok.ensures.items_if_clones_equal (λ one other same. ap₂ (λ (major : ℕ) (dispatch : DispatchId). (major, dispatch)) same.0 same.1) ∙ (c.as_slice.ensures ∙ c.driver-item.is))),
  (λ script before. answers_kept c.loop-driver.store c.add_driver.new.self script c.add_driver.ensures.others (c.loop-driver.invariant.1 script before)),
)

pub session-requires-clause-may : goal.session-requires-clause-may
session-requires-clause-may g c = λ _ _. store_answers_so c.loop-driver.store c.args.script.now (c.loop-driver.invariant.1 c.args.script.now c.requires)

pub returns : goal.returns
returns g c =
    subst (λ (tables : Tables). AfterScript c.args.workers.number c.args.script.now tables (output_of (g.O.Out.gone c.args.output.now) (g.O.Out.failures c.args.output.now)) (output_of (g.O.Out.gone c.write_finished.new.output) (g.O.Out.failures c.write_finished.new.output)) c.write_finished.result)
    (all_added (λ (drivers : List (List Entrance)). and_drivers drivers c.args.store.tables) c.as_slice-drivers.result.now c.loop-driver.driver-index c.loop-driver-test.false c.loop-driver.store.tables c.loop-driver.invariant.0
    ∙ ap (λ (drivers : List (List Entrance)). and_drivers drivers c.args.store.tables) c.as_slice-drivers.ensures)
    (c.write_finished.ensures c.args.workers.number c.args.script.now c.loop-driver.store.tables (record { run = c.in_ok-run.ensures.run; shows = c.in_ok-run.ensures.shows; ran = c.in_ok-run.ensures.ran }))
