use Rattle.std.proofs.Common.{◌≡◌, Some, subst, sym}
use Rattle.std.specs.Prelude.{slice_get}
use Rattle.irp_script.specs.declared.binding.Binding.{Binding}
use Rattle.irp_script.specs.Labels.{Known}
use Rattle.irp_script.specs.Workers.{knowns_of}
use Rattle.irp_script.proofs.Readings.{bound_there}
use Rattle.irp_script.proofs.founded.is_founded.Goals as goal

pub returns-in-Some-written_at : goal.returns-in-Some-written_at
returns-in-Some-written_at g c same =
    let source = c.args.reading.source in
    subst (λ (binding : Binding). (one : Known) × (slice_get (knowns_of c.args.workers.now) source.worker ≡ Some one) × (slice_get one.written source.place ≡ Some (Some binding))) (c.is_binding.ensures same)
    (bound_there (λ worker. worker.known) c.args.workers.now source.worker source.place c.in-Some.worker.now c.in-Some-written_at.written c.in-Some.ensures.lookup.3.0 c.in-Some.ensures.lookup.1 (sym c.in-Some-written_at.ensures))
