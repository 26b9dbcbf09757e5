use Rattle.std.proofs.Common.{refl, ◌∙◌, rules}
use Rattle.irp_script.specs.Stops.{terms_of}
use Rattle.irp_script.proofs.Entering.{admits_next}
use Rattle.irp_script.proofs.Stopping.{stops_own, when_ok}
use Rattle.irp_script.proofs.Working.{makes_more}
use Rattle.irp_script.proofs.worker.Worker.run.Goals as goal

pub loop-index-init : goal.loop-index-init
loop-index-init g c = record { number = refl; workers = refl; stop = refl; locks = refl; made = refl }

pub loop-index-preserved : goal.loop-index-preserved
loop-index-preserved g c = record {
  number = c.turn.ensures.same.0 ∙ c.loop-index.invariant.number;
  workers = c.turn.ensures.same.1 ∙ c.loop-index.invariant.workers;
  stop = c.turn.ensures.same.2 ∙ c.loop-index.invariant.stop;
  locks = c.turn.ensures.same.3 ∙ c.loop-index.invariant.locks;
  made = makes_more _ _ _ c.args.steps.now c.loop-index.index _ _ _ _ _ _ (search rules) c.loop-index.invariant.made c.loop-index.invariant.number c.loop-index.invariant.workers (when_ok _ c.turn.result c.in_default.not-Err c.turn.ensures.turned);
}

pub turn-requires : goal.turn-requires
turn-requires g c =
    admits_next (g.G.StepGate.admits c.args.gate.now) _ _ _ c.args.steps.now _ _ c.loop-index.index _ _ _ (search rules) c.requires
    c.loop-index.invariant.made c.loop-index.invariant.number c.loop-index.invariant.workers

pub returns-in-Err-clause-made : goal.returns-in-Err-clause-made
returns-in-Err-clause-made g c =
    stops_own (terms_of g.L.Session.fixed g.L.Session.may) _ _ _ c.loop-index.index _ _ _ _ _ _ c.in-Err.stop _ (search rules) c.loop-index.invariant.made c.loop-index.invariant.number c.loop-index.invariant.workers
    c.in-Err.ensures.stayed.0 c.in-Err.ensures.stayed.1 refl
