use Rattle.std.proofs.Common.{◌≡◌, take}
use Rattle.irp_script.specs.Workers.{work_of}
use Rattle.irp_script.specs.Outcomes.{own_placed}
use Rattle.irp_script.specs.Working.{MakesEach}
use Rattle.irp_script.proofs.worker.Worker.run.Given as goal

-- it has made its own among the steps so far
abbrev pub invariant-loop-index : goal.invariant-loop-index
invariant-loop-index g l = record {
  number : l.self.number ≡ l.fn.self.number;
  workers : l.self.workers ≡ l.fn.self.workers;
  stop : l.self.stop ≡ l.fn.self.stop;
  locks : l.self.locks.now ≡ l.fn.self.locks.now;
  made : MakesEach g.L.Session.fixed.locks (own_placed l.fn.self.number l.fn.self.workers (take l.index l.steps)) (work_of l.fn.self) (work_of l.self);
}
