-- What the worker's own run says of its steps.
use Rattle.std.proofs.Common.{get_or, rules}
use Rattle.irp_script.specs.Stops.{terms_of}
use Rattle.irp_script.specs.Workers.{work_of}
use Rattle.irp_script.proofs.Numbers.{if_ok_on}
use Rattle.irp_script.specs.Working.{MakesOwn}
use Rattle.irp_script.proofs.run.run_all.Goals as goal

pub returns-clause-made : goal.returns-clause-made
returns-clause-made g c =
    if_ok_on c.map_vec.result (λ done each k one other lt.
    let here = (each k one (search rules)).1 in
    let made : MakesOwn (terms_of g.L.Session.fixed g.L.Session.may) here.job.number here.job.workers c.args.steps.now (work_of here.job) (work_of (get_or done.items k one)) (get_or done.items k one).stop = search rules in
    let is = here.job_is other in
    rw is made) c.map_vec.ensures.each
