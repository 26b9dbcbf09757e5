use Rattle.std.proofs.Common.{arith, length, subst, List, ◌<◌}
use Rattle.irp_script_reader.specs.declared.act.Step.{Step}
use Rattle.irp_warnings.proofs.Ordered.{goes_on, told_more}
use Rattle.irp_warnings.proofs.warned.add_warnings.Goals as goal

pub loop-index-preserved : goal.loop-index-preserved
loop-index-preserved c =
    let script = c.args.script.now in
    let section = c.args.section in
    let index = c.loop-index.index in
    let old = c.loop-index.found.items in
    let new = c.add_warning.new.found.items in
    let concern = c.concern_of-concern.result in
    let steps = c.steps_in-steps.result.now in
    let few : index < length steps = omega (arith, c.loop-index-test.true) in
    let there = subst (λ (steps : List Step). index < length steps) c.steps_in-steps.ensures few in
    record {
      goes = goes_on script section c.args.start c.loop-index.run c.in_ok-next.next c.args.found.now.items old new c.deref.result.now steps
          index _ c.in_ok-next.answer concern c.steps_in-steps.ensures few c.in_ok-next.ensures c.deref.ensures.value
          c.concern_of-concern.ensures c.in_ok-add_warning.ensures c.loop-index.invariant.goes;
      order = told_more script section index concern old new there c.in_ok-add_warning.ensures c.loop-index.invariant.order;
    }
