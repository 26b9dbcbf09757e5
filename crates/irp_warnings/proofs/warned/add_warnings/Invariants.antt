use Rattle.irp_warnings.specs.Warned.{AreInOrder, Goes, place_in}
use Rattle.irp_warnings.proofs.warned.add_warnings.Given as goal

abbrev pub invariant-loop-index : goal.invariant-loop-index
invariant-loop-index l = record {
  goes : Goes l.script l.section l.fn.start l.fn.found.items l.index l.run l.found.items;
  order : AreInOrder l.script (place_in l.script l.section l.index) l.found.items;
}
