use Rattle.std.proofs.Common.{map}
use Rattle.irp_grammar.specs.Showing.{shown}
use Rattle.irp_grammar.proofs.Taking.{read_whole}
use Rattle.irp_grammar.proofs.read.read_text.Goals as goal

pub returns : goal.returns
returns c =
    let one = rw c.as_slice.ensures.value at c.in_ok-take_lines.ensures in
    let other = rw c.as_slice-2.ensures.value at c.in_ok-take_lines-2.ensures in
    read_whole c.args.text.now (map shown c.in_ok-lines.lines.items) c.new-said.result c.take_lines.new.self
    c.take_lines-2.new.self c.note_slots.new.self c.order_faults.new.self c.in_ok-lines.ensures c.new-said.ensures
    one other c.in_ok-note_slots.ensures c.in_ok-order_faults.ensures
