use Rattle.irp_text_faults.proofs.Placing.{placed_behind}
use Rattle.irp_text_faults.proofs.fault.add_fault.Goals as goal

pub returns : goal.returns
returns c = λ before. placed_behind c.args.text.now c.args.more.now.items c.push.new.self.items
    c.in_ok-fault_of.field-0 c.in_ok-push.ensures.items before c.in_ok-fault_of.ensures.placed
