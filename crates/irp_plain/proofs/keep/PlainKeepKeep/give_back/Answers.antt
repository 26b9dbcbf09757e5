use Rattle.std.proofs.Common.{arith, ap, ◌∙◌, length, List, Option}
use Rattle.std.specs.FinMap as fin
use Rattle.irp_types.specs.State.{LivePacket}
use Rattle.irp_manager.specs.Slots.{live_of}
use Rattle.irp_plain.proofs.KeepMaps.{emptied, none_emptied}
use Rattle.irp_plain.proofs.keep.PlainKeepKeep.give_back.Goals as goal

pub returns-then-slot-len-clause-gone : goal.returns-then-slot-len-clause-gone
returns-then-slot-len-clause-gone c =
    emptied c.self.inside.places.items c.args.slot (omega (arith, c.if-slot-len.true, c.len.ensures))
    ∙ ap (λ (places : List (Option LivePacket)). fin.remove (live_of places) c.args.slot) c.self.view_is

pub returns-else-slot-len-clause-gone : goal.returns-else-slot-len-clause-gone
returns-else-slot-len-clause-gone c = none_emptied c.args.self.now c.args.slot (omega (arith, c.if-slot-len.false, c.len.ensures, ap length c.self.view_is))

pub returns-then-slot-len-clause-gave : goal.returns-then-slot-len-clause-gave
returns-then-slot-len-clause-gave c =
    emptied c.self.inside.places.items c.args.slot (omega (arith, c.if-slot-len.true, c.len.ensures))
    ∙ ap (λ (places : List (Option LivePacket)). fin.remove (live_of places) c.args.slot) c.self.view_is

pub returns-else-slot-len-clause-gave : goal.returns-else-slot-len-clause-gave
returns-else-slot-len-clause-gave c = none_emptied c.args.self.now c.args.slot (omega (arith, c.if-slot-len.false, c.len.ensures, ap length c.self.view_is))
