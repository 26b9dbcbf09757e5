use Rattle.std.proofs.Common.{arith, ◌+◌, ◌≤◌}
use Rattle.irp_types.specs.Packet.{size_of}
use Rattle.irp_unwind.proofs.Stays.{stays_up}
use Rattle.irp_unwind.proofs.SoundReached.{descent_sound}
use Rattle.irp_unwind.proofs.descent.descend.Goals as goal

pub returns-clause-stays : goal.returns-clause-stays
returns-clause-stays g c other =
    let within : c.args.packet.now.current ≤ size_of c.args.packet.now + 1 = omega (arith, c.current-current.ensures.current, c.current-current.ensures.within) in
    let descends = c.descend_from.ensures.descends in
    stays_up (g.A.Ask.tables c.args.ask.now) c.args.irp c.args.stacks.now.devices c.args.packet.now c.descend_from.new.packet c.args.target.0 descends.asked
    c.descend_from.result.status within descends.descended other

pub returns-clause-sound : goal.returns-clause-sound
returns-clause-sound g c uncancelled prepared sound =
    let ask = c.args.ask.now in
    let descends = c.descend_from.ensures.descends in
    descent_sound (g.A.Ask.tables ask) c.args.irp c.args.stacks.now.devices c.args.packet.now c.args.target.0 descends.asked c.descend_from.new.packet c.descend_from.result.status
    (g.met.A.Ask.tables_agree ask) sound prepared uncancelled descends.descended
