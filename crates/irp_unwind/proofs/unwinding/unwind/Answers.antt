use Rattle.std.proofs.Common.{◌≤◌, subst}
use Rattle.irp_types.specs.Packet.{PacketValue}
use Rattle.irp_unwind.specs.Endings.{Unwinds}
use Rattle.irp_unwind.proofs.Bared.{unwinds_bared}
use Rattle.irp_unwind.proofs.Fit.{fit_of}
use Rattle.irp_unwind.proofs.SoundUnwound.{unwound_sound}
use Rattle.irp_unwind.proofs.unwinding.unwind.Goals as goal

pub returns-clause-unwinds : goal.returns-clause-unwinds
returns-clause-unwinds g c =
    let some : 1 ≤ c.args.packet.now.current = subst (λ (value : PacketValue). 1 ≤ value.current) c.clear_below.ensures.bared c.clear_below.ensures.bare.placed in
    unwinds_bared c.args.packet.now some c.requires.placed (g.A.Ask.may_answer c.args.ask.now) c.args.irp c.unwind_from.new.packet
    c.args.asked.now.items c.unwind_from.new.asked.items c.unwind_from.result
    (subst (λ value. Unwinds (g.A.Ask.may_answer c.args.ask.now) c.args.irp value c.unwind_from.new.packet c.args.asked.now.items c.unwind_from.new.asked.items c.unwind_from.result)
    c.clear_below.ensures.bared c.unwind_from.ensures.unwinds)

pub returns-clause-sound : goal.returns-clause-sound
returns-clause-sound g c uncancelled unslotted sound =
    let counts = (g.A.Ask.tables c.args.ask.now).counts in
    let packet = c.args.packet.now in
    let unwinds = returns-clause-unwinds g c in
    unwound_sound counts c.args.irp packet unwinds.asked c.unwind_from.new.packet (fit_of counts packet sound c.requires.placed) unwinds.unwound uncancelled unslotted
