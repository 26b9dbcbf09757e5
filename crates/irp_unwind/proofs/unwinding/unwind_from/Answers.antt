use Rattle.std.proofs.Common.{rules, arith, ◌≡◌, ◌+◌, ◌<◌, ◌≤◌, true, false, is_some, sym, ◌∙◌, ap, subst, vec_len, vec_capacity}
use Rattle.irp_types.specs.Packet.{PacketValue, size_of}
use Rattle.irp_types.specs.Unwinding.{device_above, owner_from}
use Rattle.irp_types.specs.declared.location.Owner.{Owner}
use Rattle.irp_types.specs.declared.location.Owner.TheVariants.{Ended as OwnedByNobody}
use Rattle.irp_unwind.specs.declared.ending.Ending.TheVariants.{Kept, Ended}
use Rattle.irp_unwind.specs.Conditions.{HasDevices, HasRoutines}
use Rattle.irp_unwind.specs.Turns.{left_packet, IsBare}
use Rattle.irp_unwind.specs.Endings.{Unwinds}
use Rattle.irp_unwind.proofs.Left.{bare_left, length_left}
use Rattle.irp_unwind.proofs.Steps.{mark_on, finish_kept, finish_top, continues, devices_left, routines_left}
use Rattle.irp_unwind.proofs.unwinding.unwind_from.Goals as goal

pub returns-then-kept-clause-unwinds : goal.returns-then-kept-clause-unwinds
returns-then-kept-clause-unwinds g c =
    let here = c.loop-irp.invariant in
    let packet = c.loop-irp.packet in
    let before = c.loop-irp.asked.items in
    let after = c.consult-answer.new.asked.items in
    let answer = c.consult-answer.result in
    let may = g.A.Ask.may_answer c.args.ask.now in
    let above : c.device_above-above.result ≡ device_above packet packet.current = c.device_above-above.ensures ∙ ap (device_above packet) c.current-number.ensures.current in
    let own : c.owner_from-owner.result ≡ owner_from (device_above packet packet.current) = c.owner_from-owner.ensures ∙ ap owner_from above in
    let new : c.set_owner.new.self ≡ record (left_packet packet answer) { owner = owner_from (device_above packet packet.current) } =
    c.set_owner.ensures ∙ (λ i. record (c.leave.ensures i) { owner = own i }) in
    let keeps : answer.keep ≡ true = grind rules in
    let all = finish_kept may c.args.irp packet before after answer here.bare here.placed c.consult-answer.ensures.consulted c.consult-answer.ensures.mark keeps in
    here.goes_on c.set_owner.new.self after (Kept c.owner_from-owner.result)
    (subst (λ (both : PacketValue × Owner). Unwinds may c.args.irp packet both.0 before after (Kept both.1)) (λ i. (sym new i, sym own i)) all)

pub returns-then-number-size-clause-unwinds : goal.returns-then-number-size-clause-unwinds
returns-then-number-size-clause-unwinds g c =
    let here = c.loop-irp.invariant in
    let packet = c.loop-irp.packet in
    let before = c.loop-irp.asked.items in
    let after = c.consult-answer.new.asked.items in
    let answer = c.consult-answer.result in
    let may = g.A.Ask.may_answer c.args.ask.now in
    let left : size_of c.leave.new.packet ≡ size_of packet = ap (λ (value : PacketValue). size_of value) c.leave.ensures ∙ length_left packet answer.mark in
    let top : packet.current ≡ size_of packet = omega (arith, c.current-number.ensures.current, c.size.ensures.size, c.if-number-size.true) in
    let new : c.set_owner-then-number-size.new.self ≡ record (left_packet packet answer) { owner = OwnedByNobody } =
    c.set_owner-then-number-size.ensures ∙ (λ i. record (c.leave.ensures i) { owner = OwnedByNobody }) in
    let goes_on : answer.keep ≡ false = grind rules in
    let all = finish_top may c.args.irp packet before after answer here.bare top c.consult-answer.ensures.consulted c.consult-answer.ensures.mark goes_on in
    here.goes_on c.set_owner-then-number-size.new.self after Ended
    (subst (λ value. Unwinds may c.args.irp packet value before after Ended) (sym new) all)

pub loop-irp-preserved : goal.loop-irp-preserved
loop-irp-preserved g c =
    let here = c.loop-irp.invariant in
    let packet = c.loop-irp.packet in
    let before = c.loop-irp.asked.items in
    let between = c.consult-answer.new.asked.items in
    let answer = c.consult-answer.result in
    let may = g.A.Ask.may_answer c.args.ask.now in
    let counts = (g.A.Ask.tables c.args.ask.now).counts in
    let size : size_of c.leave.new.packet ≡ size_of packet = ap (λ (value : PacketValue). size_of value) c.leave.ensures ∙ length_left packet answer.mark in
    let below : packet.current < size_of packet = omega (arith, here.placed, c.current-number.ensures.current, c.size.ensures.size, c.if-number-size.false) in
    let above : is_some (device_above packet packet.current) ≡ true = here.devices.there (packet.current + 1) (omega arith) (omega arith) in
    let goes_on : answer.keep ≡ false = grind rules in
    let mark = mark_on packet answer c.consult-answer.ensures.mark goes_on above in
    let left = sym c.leave.ensures in
    let current : c.leave.new.packet.current ≡ packet.current + 1 = ap (λ (value : PacketValue). value.current) c.leave.ensures in
    let listed : vec_len c.consult-answer.new.asked ≤ vec_len c.loop-irp.asked + 1 = c.consult-answer.ensures.length in
    let capacity : vec_capacity c.consult-answer.new.asked ≡ vec_capacity c.loop-irp.asked = c.consult-answer.ensures.capacity in
    record {
      bare = subst IsBare left (bare_left packet answer here.bare here.placed);
      placed = omega (arith, current, size, below);
      devices = subst (λ (value : PacketValue). HasDevices value (value.current + 1)) left (devices_left packet answer here.bare below mark here.devices);
      routines = subst (λ (value : PacketValue). HasRoutines counts value value.current) left (routines_left counts packet answer here.bare below mark here.routines);
      room = omega (arith, here.room, current, size, below, listed, capacity);
      capacity = capacity ∙ here.capacity;
      goes_on = λ new after ending unwinds.
          here.goes_on new after ending
          (continues may c.args.irp packet before between after answer new ending here.bare here.devices below c.consult-answer.ensures.consulted c.consult-answer.ensures.mark goes_on
          (subst (λ value. Unwinds may c.args.irp value new between after ending) c.leave.ensures unwinds));
    }
