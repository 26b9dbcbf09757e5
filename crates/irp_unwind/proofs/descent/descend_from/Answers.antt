use Rattle.std.proofs.Common.{arith, ◌≡◌, ◌+◌, ◌≤◌, ◌||◌, true, false, cond, sym, ◌∙◌, ap, subst, vec_len}
use Rattle.std.specs.Option.{option_map_or}
use Rattle.irp_types.specs.Status.{pending}
use Rattle.irp_types.specs.Descent.{Frame, plans, is_copying, is_passing, marks_location, first_location}
use Rattle.irp_types.specs.declared.status.Status.{Status}
use Rattle.irp_routines.specs.Answers.{IsAnswered}
use Rattle.irp_unwind.specs.Devices.{frame_at, IsPlannedHere, EndsHere}
use Rattle.irp_unwind.specs.Descents.{Descends}
use Rattle.irp_unwind.specs.declared.ending.Sent.{Sent}
use Rattle.irp_unwind.proofs.SetKnown.{routines_sent}
use Rattle.irp_unwind.proofs.GoesOn.{ends_here, goes_to, goes_on, planned_first, devices_sent, at_most_one, reply_above, or_cond}
use Rattle.irp_unwind.proofs.descent.descend_from.Goals as goal
use Rattle.irp_unwind.proofs.descent.descend_from.Goals.{then-is_marked, else-is_marked}

pub returns-then-not-is_passing-clause-descends : goal.returns-then-not-is_passing-clause-descends
returns-then-not-is_passing-clause-descends g c =
    let ask = c.args.ask.now in
    let here = c.loop-packet.invariant in
    let packet = c.loop-packet.packet in
    let before = c.loop-packet.asked.items in
    let device = c.loop-packet.device.0 in
    let devices = c.args.stacks.now.devices in
    let plan = c.ask_plan-plan.result in
    let between = c.ask_plan-plan.new.asked.items in
    let after = c.end_at-sent.new.asked.items in
    let may = IsAnswered (g.A.Ask.may_plan ask) (g.A.Ask.may_answer ask) (g.A.Ask.may_cancel ask) in
    let low : 2 ≤ packet.current = omega (arith, here.deep) in
    let stops : option_map_or is_passing plan false ≡ false = sym c.is_passing.ensures ∙ c.if-not-is_passing.true in
    let planned = subst (λ value. IsPlannedHere may (g.A.Ask.tables ask) c.args.irp devices value (frame_at value device plan) before between) c.enter.ensures c.ask_plan-plan.ensures.planned in
    let ends = subst (λ value. EndsHere (g.A.Ask.may_answer ask) c.args.irp value device plan c.end_at-sent.new.packet between after c.end_at-sent.result.ending) c.enter.ensures c.end_at-sent.ensures.ends in
    let all = ends_here (g.A.Ask.may_plan ask) (g.A.Ask.may_answer ask) (g.A.Ask.may_cancel ask) (g.A.Ask.tables ask) c.args.irp devices packet before device plan
    c.end_at-sent.new.packet between after c.end_at-sent.result low here.within c.requires.stacked here.created stops planned ends c.end_at-sent.ensures.status in
    subst (λ (sent : Sent). Descends may (g.A.Ask.tables ask) c.args.irp devices c.args.packet.now c.args.target.0 c.end_at-sent.new.packet c.args.asked.now.items after sent)
    (sym c.reply_above.ensures) (here.goes_on c.end_at-sent.new.packet after c.end_at-sent.result all)

pub loop-packet-smaller : goal.loop-packet-smaller
loop-packet-smaller g c =
    let ask = c.args.ask.now in
    let here = c.loop-packet.invariant in
    let plan = c.ask_plan-plan.result in
    let passes : option_map_or is_passing plan false ≡ true = sym c.is_passing.ensures ∙ c.if-not-is_passing.false in
    let to = goes_to (g.A.Ask.may_plan ask) (g.A.Ask.may_answer ask) (g.A.Ask.may_cancel ask) (g.A.Ask.tables ask) c.args.irp c.args.stacks.now.devices c.loop-packet.packet c.loop-packet.asked.items
    c.loop-packet.device c.device_below-device.result.0 plan c.enter.new.self c.pass_on.new.packet c.ask_plan-plan.new.asked.items
    here.deep here.within c.requires.stacked here.created c.device_below-device.ensures passes c.enter.ensures c.ask_plan-plan.ensures.planned c.pass_on.ensures in
    omega (arith, to.below.depth)

pub loop-packet-preserved : goal.loop-packet-preserved
loop-packet-preserved g c =
    let ask = c.args.ask.now in
    let here = c.loop-packet.invariant in
    let packet = c.loop-packet.packet in
    let before = c.loop-packet.asked.items in
    let device = c.loop-packet.device in
    let lower = c.device_below-device.result.0 in
    let devices = c.args.stacks.now.devices in
    let plan = c.ask_plan-plan.result in
    let between = c.ask_plan-plan.new.asked.items in
    let next = c.pass_on.new.packet in
    let tables = g.A.Ask.tables ask in
    let may = IsAnswered (g.A.Ask.may_plan ask) (g.A.Ask.may_answer ask) (g.A.Ask.may_cancel ask) in
    let passes : option_map_or is_passing plan false ≡ true = sym c.is_passing.ensures ∙ c.if-not-is_passing.false in
    let to = goes_to (g.A.Ask.may_plan ask) (g.A.Ask.may_answer ask) (g.A.Ask.may_cancel ask) tables c.args.irp devices packet before
    device lower plan c.enter.new.self next between
    here.deep here.within c.requires.stacked here.created c.device_below-device.ensures passes c.enter.ensures c.ask_plan-plan.ensures.planned c.pass_on.ensures in
    let frame : Frame = record { device = device.0; location = first_location packet; plan = plan } in
    let first = planned_first (g.A.Ask.may_plan ask) (g.A.Ask.may_answer ask) (g.A.Ask.may_cancel ask) tables c.args.irp devices packet before device.0 plan between to.low to.high to.here in
    let one : cond (plans is_copying frame) 1 0 ≤ 1 = at_most_one (plans is_copying frame) in
    let listed : vec_len c.ask_plan-plan.new.asked ≤ vec_len c.loop-packet.asked + 1 = c.ask_plan-plan.ensures.length in
    let sent = to.sent in
    let below = to.below in
    let marks = plans marks_location frame in
    let marked : c.if-is_marked.is_marked ≡ (c.loop-packet.is_marked || marks) =
    elim c.if-is_marked.branch [
      | then-is_marked w ↦ w.is_marked-is ∙ w.if-is_marked.true ∙ sym (ap (λ above. above || marks) w.if-is_marked.true)
      | else-is_marked w ↦ w.is_marked-is ∙ w.marks_location-is_marked.ensures ∙ sym (ap (λ above. above || marks) w.if-is_marked.false)
    ] in
    record {
      created = below.created;
      deep = omega (arith, sent.first, sent.low, below.depth, here.deep);
      within = omega (arith, sent.first, sent.low, sent.size, here.within);
      placed = devices_sent packet next frame sent here.placed;
      routines = routines_sent tables c.args.irp packet next devices frame (g.met.A.Ask.tables_agree ask) first.planned sent here.routines;
      room = omega (arith, here.room, here.deep, here.within, one, listed, c.ask_plan-plan.ensures.capacity, sent.first, sent.low, below.depth, sent.size);
      capacity = c.ask_plan-plan.ensures.capacity ∙ here.capacity;
      goes_on = λ new after rest descends.
          subst (λ (status : Status). Descends may tables c.args.irp devices c.args.packet.now c.args.target.0 new c.args.asked.now.items after (record rest { status = status }))
          (or_cond c.loop-packet.is_marked marks pending rest.status ∙ ap (λ above. cond above pending rest.status) (sym marked))
          (here.goes_on new after (reply_above (g.A.Ask.may_plan ask) (g.A.Ask.may_answer ask) (g.A.Ask.may_cancel ask) tables c.args.irp devices packet before device.0 plan rest)
          (goes_on (g.A.Ask.may_plan ask) (g.A.Ask.may_answer ask) (g.A.Ask.may_cancel ask) tables c.args.irp devices packet before
          device.0 lower plan next new between after rest to descends));
    }
