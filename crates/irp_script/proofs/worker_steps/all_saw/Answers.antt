use Rattle.std.proofs.Common.{◌<◌, ◌≤◌, length, get_or, refl, ◌∙◌, rules, arith}
use Rattle.std.proofs.lemmas.List.{get_or-set_other, get_or_default, length-set}
use Rattle.irp_script.specs.Seats.{seat_at_work}
use Rattle.irp_script.proofs.Showing.{saw_all, saw_more}
use Rattle.irp_script.proofs.worker_steps.all_saw.Goals as goal

pub loop-own-init : goal.loop-own-init
loop-own-init g c = record { many = refl; saw = λ k one less. absurd (omega (arith, less)); rest = λ k one le. refl }

pub loop-own-preserved : goal.loop-own-preserved
loop-own-preserved g c =
    let within : c.loop-own.own-index < length c.loop-own.seats = search rules in
    let old = get_or c.loop-own.seats c.loop-own.own-index c.own-item.result in
    record {
      many = length-set c.loop-own.seats c.loop-own.own-index c.saw.new.self ∙ c.loop-own.invariant.many;
      saw = saw_more seat_at_work c.args.length c.loop-own.own-index c.args.seats.now c.loop-own.seats old c.saw.new.self within (get_or_default c.loop-own.seats c.loop-own.own-index c.own-item.result old within) c.saw.ensures c.loop-own.invariant.saw c.loop-own.invariant.rest;
      rest = λ k one le. get_or-set_other c.loop-own.seats c.loop-own.own-index k c.saw.new.self one (λ is. absurd (omega (arith, is, le))) ∙ c.loop-own.invariant.rest k one (omega (arith, le));
    }

pub returns-clause-saw : goal.returns-clause-saw
returns-clause-saw g c =
    let over : length c.loop-own.seats ≤ c.loop-own.own-index = search rules in
    saw_all seat_at_work c.args.length c.args.seats.now c.loop-own.seats c.loop-own.invariant.many (λ k one lt. c.loop-own.invariant.saw k one (omega (arith, lt, over)))
