use Rattle.std.proofs.Common.{◌≡◌, ◌<◌, length, map, refl, sym, ap, ap₂, inl, ◌∙◌, rules}
use Rattle.std.proofs.lemmas.List.{length-map, with_items_is}
use Rattle.std.specs.Vec.{with_item, with_items}
use Rattle.irp_script.specs.Seats.{number_of, seat_at_work, seats_at_work}
use Rattle.irp_script.specs.Stops.{terms_of}
use Rattle.irp_script.specs.declared.stop.StopReason.TheVariants.{NoSeat}
use Rattle.irp_script.specs.Working.{caught_up, news}
use Rattle.irp_script.proofs.Places.{told_at}
use Rattle.irp_steps.specs.StepKinds.{kind_of}
use Rattle.irp_script.proofs.Stopping.{by_alone, no_seat, none_of_them}
use Rattle.irp_script.proofs.Working.{made_none, made_one}
use Rattle.irp_script.proofs.worker.Worker.step.Goals as goal

pub returns-in-Ok-clause-made : goal.returns-in-Ok-clause-made
returns-in-Ok-clause-made g c =
    let within : c.in-Some.at < length c.args.self.now.seats.items = search rules in
    let own = told_at number_of c.args.self.now.seats.items c.in-Some.at c.args.step.seat c.index_mut-own.result.now c.in-Some.ensures.some c.index_mut-own.ensures.value within in
    let changed = with_item c.args.self.now.seats c.in-Some.at c.step-made.new.self in
    let whole : (with_items changed c.all_saw.new.seats).items ≡ c.all_saw.new.seats =
    with_items_is changed c.all_saw.new.seats
    (sym (length-map c.all_saw.new.seats seat_at_work) ∙ ap length c.all_saw.ensures.saw
    ∙ length-map (seats_at_work c.as_mut_slice.result.now) (caught_up c.news-length.result)
    ∙ length-map c.as_mut_slice.result.now seat_at_work ∙ c.as_mut_slice.ensures.len) in
    made_one seat_at_work c.args.self.now.seats.items (with_items changed c.all_saw.new.seats).items c.in-Some.at c.step-made.new.self c.index_mut-own.result.now _ _ _ _ _ _ _ _ c.args.step c.in-Ok.answer c.news-length.result
    within c.index_mut-own.ensures.value own
    (c.news-length.ensures ∙ ap₂ news c.seen-before.ensures c.seen.ensures)
    (ap seats_at_work whole ∙ c.all_saw.ensures.saw ∙ ap (λ seats. map (caught_up c.news-length.result) (seats_at_work seats)) c.as_mut_slice.ensures.value)
    c.in-Ok.ensures.does
    c.keep.ensures

pub returns-in-Err-clause-made : goal.returns-in-Err-clause-made
returns-in-Err-clause-made g c =
    let within : c.in-Some.at < length c.args.self.now.seats.items = search rules in
    let own = told_at number_of c.args.self.now.seats.items c.in-Some.at c.args.step.seat c.index_mut-own.result.now c.in-Some.ensures.some c.index_mut-own.ensures.value within in
    let changed = with_item c.args.self.now.seats c.in-Some.at c.step-made.new.self in
    let whole : (with_items changed c.all_saw.new.seats).items ≡ c.all_saw.new.seats =
    with_items_is changed c.all_saw.new.seats
    (sym (length-map c.all_saw.new.seats seat_at_work) ∙ ap length c.all_saw.ensures.saw
    ∙ length-map (seats_at_work c.as_mut_slice.result.now) (caught_up c.news-length.result)
    ∙ length-map c.as_mut_slice.result.now seat_at_work ∙ c.as_mut_slice.ensures.len) in
    made_none (terms_of g.L.Session.fixed g.L.Session.may) seat_at_work c.args.self.now.seats.items (with_items changed c.all_saw.new.seats).items c.in-Some.at c.step-made.new.self c.index_mut-own.result.now _ _ _ _ _ c.args.step c.in-Err.reason c.news-length.result
    within c.index_mut-own.ensures.value own
    (c.news-length.ensures ∙ ap₂ news c.seen-before.ensures c.seen.ensures)
    (ap seats_at_work whole ∙ c.all_saw.ensures.saw ∙ ap (λ seats. map (caught_up c.news-length.result) (seats_at_work seats)) c.as_mut_slice.ensures.value)
    c.in-Err.ensures.unlearnt
    c.in-Err.ensures.does

pub returns-in_default-place_of-clause-made : goal.returns-in_default-place_of-clause-made
returns-in_default-place_of-clause-made g c = (
  refl,
  by_alone (terms_of g.L.Session.fixed g.L.Session.may) c.args.step (kind_of c.args.step.act) (seats_at_work c.args.self.now.seats.items) NoSeat
      (λ hand is. c.in_default.not-Hands hand (c.kind_of.ensures ∙ is))
      (inl (refl, no_seat seat_at_work c.args.self.now.seats.items c.args.step.seat (none_of_them c.place_of.result c.in_default-place_of.is c.place_of.ensures.none))),
)
