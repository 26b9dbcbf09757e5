-- A span is told where both parts are places in order, and nowhere else.
use Rattle.std.proofs.Common.{arith, ◌<◌, ◌≤◌, IfSome, sym, subst}
use Rattle.irp_view.specs.Spans.{OrNone, IsParted, IsSpan, last_place}
use Rattle.irp_view.proofs.Cuts.{found_place, no_place, parts_are, place_is, span_is_parted}
use Rattle.irp_view.proofs.spans.span_in.Goals as goal

pub returns-in_err-from : goal.returns-in_err-from
returns-in_err-from c =
    subst (OrNone (IsSpan c.args.text.now)) (sym c.from_residual.ensures)
    (λ span is. c.parts.ensures.none c.in_err-from.was is.from is.to (span_is_parted c.args.text.now span is))

pub returns-in_err-from-2 : goal.returns-in_err-from-2
returns-in_err-from-2 c =
    subst (OrNone (IsSpan c.args.text.now)) (sym c.from_residual-in_err-from-2.ensures)
    (λ span is. no_place 0 c.in_ok-from.from.now c.place.result c.place.ensures c.in_err-from-2.was span.from
    (parts_are c.args.text.now c.parts.result (c.in_ok-from.from, c.in_ok-from.to) span is c.parts.ensures.alone c.in_ok-from.was).0)

pub returns-in_err-to : goal.returns-in_err-to
returns-in_err-to c =
    subst (OrNone (IsSpan c.args.text.now)) (sym c.from_residual-in_err-to.ensures)
    (λ span is. no_place last_place c.in_ok-from.to.now c.place-2.result c.place-2.ensures c.in_err-to.was span.to
    (parts_are c.args.text.now c.parts.result (c.in_ok-from.from, c.in_ok-from.to) span is c.parts.ensures.alone c.in_ok-from.was).1)

pub returns-then-from-to : goal.returns-then-from-to
returns-then-from-to c = record {
  from = c.in_ok-from.from.now;
  to = c.in_ok-from.to.now;
  parts = (subst (λ this. IfSome this (λ found. IsParted c.args.text.now found.0.now found.1.now)) c.in_ok-from.was c.parts.ensures.found).0;
  begins = found_place 0 c.in_ok-from.from.now c.place.result c.in_ok-from-2.from c.place.ensures c.in_ok-from-2.was;
  ends = found_place last_place c.in_ok-from.to.now c.place-2.result c.in_ok-to.to c.place-2.ensures c.in_ok-to.was;
  ordered = c.if-from-to.true;
}

pub returns-else-from-to : goal.returns-else-from-to
returns-else-from-to c span is =
    let places = parts_are c.args.text.now c.parts.result (c.in_ok-from.from, c.in_ok-from.to) span is c.parts.ensures.alone c.in_ok-from.was in
    let from_is = place_is 0 c.in_ok-from.from.now c.in_ok-from-2.from span.from (found_place 0 c.in_ok-from.from.now c.place.result c.in_ok-from-2.from c.place.ensures c.in_ok-from-2.was) places.0 in
    let to_is = place_is last_place c.in_ok-from.to.now c.in_ok-to.to span.to (found_place last_place c.in_ok-from.to.now c.place-2.result c.in_ok-to.to c.place-2.ensures c.in_ok-to.was) places.1 in
    let ordered : c.in_ok-from-2.from ≤ c.in_ok-to.to = (subst (λ this. this ≤ c.in_ok-to.to) (sym from_is) (subst (λ this. span.from ≤ this) (sym to_is) is.ordered)) in
    let above : c.in_ok-to.to < c.in_ok-from-2.from = c.if-from-to.false in
    omega (arith, ordered, above)
