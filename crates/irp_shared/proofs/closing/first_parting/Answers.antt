-- Where entries part, the history's own stands among the seat's own at the same place.
use Rattle.std.proofs.Common.{rules, ◌≡◌, ◌≤◌, ◌<◌, length, take, sym, ap, ◌∙◌, arith}
use Rattle.std.proofs.lemmas.List.{length-take-le, take_all}
use Rattle.std.proofs.lemmas.Option.{slice_get_past}
use Rattle.irp_types.specs.Histories.{own_entries}
use Rattle.irp_shared.proofs.OwnPlaces.{none_past, stands_there}
use Rattle.irp_shared.proofs.closing.first_parting.Goals as goal

pub returns-then-index-entries-clause-place : goal.returns-then-index-entries-clause-place
returns-then-index-entries-clause-place c =
    let history = c.args.history.now in
    let place = c.loop-place.place in
    let index = c.loop-place.index in
    let count = ap length c.loop-place.invariant.1 ∙ length-take-le index c.args.entries.now c.loop-place.invariant.0 in
    stands_there history c.args.seat place index c.index-history-place.result (search rules) (search rules) count

pub returns-clause-other : goal.returns-clause-other
returns-clause-other c = λ past.
    let within : c.loop-place.index < length c.args.entries.now = search rules in
    none_past c.args.entries.now c.loop-place.index within past

pub returns-clause-place : goal.returns-clause-place
returns-clause-place c =
    let history = c.args.history.now in
    let index = c.loop-place.index in
    let end : length history ≤ c.loop-place.place = search rules in
    let own : own_entries history c.args.seat ≡ take index c.args.entries.now =
    ap (λ entries. own_entries entries c.args.seat) (sym (take_all c.loop-place.place history end)) ∙ c.loop-place.invariant.1 in
    let count = ap length own ∙ length-take-le index c.args.entries.now c.loop-place.invariant.0 in
    sym (slice_get_past (own_entries history c.args.seat) index (omega (arith, count)))
