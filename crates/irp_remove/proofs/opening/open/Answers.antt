use Rattle.std.proofs.Common.{rules, ◌≡◌, zero, length, sym, ap, ◌∙◌, replicate, subst}
use Rattle.irp_remove.specs.declared.views.Parties.{Parties}
use Rattle.irp_remove.specs.Opening.{parties_of, IsAllIdle}
use Rattle.irp_remove.proofs.Idle.{all_idle}
use Rattle.irp_remove.proofs.Observing.{at_opening}
use Rattle.irp_remove.proofs.Seating.{zero_words}
use Rattle.irp_remove.proofs.opening.open.Goals as goal

pub of_words-requires : goal.of_words-requires
of_words-requires c =
    let items : c.in-Ok.words.items ≡ replicate c.args.locks zero = search rules in
    let is = c.as_slice.ensures.value ∙ items in
    at_opening _ c.as_slice.result.now (search rules) (λ k. zero_words _ _ k is) (search rules) (search rules)

pub returns-in-Ok-seats-clause-idle : goal.returns-in-Ok-seats-clause-idle
returns-in-Ok-seats-clause-idle c =
    let seats = c.in-Ok-seats.made.items in
    let count : length seats ≡ c.args.seats = search rules in
    let key : c.in-Ok-of_words.table.shared.key ≡ parties_of c.args.locks c.args.seats = search rules in
    subst (λ (z : Parties). IsAllIdle z seats) (ap (parties_of c.args.locks) count ∙ sym key) (all_idle _ c.args.locks seats c.in-Ok-seats.ensures.fresh.0)
