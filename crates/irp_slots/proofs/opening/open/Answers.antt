use Rattle.std.proofs.Common.{rules, ◌≡◌, ◌+◌, ◌*◌, zero, length, replicate, sym, ap, ◌∙◌, subst}
use Rattle.irp_slots.specs.declared.views.Parties.{Parties}
use Rattle.irp_slots.specs.Opening.{parties_of, IsAllEmpty}
use Rattle.irp_slots.proofs.Empty.{all_empty}
use Rattle.irp_slots.proofs.Making.{at_opening, zero_words}
use Rattle.irp_slots.proofs.opening.open.Goals as goal

pub of_words-requires : goal.of_words-requires
of_words-requires c =
    let items : c.in-Ok.words.items ≡ replicate (2 * c.args.slots + 1) zero = search rules in
    let is = c.as_slice.ensures.value ∙ items in
    at_opening _ c.as_slice.result.now (search rules) (λ k. zero_words _ _ k is) (search rules) (search rules)

pub returns-in-Ok-cancellers-clause-empty : goal.returns-in-Ok-cancellers-clause-empty
returns-in-Ok-cancellers-clause-empty c =
    let owners = c.in-Ok-owners.owners.items in
    let cancellers = c.in-Ok-cancellers.made.items in
    let count : length cancellers ≡ c.args.cancellers = search rules in
    let key : c.in-Ok-of_words.table.shared.key ≡ parties_of c.args.slots c.args.cancellers = search rules in
    subst (λ (z : Parties). IsAllEmpty z owners cancellers) (ap (parties_of c.args.slots) count ∙ sym key)
    (all_empty _ c.args.slots owners cancellers c.in-Ok-owners.ensures.fresh c.in-Ok-cancellers.ensures.new)
