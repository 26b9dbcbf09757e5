use Rattle.std.proofs.Common.{rules, ◌≡◌, ◌∙◌, ◌++◌, ◌∷◌, [], ℕ, List, ap, length, min, subst}
use Rattle.irp_types.specs.declared.names.DispatchId.{DispatchId}
use Rattle.irp_types.specs.declared.routine.Rule.TheVariants as rule
use Rattle.irp_forms.specs.declared.key_parts.Part.TheVariants as part
use Rattle.irp_grammar.specs.Lines.{ahead}
use Rattle.irp_grammar.specs.Naming.{TakesName}
use Rattle.irp_grammar.specs.Reading.{Members, given_of, members_of, place_after, with_given}
use Rattle.irp_grammar.proofs.Valued.{on_some}
use Rattle.irp_grammar.proofs.said.Said.take_driver.Goals as goal

-- the table behind the name, if there is one
pub returns : goal.returns
returns c =
    let table : List (ℕ × DispatchId) = c.in_ok-table.table in
    let behind = ahead c.take_name.new.words in
    let old = members_of c.args.self.now in
    let given = given_of c.take_name.new.self in
    let all : members_of c.take_name.new.self ≡ with_given given old = c.in_ok-take_name.ensures.said ∙ ap (with_given given) c.place.ensures in
    let number : c.len-number.result ≡ length c.place.new.self.drivers.items = search rules in
    let counted =
    subst (λ (n : ℕ). TakesName part.Driver rule.Watch (min n 4294967295) (ahead c.args.words.now) behind (given_of c.place.new.self) given)
    number c.in_ok-take_name.ensures.given in
    let names =
    subst (λ (some : Members). TakesName part.Driver rule.Watch (place_after some.drivers) (ahead c.args.words.now) behind some.given given)
    c.place.ensures counted in
    on_some c.add.result
    (λ put. (
      table,
      behind,
      given,
      names,
      c.in_ok-table.ensures,
      ap (λ (its : List (List (ℕ × DispatchId))). record (members_of c.take_name.new.self) { drivers = its }) put
          ∙ ap (λ (some : Members). record some { drivers = some.drivers ++ table ∷ [] }) all,
    ))
    c.add.ensures
