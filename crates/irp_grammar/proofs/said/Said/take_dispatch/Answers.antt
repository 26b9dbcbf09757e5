use Rattle.std.proofs.Common.{rules, ◌≡◌, ◌∙◌, ◌++◌, ◌∷◌, [], ℕ, List, ap, drop, length, ◌≤◌, min, subst, sym}
use Rattle.irp_types.specs.declared.routine.Rule.TheVariants as rule
use Rattle.irp_forms.specs.declared.key_parts.Part.{Part}
use Rattle.irp_forms.specs.declared.key_parts.Part.TheVariants as part
use Rattle.irp_names.specs.Plans.{kind_named}
use Rattle.irp_grammar.specs.Lines.{ahead}
use Rattle.irp_grammar.specs.Naming.{TakesName}
use Rattle.irp_grammar.specs.Reading.{Members, given_of, members_of, place_after, with_given}
use Rattle.irp_grammar.specs.Values.{ArePartValues}
use Rattle.irp_grammar.specs.declared.step_line.PlanLine.{PlanLine}
use Rattle.irp_grammar.proofs.Valued.{on_some, only_both, parts_few}
use Rattle.irp_grammar.proofs.said.Said.take_dispatch.Goals as goal

pub take_parts-requires : goal.take_parts-requires
take_parts-requires c = subst (λ (parts : List Part). length parts ≤ 6) (sym c.parts.ensures) (parts_few c.in_ok-kind.kind)

-- the plan behind the name, if there is one
pub returns : goal.returns
returns c =
    let plan : PlanLine = record { kind = c.in_ok-kind.kind; values = c.in_ok-values.values } in
    let behind = ahead c.take_name.new.words in
    let rest = ahead c.take_parts.new.words in
    let old = members_of c.args.self.now in
    let named = given_of c.take_name.new.self in
    let given = given_of c.take_parts.new.self in
    let both = only_both c.place.new.self c.take_name.new.self c.take_parts.new.self c.in_ok-take_name.ensures.said c.in_ok-values.ensures.said in
    let all : members_of c.take_parts.new.self ≡ with_given given old = both ∙ ap (with_given given) c.place.ensures in
    let number : c.len-number.result ≡ length c.place.new.self.dispatches.items = search rules in
    let counted =
    subst (λ (n : ℕ). TakesName part.Dispatch rule.Watch (min n 4294967295) (ahead c.args.words.now) behind (given_of c.place.new.self) named)
    number c.in_ok-take_name.ensures.given in
    let names =
    subst (λ (some : Members). TakesName part.Dispatch rule.Watch (place_after some.dispatches) (ahead c.args.words.now) behind some.given named)
    c.place.ensures counted in
    let is = ap kind_named (sym c.text.ensures) ∙ sym c.named.ensures ∙ c.in_ok-kind.ensures.read in
    let valued =
    subst (λ (words : List (List ℕ)). ArePartValues c.parts.result.now words rest plan.values named given)
    c.in_ok-kind.ensures.passed c.in_ok-values.ensures.values in
    let values =
    subst (λ (parts : List Part). ArePartValues parts (drop 1 behind) rest plan.values named given) c.parts.ensures valued in
    on_some c.add.result
    (λ put. (
      plan,
      behind,
      named,
      given,
      names,
      (is, values),
      ap (λ (its : List PlanLine). record (members_of c.take_parts.new.self) { dispatches = its }) put
          ∙ ap (λ (some : Members). record some { dispatches = some.dispatches ++ plan ∷ [] }) all,
    ))
    c.add.ensures
