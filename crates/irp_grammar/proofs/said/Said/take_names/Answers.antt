use Rattle.std.proofs.Common.{◌≡◌, ◌<◌, ◌∙◌, ℕ, List, [], arith, ap, sym, drop, drop-drop, get_or, length, take}
use Rattle.irp_types.specs.declared.routine.Rule.TheVariants as rule
use Rattle.irp_grammar.specs.Lines.{ahead, next_of}
use Rattle.irp_grammar.specs.Naming.{with_name, with_names}
use Rattle.irp_grammar.specs.Reading.{given_of}
use Rattle.irp_grammar.proofs.Giving.{names_more, next_behind}
use Rattle.irp_grammar.proofs.Valued.{only_both}
use Rattle.irp_grammar.proofs.said.Said.take_names.Goals as goal

-- one name more
pub loop-number-preserved : goal.loop-number-preserved
loop-number-preserved c =
    let words = ahead c.args.words.now in
    let number = c.loop-number.number in
    let given = given_of c.loop-number.self in
    let below : number < length words = omega (arith, c.loop-number-test.true, c.count_of-count.ensures, c.left.ensures) in
    let text = c.text.ensures ∙ ap next_of c.loop-number.invariant.1 ∙ next_behind words number in (
      c.in_ok-name.ensures.given
          ∙ ap (λ (word : List ℕ). with_name c.args.part rule.Watch word number given) text
          ∙ ap (with_name c.args.part rule.Watch (get_or words number []) number) c.loop-number.invariant.0
          ∙ sym (names_more c.args.part words number (given_of c.args.self.now) below),
      c.pass.ensures ∙ ap (drop 1) (c.in_ok-name.ensures.words ∙ c.loop-number.invariant.1) ∙ drop-drop 1 number words,
      only_both c.args.self.now c.loop-number.self c.name.new.self c.loop-number.invariant.2 c.in_ok-name.ensures.said,
    )

-- there are as many as the line has
pub returns-clause-names : goal.returns-clause-names
returns-clause-names c =
    let all : c.loop-number.number ≡ c.count_of-count.result = search (arith, c.loop-number-test.false, c.loop-number.auto.number-end) in
    c.loop-number.invariant.0
    ∙ ap (λ (n : ℕ). with_names c.args.part 0 (take n (ahead c.args.words.now)) (given_of c.args.self.now)) all

pub returns-clause-words : goal.returns-clause-words
returns-clause-words c =
    let all : c.loop-number.number ≡ c.count_of-count.result = search (arith, c.loop-number-test.false, c.loop-number.auto.number-end) in
    c.loop-number.invariant.1 ∙ ap (λ (n : ℕ). drop n (ahead c.args.words.now)) all
