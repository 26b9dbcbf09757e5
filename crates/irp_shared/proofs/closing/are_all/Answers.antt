use Rattle.std.proofs.Common.{◌≡◌, ◌<◌, ◌≤◌, true, ◌∙◌, rules, arith}
use Rattle.irp_shared.proofs.closing.are_all.Goals as goal

pub returns : goal.returns
returns g c =
    let end : c.args.expected ≤ c.loop-number.number = search rules in
    record { yes = λ same. (search rules, λ number lt. c.loop-number.invariant number (omega arith)); no = λ wrong. absurd (cc) }

pub returns-then-not-has_number-clause-no : goal.returns-then-not-has_number-clause-no
returns-then-not-has_number-clause-no g c = λ wrong all.
    let within : c.loop-number.number < c.args.expected = search rules in
    let found : c.has_number.result ≡ true = c.has_number.ensures ∙ all.1 c.loop-number.number within in
    let missed = c.if-not-has_number.true in
    cc
