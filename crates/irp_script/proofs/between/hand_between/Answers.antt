-- The place of the first step that hands a reference between workers.
use Rattle.std.proofs.Common.{◌≡◌, Some, None, position, sym, subst, ◌∙◌, arith}
use Rattle.irp_script.specs.Between.{hands_between}
use Rattle.irp_script.proofs.Firsts.{first_at, none_passes}
use Rattle.irp_script.proofs.between.hand_between.Goals as goal

pub returns-then-hands_between : goal.returns-then-hands_between
returns-then-hands_between c =
    let steps = c.as_slice-step-items.result.now in
    let place = c.loop-place.place in
    let there = sym c.hands_between.ensures ∙ c.if-hands_between.true in
    subst (λ given. Some place ≡ position (hands_between c.args.workers) given) c.as_slice-step-items.ensures
    (first_at (hands_between c.args.workers) steps place _ c.loop-place-test.true c.loop-place.invariant there)

pub returns : goal.returns
returns c =
    let steps = c.as_slice-step-items.result.now in
    subst (λ given. None ≡ position (hands_between c.args.workers) given) c.as_slice-step-items.ensures
    (none_passes (hands_between c.args.workers) steps (λ k step less. c.loop-place.invariant k step (omega arith)))
