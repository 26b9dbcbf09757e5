-- One more step stands there.
use Rattle.std.proofs.Common.{◌≡◌, ◌++◌, ◌+◌, ℕ, List, suc, ap, ◌∙◌, arith}
use Rattle.std.specs.Prelude.{codes}
use Rattle.std.specs.List.{repeat}
use Rattle.irp_listing.proofs.Indenting.{repeat_more}
use Rattle.irp_listing.proofs.blocks.indent.Goals as goal

pub loop-step-preserved : goal.loop-step-preserved
loop-step-preserved c =
    let one : suc c.loop-step._step ≡ c.loop-step._step + 1 = omega arith in
    c.in_ok-push_str.ensures.bytes ∙ ap (λ (given : List ℕ). given ++ codes "  ") c.loop-step.invariant
    ∙ repeat_more c.loop-step._step (codes "  ") ∙ ap (λ (steps : ℕ). repeat steps (codes "  ")) one
