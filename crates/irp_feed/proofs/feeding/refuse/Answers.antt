-- The rest of the input was taken, or couldn't be.
use Rattle.std.proofs.Common.{ℕ, Option, sym, subst}
use Rattle.irp_feed.specs.Feeding.{AreAllBefore, FailsBehind}
use Rattle.irp_feed.proofs.Fed.{input_fails, refused_fails}
use Rattle.irp_feed.specs.Feeding.{refused_line}
use Rattle.irp_feed.proofs.feeding.refuse.Goals as goal

pub returns-in-Ok-clause-fails : goal.returns-in-Ok-clause-fails
returns-in-Ok-clause-fails g c = λ old text so_far hopeless.
    (subst (FailsBehind text old (g.R.Read.remaining c.drain.new.input)) (sym c.behind.ensures)
    (refused_fails (refused_line c.args.unfed) c.in-Ok.has_newline old (g.R.Read.remaining c.drain.new.input) text (c.in-Ok.ensures old text so_far) hopeless))

pub returns-in-Ok-clause-before : goal.returns-in-Ok-clause-before
returns-in-Ok-clause-before g c = λ count all. subst (λ (line : Option ℕ). AreAllBefore line count) (sym c.behind.ensures) all

pub returns-in-Err-clause-fails : goal.returns-in-Err-clause-fails
returns-in-Err-clause-fails g c = λ old text so_far hopeless.
    (input_fails _ old (g.R.Read.remaining c.drain.new.input) text (c.in-Err.ensures old text so_far))
