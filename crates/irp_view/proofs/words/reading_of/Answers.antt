-- The file is the one that clap found, if it found one.
use Rattle.std.proofs.Common.{codes, Ok, refl, sym, subst, ◌∙◌}
use Rattle.clap.specs.Matches.{found_of}
use Rattle.clap.specs.Words.{rows_of}
use Rattle.clap.proofs.WalkLemmas.{first_value-rows}
use Rattle.irp_view.specs.CommandLine.{IsReading}
use Rattle.irp_view.specs.declared.orders.Order.TheVariants.{Read}
use Rattle.irp_view.proofs.words.reading_of.Goals as goal

pub returns-in-Ok : goal.returns-in-Ok
returns-in-Ok c =
    subst (λ task. IsReading (rows_of (found_of c.args.matches.now)) task (Ok (record { order = Read c.in-Ok.task; file = c.get_str.result }))) (sym c.in-Ok.is)
    (refl, c.get_str.ensures ∙ first_value-rows (found_of c.args.matches.now) (codes "file"))
