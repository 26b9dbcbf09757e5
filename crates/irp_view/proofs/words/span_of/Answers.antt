-- The text is the one that clap found for the option, if it found one.
use Rattle.std.proofs.Common.{codes, subst, ◌∙◌}
use Rattle.clap.specs.Matches.{found_of}
use Rattle.clap.proofs.WalkLemmas.{first_value-rows}
use Rattle.irp_view.specs.CommandLine.{OrUsage, IsSpanOf}
use Rattle.irp_view.proofs.words.span_of.Goals as goal

pub returns : goal.returns
returns c =
    subst (λ text. OrUsage (IsSpanOf text) c.span_named.result)
    (c.get_str.ensures ∙ first_value-rows (found_of c.args.matches.now) (codes "entries")) c.span_named.ensures
