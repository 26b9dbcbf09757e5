-- The file is the one that clap found for the word, if it found one.
use Rattle.std.proofs.Common.{◌≡◌, ◌∙◌, codes, subst, sym}
use Rattle.clap.specs.Matches.{found_of}
use Rattle.clap.proofs.WalkLemmas.{first_value-rows}
use Rattle.irp_command_line.specs.CommandLine.{rows_in, text_in}
use Rattle.irp_words.specs.CommandLine.{file_for}
use Rattle.irp_words.specs.declared.orders.Order.{Order}
use Rattle.irp_words.proofs.words.file_of.Goals as goal

pub returns-in-Read : goal.returns-in-Read
returns-in-Read c =
    subst (λ (order : Order). text_in c.get_str.result ≡ file_for order (rows_in c.args.matches.now)) (sym c.in-Read.is)
    (c.get_str.ensures ∙ first_value-rows (found_of c.args.matches.now) (codes "file"))
