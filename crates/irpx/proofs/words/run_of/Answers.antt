-- The text is the one that clap found for the option, if it found one.
use Rattle.std.proofs.Common.{◌≡◌, ℕ, List, Some, None, option_map, codes, sym, ap, ◌∙◌}
use Rattle.std.specs.Borrow.{Bor}
use Rattle.clap.specs.Matches.{found_of}
use Rattle.clap.specs.Words.{first_of, rows_of}
use Rattle.clap.proofs.WalkLemmas.{first_value-rows}
use Rattle.irpx.specs.CommandLine.{run_in, run_with, workers_in}
use Rattle.irpx.proofs.words.run_of.Goals as goal

pub returns-in_default-clause-run : goal.returns-in_default-clause-run
returns-in_default-clause-run c =
    ap run_in (ap (option_map (λ (text : Bor (List ℕ)). text.now)) (sym c.in_default.is) ∙ (c.get_str.ensures ∙ first_value-rows (found_of c.args.matches.now) (codes "workers")))

pub returns-in-Some-workers_in-clause-run : goal.returns-in-Some-workers_in-clause-run
returns-in-Some-workers_in-clause-run c =
    let given : Some c.in-Some.text.now ≡ first_of (codes "workers") (rows_of (found_of c.args.matches.now)) = c.in-Some.ensures ∙ first_value-rows (found_of c.args.matches.now) (codes "workers") in
    let named : Some c.in-Some-workers_in.workers ≡ workers_in c.in-Some.text.now = c.in-Some-workers_in.ensures ∙ ap workers_in c.as_bytes.ensures.value in
    ap run_with named ∙ ap run_in given

pub returns-in-None-clause-run : goal.returns-in-None-clause-run
returns-in-None-clause-run c =
    let given : Some c.in-Some.text.now ≡ first_of (codes "workers") (rows_of (found_of c.args.matches.now)) = c.in-Some.ensures ∙ first_value-rows (found_of c.args.matches.now) (codes "workers") in
    let named : None ≡ workers_in c.in-Some.text.now = c.in-None.ensures ∙ ap workers_in c.as_bytes.ensures.value in
    ap run_with named ∙ ap run_in given
