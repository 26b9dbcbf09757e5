-- The texts are those that clap found for the words.
use Rattle.std.proofs.Common.{codes, option_map, Bor, List, ℕ, subst, ◌∙◌}
use Rattle.clap.specs.Matches.{found_of}
use Rattle.clap.specs.Words.{first_of, rows_of}
use Rattle.clap.proofs.WalkLemmas.{first_value-rows}
use Rattle.irp_view.specs.CommandLine.{OrUsage, IsNeededUse}
use Rattle.irp_view.proofs.words.use_of.Goals as goal

pub returns : goal.returns
returns c =
    let slot_is = c.get_str.ensures ∙ first_value-rows (found_of c.args.matches.now) (codes "slot") in
    let use_is = c.get_str-2.ensures ∙ first_value-rows (found_of c.args.matches.now) (codes "use") in
    subst (λ use_no. OrUsage (IsNeededUse (first_of (codes "slot") (rows_of (found_of c.args.matches.now))) use_no) c.use_named.result) use_is
    (subst (λ slot. OrUsage (IsNeededUse slot (option_map (λ (text : Bor (List ℕ)). text.now) c.get_str-2.result)) c.use_named.result) slot_is c.use_named.ensures)
