-- In the words `NAME demo`, `NAME check` and `NAME run` clap finds the subcommand of their name, and no fault.
use Rattle.std.proofs.Common.{◌≡◌, inl, inr, ℕ, List, [], ◌∷◌, Some, None, Result, Ok, Err, OnOk, true, codes, option_map, refl, sym, subst, ap, ◌∙◌}
use Rattle.std.specs.Box.{box_value}
use Rattle.clap.specs.Matches.{subcommand_name_of}
use Rattle.clap.specs.Simple.{App, HasMatchesOf, subcommand_rows, subcommand_rows_of}
use Rattle.clap.specs.Kinds.{HasKind}
use Rattle.clap.specs.Values.{kind_of}
use Rattle.clap.specs.Words.{Row, fault_of, is_simple, is_simple_and_free, subcommand_of}
use Rattle.clap.specs.declared.error.Error.{Error}
use Rattle.clap.specs.declared.error.kind.ErrorKind.TheVariants.{OutOfMemory}
use Rattle.clap.specs.declared.parser.matches.ArgMatches.{ArgMatches}
use Rattle.clap.specs.declared.parser.matches.ArgMatches.TheViews.{out-ArgMatches, out-SubCommand}
use Rattle.clap.proofs.OnLiterals.{clap_on_literals}
use Rattle.irpx.specs.CommandLine.{Finds, command_line}

pub demo_is_found : (name : List ℕ) → Finds (codes "demo") [] (name ∷ codes "demo" ∷ [])
unfolding clap_on_literals
demo_is_found name = (refl, refl)

pub check_is_found : (name : List ℕ) → Finds (codes "check") [] (name ∷ codes "check" ∷ [])
unfolding clap_on_literals
check_is_found name = (refl, refl)

-- and no workers
pub run_is_found : (name : List ℕ) → Finds (codes "run") [] (name ∷ codes "run" ∷ [])
unfolding clap_on_literals
run_is_found name = (refl, refl)

command_line_is_simple : is_simple command_line ≡ true
unfolding clap_on_literals
command_line_is_simple = refl

command_line_is_free : is_simple_and_free command_line ≡ true
unfolding clap_on_literals
command_line_is_free = refl

-- the subcommand's name, by itself and beside its matches
met_name : (matches : ArgMatches) → option_map (λ found. found.0) (subcommand_rows_of matches) ≡ subcommand_name_of matches
met_name matches =
    elim (out-ArgMatches matches).subcommand as (λ found. option_map (λ pair. pair.0) (subcommand_rows found) ≡ option_map (λ inner. (out-SubCommand (box_value inner)).name.now) found)
    [ None ↦ refl | Some inner ↦ refl ]

-- clap's matches of words that name a subcommand, with these rows: it is theirs, and so are the rows
pub are_found : (app : App) (matches : ArgMatches) (words : List (List ℕ)) (name : List ℕ) (rows : List Row) → app ≡ command_line → subcommand_of command_line words ≡ Some (name, rows) → HasMatchesOf app words matches
    → (subcommand_name_of matches ≡ Some name) × (option_map (λ found. found.1) (subcommand_rows_of matches) ≡ Some rows)
are_found app matches words name rows app_is met has =
    let found : subcommand_rows_of matches ≡ Some (name, rows) = (has (ap is_simple app_is ∙ command_line_is_simple)).1 ∙ (ap (λ this. subcommand_of this words) app_is ∙ met) in
    (sym (met_name matches) ∙ ap (option_map (λ found. found.0)) found, ap (option_map (λ found. found.1)) found)

-- clap finds no fault in words that it takes
pub no_fault : (app : App) (words : List (List ℕ)) → app ≡ command_line → (is_simple_and_free app ≡ true → fault_of app words ≡ []) → fault_of command_line words ≡ []
no_fault app words app_is free = ap (λ this. fault_of this words) (sym app_is) ∙ free (ap is_simple_and_free app_is ∙ command_line_is_free)

-- words in which clap finds no fault are refused for want of memory alone
pub memory_alone : (app : App) (words : List (List ℕ)) (error : Error) → app ≡ command_line → fault_of command_line words ≡ [] → (is_simple_and_free app ≡ true → HasKind (fault_of app words) error) → kind_of error ≡ OutOfMemory
memory_alone app words error app_is none kinds =
    by (subst (λ faults. HasKind faults error) (ap (λ this. fault_of this words) app_is ∙ none) (kinds (ap is_simple_and_free app_is ∙ command_line_is_free)))
  where
    by : HasKind [] error → kind_of error ≡ OutOfMemory
    by (inl memory) = memory
    by (inr other) = absurd other

pub on_ok : {T E P : Type 0} (result : Result T E) → P → OnOk result P
on_ok (Ok value) holds = holds
on_ok (Err error) holds = tt
