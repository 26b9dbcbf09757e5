-- What clap finds in words is what the definition of a command line says.
use Rattle.std.proofs.Common.{◌≡◌, ◌⊎◌, ◌∙◌, ℕ, Bool, List, [], ◌∷◌, Option, Some, None, codes, option_map, inl, inr, true, false, refl, sym, subst, ap, ap₂}
use Rattle.std.specs.Prelude.{Box}
use Rattle.std.specs.Box.{box_value}
use Rattle.clap.specs.Kinds.{HasKind, IsAmong, Kinds}
use Rattle.clap.specs.Matches.{found_of, one_text, subcommand_name_of}
use Rattle.clap.specs.Simple.{App, HasMatchesOf, matches_of, subcommand_of, subcommand_rows, subcommand_rows_of, with_subcommand}
use Rattle.clap.specs.Values.{kind_of}
use Rattle.clap.specs.Words.{AddsSubcommand, Row, app_of, fault_of, is_simple, is_simple_and_free, rows_of}
use Rattle.clap.specs.declared.builder.command.Command.{Command}
use Rattle.clap.specs.declared.error.Error.{Error}
use Rattle.clap.specs.declared.error.kind.ErrorKind.{ErrorKind}
use Rattle.clap.specs.declared.error.kind.ErrorKind.TheVariants.{OutOfMemory}
use Rattle.clap.specs.declared.parser.matches.ArgMatches.{ArgMatches}
use Rattle.clap.specs.declared.parser.matches.ArgMatches.TheViews.{out-ArgMatches, out-SubCommand}
use Rattle.clap.specs.declared.parser.matches.Found.{Found}
use Rattle.clap.specs.declared.parser.matches.SubCommand.{SubCommand}
use Rattle.clap.proofs.WalkLemmas.{one_text-rows}
use Rattle.irp_command_line.specs.CommandLine.{AsksFor, IsFlag, IsLine, OfSubcommand, SaysFlag}

-- ---- what clap is told

-- a command with one more subcommand
pub adds_line : (old sub new : Command) (app line : App) → AddsSubcommand old sub new → app_of old ≡ app → IsLine line sub
    → app_of new ≡ with_subcommand app line.top
adds_line old sub new app line adds old_is line_is =
    adds.shape line_is.1 ∙ ap₂ with_subcommand old_is (ap (λ (app : App). app.top) line_is.0)

-- ---- what it finds

pub flag_said : (found : Found) (name : List ℕ) (is_set : Bool) → (one_text found name ≡ None → is_set ≡ false)
    → (one_text found name ≡ Some (codes "true") → is_set ≡ true)
    → (one_text found name ≡ Some (codes "false") → is_set ≡ false) → SaysFlag (rows_of found) name is_set
flag_said found name is_set none true_said false_said =
    subst (λ (text : Option (List ℕ)). IsFlag text is_set) (one_text-rows found name) (by (one_text found name) refl)
  where
    by : (text : Option (List ℕ)) → one_text found name ≡ text → IsFlag text is_set
    by None is = none is
    by (Some text) is = (λ same. true_said (is ∙ ap Some same), λ same. false_said (is ∙ ap Some same))

-- a command that is the definition's gives the definition's rows of words
pub rows_are : (line app : App) (words : List (List ℕ)) (matches : ArgMatches) → is_simple line ≡ true → app ≡ line
    → HasMatchesOf app words matches → rows_of (found_of matches) ≡ matches_of line words
rows_are line app words matches simple app_is has =
    (has (ap is_simple app_is ∙ simple)).0 ∙ ap (λ (app : App). matches_of app words) app_is

-- and its subcommand
pub subcommand_is : (line app : App) (words : List (List ℕ)) (matches : ArgMatches) → is_simple line ≡ true → app ≡ line
    → HasMatchesOf app words matches → subcommand_rows_of matches ≡ subcommand_of line words
subcommand_is line app words matches simple app_is has =
    (has (ap is_simple app_is ∙ simple)).1 ∙ ap (λ (app : App). subcommand_of app words) app_is

-- the name of a subcommand that was entered is the one beside its rows
name_of_rows : {Z : Type 0} (entered : Option (Box SubCommand Z))
    → option_map (λ (it : Box SubCommand Z). (out-SubCommand (box_value it)).name.now) entered
    ≡ option_map (λ (found : List ℕ × List Row). found.0) (subcommand_rows entered)
name_of_rows None = refl
name_of_rows (Some it) = refl

named : (matches : ArgMatches)
    → subcommand_name_of matches ≡ option_map (λ (found : List ℕ × List Row). found.0) (subcommand_rows_of matches)
named matches = name_of_rows (out-ArgMatches matches).subcommand

-- ---- what comes of words

module _ {Asked : Type 0} (ByRows : List ℕ → List Row → Asked → Type 0) (none asked : Asked) where
  -- what the subcommand asks for that clap found
  pub of_subcommand : (matches : ArgMatches) (found : Option (List ℕ × List Row)) → subcommand_rows_of matches ≡ found
      → ((name : List ℕ) (rows : List Row) → subcommand_name_of matches ≡ Some name
      → option_map (λ (found : List ℕ × List Row). found.1) (subcommand_rows_of matches) ≡ Some rows → ByRows name rows asked)
      → (subcommand_name_of matches ≡ None → asked ≡ none) → OfSubcommand ByRows none found asked
  of_subcommand matches None is by_rows by_none =
      by_none (named matches ∙ ap (option_map (λ (found : List ℕ × List Row). found.0)) is)
  of_subcommand matches (Some found) is by_rows by_none =
      by_rows found.0 found.1 (named matches ∙ ap (option_map (λ (found : List ℕ × List Row). found.0)) is)
      (ap (option_map (λ (found : List ℕ × List Row). found.1)) is)

module _ {Found Asked : Type 0} (ByFault : ErrorKind → Asked → Type 0) (ByFound : Found → Asked → Type 0) (line app : App)
    (words : List (List ℕ)) (found : Found) (asked : Asked) where
  -- what words ask for in which clap finds no fault
  pub matched : is_simple_and_free line ≡ true → app ≡ line → (is_simple_and_free app ≡ true → fault_of app words ≡ [])
      → ByFound found asked → AsksFor ByFault ByFound (fault_of line words) found asked
  matched free app_is faultless by =
      let none : fault_of line words ≡ [] =
      ap (λ (app : App). fault_of app words) (sym app_is) ∙ faultless (ap is_simple_and_free app_is ∙ free) in
      subst (λ (faults : Kinds). AsksFor ByFault ByFound faults found asked) (sym none) by

  faulted_by : (faults : Kinds) (kind : ErrorKind) → IsAmong kind faults → ByFault kind asked
      → AsksFor ByFault ByFound faults found asked
  faulted_by [] kind among by = absurd among
  faulted_by (fault ∷ faults) kind among by = (kind, among, by)

  -- what words ask for in which it finds some; or memory ran out, of which this comes
  pub faulted : (none : Asked) (error : Error) → is_simple_and_free line ≡ true → app ≡ line
      → (is_simple_and_free app ≡ true → HasKind (fault_of app words) error)
      → (kind_of error ≡ OutOfMemory → asked ≡ none) → (asked ≡ none) ⊎ ByFault (kind_of error) asked
      → (asked ≡ none) ⊎ AsksFor ByFault ByFound (fault_of line words) found asked
  faulted none error free app_is kinds memory (inl is) = inl is
  faulted none error free app_is kinds memory (inr by) =
      with_kind
      (subst (λ (app : App). HasKind (fault_of app words) error) app_is (kinds (ap is_simple_and_free app_is ∙ free)))
    where
      with_kind : HasKind (fault_of line words) error → (asked ≡ none) ⊎ AsksFor ByFault ByFound (fault_of line words) found asked
      with_kind (inl out) = inl (memory out)
      with_kind (inr among) = inr (faulted_by (fault_of line words) (kind_of error) among by)

module _ {Asked : Type 0} (ByFault : ErrorKind → Asked → Type 0) (ByRows : List ℕ → List Row → Asked → Type 0)
    (other none asked : Asked) (line app : App) (words : List (List ℕ)) where
  -- what words ask for in which clap finds no fault, by the subcommand that it finds
  pub matched_by_subcommand : (matches : ArgMatches) → is_simple line ≡ true → is_simple_and_free line ≡ true → app ≡ line
      → HasMatchesOf app words matches → (is_simple_and_free app ≡ true → fault_of app words ≡ [])
      → ((name : List ℕ) (rows : List Row) → subcommand_name_of matches ≡ Some name
      → option_map (λ (found : List ℕ × List Row). found.1) (subcommand_rows_of matches) ≡ Some rows → ByRows name rows asked)
      → (subcommand_name_of matches ≡ None → asked ≡ other)
      → (asked ≡ none) ⊎ AsksFor ByFault (OfSubcommand ByRows other) (fault_of line words) (subcommand_of line words) asked
  matched_by_subcommand matches simple free app_is has faultless by_rows by_none =
      let subcommand = subcommand_is line app words matches simple app_is has in
      inr
      (matched ByFault (OfSubcommand ByRows other) line app words (subcommand_of line words) asked free app_is faultless
      (of_subcommand ByRows other asked matches (subcommand_of line words) subcommand by_rows by_none))
