-- What a program tells clap of its command line, what clap finds in words, and what comes of them.
use Rattle.std.specs.Prelude.{
  ℕ,
  ◌≡◌,
  ◌⊎◌,
  ◌<◌,
  ◌^◌,
  Bool,
  true,
  false,
  codes,
  List,
  [],
  ◌∷◌,
  Option,
  Some,
  None,
}
use Rattle.std.specs.Borrow.{Bor}
use Rattle.std.specs.Option.{option_map}
use Rattle.std.specs.Str.Parse.{IsNumeral, digits_value, without_leading_plus}
use Rattle.clap.specs.Kinds.{IsAmong, Kinds}
use Rattle.clap.specs.Matches.{found_of}
use Rattle.clap.specs.Words.{App, Row, Rule, app_of, new_rule, one_of, rows_of, rule_of}
use Rattle.clap.specs.declared.builder.action.ArgAction.TheVariants.{SetTrue}
use Rattle.clap.specs.declared.builder.arg.Arg.{Arg}
use Rattle.clap.specs.declared.builder.command.Command.{Command}
use Rattle.clap.specs.declared.builder.command.Command.TheViews.{out-Command}
use Rattle.clap.specs.declared.error.kind.ErrorKind.{ErrorKind}
use Rattle.clap.specs.declared.parser.matches.ArgMatches.{ArgMatches}

-- ---- what clap is told

-- the word that names a file
abbrev pub file_word : Rule
file_word = new_rule (codes "file")

-- a word that stands alone, as `--groups`
abbrev pub flag_option : List ℕ → Rule
flag_option name = record (new_rule name) { long = Some name; action = Some SetTrue }

-- an option of a command is this one, for that command alone
abbrev pub IsOption : Rule → Arg → Type 0
IsOption rule option = (rule_of option ≡ rule) × (option.global ≡ false)

-- a command is this one, and has no option for commands below it
abbrev pub IsLine : App → Command → Type 0
IsLine app command = (app_of command ≡ app) × ((out-Command command).has_globals ≡ false)

-- ---- what it finds

-- the rows of the words that clap matched
abbrev pub rows_in : ArgMatches → List Row
rows_in matches = rows_of (found_of matches)

-- a text that was lent, if there is one
abbrev pub text_in : Option (Bor (List ℕ)) → Option (List ℕ)
text_in = option_map (λ (text : Bor (List ℕ)). text.now)

-- whether a word that stands alone is among the words
abbrev pub IsFlag : Option (List ℕ) → Bool → Type 0
IsFlag None is_set = is_set ≡ false
IsFlag (Some text) is_set =
    (text ≡ codes "true" → is_set ≡ true) × (text ≡ codes "false" → is_set ≡ false)

abbrev pub SaysFlag : List Row → List ℕ → Bool → Type 0
SaysFlag rows name is_set = IsFlag (one_of name rows) is_set

-- a text writes a number: in decimal digits, behind a plus or none, below 2^64
abbrev pub Writes : List ℕ → ℕ → Type 0
Writes text number =
    IsNumeral 10 (without_leading_plus text) × (digits_value 10 (without_leading_plus text) < 2 ^ 64)
    × (number ≡ digits_value 10 (without_leading_plus text))

-- ---- what comes of words

-- what words ask for: by a fault that clap finds in them, where it finds some; else by what it finds
abbrev pub AsksFor :
    {Found Asked : Type 0} → (ErrorKind → Asked → Type 0) → (Found → Asked → Type 0) → Kinds → Found → Asked
    → Type 0
AsksFor ByFault ByFound [] found asked = ByFound found asked
AsksFor ByFault ByFound (fault ∷ faults) found asked =
    (kind : ErrorKind) × IsAmong kind (fault ∷ faults) × ByFault kind asked

-- by the subcommand that clap finds, which has these rows; this comes of words without one
abbrev pub OfSubcommand :
    {Asked : Type 0} → (List ℕ → List Row → Asked → Type 0) → Asked → Option (List ℕ × List Row) → Asked → Type 0
OfSubcommand ByRows none None asked = asked ≡ none
OfSubcommand ByRows none (Some found) asked = ByRows found.0 found.1 asked
