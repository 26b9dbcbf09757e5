-- The command line that the program takes, as clap has it, and which words make which order.
use Rattle.std.specs.Prelude.{
  ℕ,
  ◌≡◌,
  ◌≢◌,
  ◌⊎◌,
  ⊤,
  Bool,
  true,
  false,
  codes,
  List,
  Option,
  Some,
  None,
  Result,
  Ok,
  Err,
}
use Rattle.std.specs.Borrow.{Bor}
use Rattle.clap.specs.Kinds.{Kinds}
use Rattle.clap.specs.Simple.{App, new_app, new_rule, with_rule}
use Rattle.clap.specs.Walk.{Row, Rule, first_of, one_of}
use Rattle.clap.specs.declared.builder.action.ArgAction.TheVariants.{Set}
use Rattle.clap.specs.declared.builder.value_parser.ValueParser.TheVariants as parser
use Rattle.clap.specs.declared.error.kind.ErrorKind.{ErrorKind}
use Rattle.clap.specs.declared.error.kind.ErrorKind.TheVariants.{DisplayHelp}
use Rattle.irp_command_line.specs.CommandLine.{AsksFor, SaysFlag, Writes, file_word, flag_option, text_in}
use Rattle.irp_orders.specs.declared.asked.Asked.{Asked}
use Rattle.irp_orders.specs.declared.asked.Asked.TheVariants.{Explore, Help}
use Rattle.irp_orders.specs.declared.asked.Order.{Order}
use Rattle.irp_orders.specs.declared.asked.Task.{Task}
use Rattle.irp_orders.specs.declared.asked.Task.TheVariants as told
use Rattle.irp_orders.specs.declared.ending.Ending.{Ending}
use Rattle.irp_orders.specs.declared.ending.Ending.TheVariants.{NoMemory, NotBesideRight, OtherWords}

-- ---- what clap is told

-- a word with a number behind it, as `--states 1000`
abbrev pub number_option : List ℕ → Rule
number_option name =
    record (new_rule name) { long = Some name; parser = Some (parser.Unsigned 0 18446744073709551615) }

-- a word with a text behind it
abbrev pub text_option : List ℕ → Rule
text_option name = record (new_rule name) { long = Some name; action = Some Set }

-- a file's name, and the words that may stand beside it
abbrev pub command_line : App
command_line =
    with_rule (with_rule (with_rule (with_rule (with_rule (with_rule (with_rule (with_rule
    (new_app (codes "irp_orders")) file_word)
    (flag_option (codes "ends"))) (flag_option (codes "groups"))) (flag_option (codes "right")))
    (number_option (codes "states"))) (number_option (codes "outcomes"))) (number_option (codes "show")))
    (text_option (codes "never"))

-- ---- what the words have, by the rows that clap finds in them

-- the number behind a word; none where the word isn't among them, or no number stands behind it
abbrev pub IsNumber : Option (List ℕ) → Option ℕ → Type 0
IsNumber None None = ⊤
IsNumber None (Some number) = ⊥
IsNumber (Some text) None = (number : ℕ) → Writes text number → ⊥
IsNumber (Some text) (Some number) = Writes text number

abbrev pub SaysNumber : List Row → List ℕ → Option ℕ → Type 0
SaysNumber rows name number = IsNumber (one_of name rows) number

-- the number behind a word, or this one where there is none
abbrev pub SaysNumberOr : List Row → List ℕ → ℕ → ℕ → Type 0
SaysNumberOr rows name missing number =
    SaysNumber rows name (Some number) ⊎ (SaysNumber rows name None × (number ≡ missing))

-- ---- which order they make

-- what is to be told by `--show` and `--never`: one of them, or neither for the table
abbrev pub AsksTask : List Row → Task → Type 0
AsksTask rows told.Table = SaysNumber rows (codes "show") None × (first_of (codes "never") rows ≡ None)
AsksTask rows (told.Show number) =
    SaysNumber rows (codes "show") (Some number) × (first_of (codes "never") rows ≡ None)
AsksTask rows (told.Never text) =
    SaysNumber rows (codes "show") None × (first_of (codes "never") rows ≡ Some text.now)
AsksTask rows told.Right = ⊥

-- both are among the words
abbrev pub AsksBoth : List Row → Type 0
AsksBoth rows =
    (number : ℕ) × (text : List ℕ) × SaysNumber rows (codes "show") (Some number)
    × (first_of (codes "never") rows ≡ Some text)

-- `--right` asks whether every order is right: without `--show`, `--never` and `--ends`
abbrev pub MakesTask : List Row → Bool → Bool → Task → Type 0
MakesTask rows false by_ends task = AsksTask rows task
MakesTask rows true by_ends task = AsksTask rows told.Table × (by_ends ≡ false) × (task ≡ told.Right)

-- some other of these words stands beside `--right`
abbrev pub IsBeside : List Row → Type 0
IsBeside rows = (task : Task) × AsksTask rows task × ((task ≢ told.Table) ⊎ SaysFlag rows (codes "ends") true)

-- the words make this order, whose bounds are 500,000 states and 20,000 outcomes where they name none
pub record MakesOrder (rows : List Row) (order : Order) : Type 0 where
  pub right : Bool
  pub has_right : SaysFlag rows (codes "right") right
  pub task : MakesTask rows right order.by_ends order.task
  pub by_ends : SaysFlag rows (codes "ends") order.by_ends
  pub in_groups : SaysFlag rows (codes "groups") order.in_groups
  pub states : SaysNumberOr rows (codes "states") 500000 order.states
  pub outcomes : SaysNumberOr rows (codes "outcomes") 20000 order.outcomes

-- the name of a file, where the words have one
abbrev pub NamesFile : List Row → Option (Bor (List ℕ)) → Type 0
NamesFile rows file = text_in file ≡ first_of (codes "file") rows

-- why they make none: `--show` stands beside `--never`, or one of the other words beside `--right`
abbrev pub MakesNone : List Row → Ending → Type 0
MakesNone rows OtherWords = AsksBoth rows
MakesNone rows NotBesideRight = SaysFlag rows (codes "right") true × IsBeside rows
MakesNone rows other = ⊥

abbrev pub Makes : List Row → Result Asked Ending → Type 0
Makes rows (Ok Help) = ⊥
Makes rows (Ok (Explore order file)) = MakesOrder rows order × NamesFile rows file
Makes rows (Err ending) = MakesNone rows ending

-- ---- what comes of words

-- what a fault of words asks for: the help, where it is that; else they are none that the program takes
abbrev pub FaultedBy : ErrorKind → Result Asked Ending → Type 0
FaultedBy kind (Ok Help) = kind ≡ DisplayHelp
FaultedBy kind (Err OtherWords) = kind ≢ DisplayHelp
FaultedBy kind other = ⊥

-- what words ask for, in which clap finds these faults, or none and these rows; or memory ran out
abbrev pub AsksForOrMemory : Kinds → List Row → Result Asked Ending → Type 0
AsksForOrMemory faults rows asked = (asked ≡ Err NoMemory) ⊎ AsksFor FaultedBy Makes faults rows asked
