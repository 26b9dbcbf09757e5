-- The command line that the program takes, as clap has it, and which words make which order.
use Rattle.std.specs.Prelude.{
  ◌≡◌,
  ◌≢◌,
  ◌⊎◌,
  ℕ,
  List,
  codes,
  true,
  Option,
  None,
  Result,
  Ok,
  Err,
}
use Rattle.clap.specs.Kinds.{Kinds}
use Rattle.clap.specs.Simple.{App, new_app, on_top, with_rule, with_subcommand}
use Rattle.clap.specs.Words.{Row, first_of}
use Rattle.clap.specs.declared.error.kind.ErrorKind.{ErrorKind}
use Rattle.clap.specs.declared.error.kind.ErrorKind.TheVariants.{DisplayHelp}
use Rattle.irp_program.specs.declared.words.Unasked.{Unasked}
use Rattle.irp_program.specs.declared.words.Unasked.TheVariants.{NoMemory, Usage}
use Rattle.irp_command_line.specs.CommandLine.{AsksFor, OfSubcommand, SaysFlag, file_word, flag_option, text_in}
use Rattle.irp_words.specs.declared.orders.Asked.{Asked}
use Rattle.irp_words.specs.declared.orders.Order.{Order}
use Rattle.irp_words.specs.declared.orders.Order.TheVariants.{Help, Read, Tables}
use Rattle.irp_words.specs.declared.orders.Task.TheVariants.{Faults, Json, Words}

-- ---- the line

abbrev pub json_line : App
json_line = with_rule (new_app (codes "json")) file_word

abbrev pub words_line : App
words_line = with_rule (new_app (codes "words")) file_word

abbrev pub tables_line : App
tables_line = new_app (codes "tables")

abbrev pub faults_line : App
faults_line = with_rule (with_rule (new_app (codes "faults")) file_word) (flag_option (codes "strict"))

-- the program, which needs one of its four subcommands
abbrev pub command_line : App
command_line =
    with_subcommand
    (with_subcommand
    (with_subcommand
    (with_subcommand
    (on_top (λ shape. record shape { subcommand_required = true }) (new_app (codes "irp_words")))
    json_line.top)
    words_line.top)
    tables_line.top)
    faults_line.top

-- ---- what the words mean

-- the subcommand of this name, with these rows of options, makes this order
abbrev pub Orders : List ℕ → List Row → Order → Type 0
Orders name rows Help = ⊥
Orders name rows Tables = name ≡ codes "tables"
Orders name rows (Read Json) = name ≡ codes "json"
Orders name rows (Read Words) = name ≡ codes "words"
Orders name rows (Read (Faults strict)) = (name ≡ codes "faults") × SaysFlag rows (codes "strict") strict

-- no subcommand of the program has this name
abbrev pub IsOther : List ℕ → Type 0
IsOther name =
    (name ≢ codes "json") × (name ≢ codes "words") × (name ≢ codes "faults") × (name ≢ codes "tables")

-- the file that the rows name, where a text is read
abbrev pub file_for : Order → List Row → Option (List ℕ)
file_for (Read task) rows = first_of (codes "file") rows
file_for Help rows = None
file_for Tables rows = None

-- what the subcommand of this name asks for, with these rows of options
abbrev pub Asks : List ℕ → List Row → Result Asked Unasked → Type 0
Asks name rows (Ok asked) = Orders name rows asked.order × (text_in asked.file ≡ file_for asked.order rows)
Asks name rows (Err fault) = (fault ≡ Usage) × IsOther name

-- ---- what comes of words

-- a fault of words asks for the help, where it is that; else they are none that the program takes
abbrev pub FaultedBy : ErrorKind → Result Asked Unasked → Type 0
FaultedBy kind (Ok asked) = (asked.order ≡ Help) × (asked.file ≡ None) × (kind ≡ DisplayHelp)
FaultedBy kind (Err Usage) = kind ≢ DisplayHelp
FaultedBy kind (Err other) = ⊥

-- what words ask for, in which clap finds these faults, or none and this subcommand; or memory ran out
abbrev pub AsksForOrMemory : Kinds → Option (List ℕ × List Row) → Result Asked Unasked → Type 0
AsksForOrMemory faults found result =
    (result ≡ Err NoMemory) ⊎ AsksFor FaultedBy (OfSubcommand Asks (Err Usage)) faults found result
