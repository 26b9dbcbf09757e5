-- The command line that the program takes, as clap has it, and which words make which order.
use Rattle.std.specs.Prelude.{
  ◌≡◌,
  ◌⊎◌,
  ℕ,
  List,
  [],
  ◌∷◌,
  true,
  ◌≢◌,
  codes,
  map,
  Option,
  Some,
  None,
  option_map,
  MatchResult,
  Result,
  Ok,
  Err,
}
use Rattle.std.specs.Borrow.{Bor}
use Rattle.clap.specs.Words.{Row, Rule, first_of, new_rule}
use Rattle.clap.specs.Simple.{App, new_app, on_top, with_rule, with_subcommand}
use Rattle.clap.specs.Kinds.{Kinds}
use Rattle.clap.specs.declared.error.kind.ErrorKind.{ErrorKind}
use Rattle.clap.specs.declared.error.kind.ErrorKind.TheVariants.{DisplayHelp}
use Rattle.clap.specs.declared.builder.ArgAction.TheVariants.{Set}
use Rattle.irp_command_line.specs.CommandLine.{AsksFor, OfSubcommand, file_word, text_in}
use Rattle.irp_types.specs.declared.names.IrpRef.{IrpRef}
use Rattle.irp_program.specs.declared.words.Unasked.{Unasked}
use Rattle.irp_program.specs.declared.words.Unasked.TheVariants.{NoMemory, Usage}
use Rattle.irp_view.specs.Spans.{IsSpan, IsUse}
use Rattle.irp_view.specs.declared.orders.Asked.{Asked}
use Rattle.irp_view.specs.declared.orders.Order.{Order}
use Rattle.irp_view.specs.declared.orders.Order.TheVariants.{Help, Read}
use Rattle.irp_view.specs.declared.orders.Span.{Span}
use Rattle.irp_view.specs.declared.orders.Task.{Task}
use Rattle.irp_view.specs.declared.orders.Task.TheVariants.{Why, List as Listing, Story}

-- ---- the line

-- a word that has to be there
abbrev pub needed_word : List ℕ → Rule
needed_word name = record (new_rule name) { required = true }

-- the option `--entries`, which takes a text
abbrev pub entries_option : Rule
entries_option = record (new_rule (codes "entries")) { long = Some (codes "entries"); action = Some Set }

abbrev pub why_line : App
why_line = with_rule (new_app (codes "why")) file_word

abbrev pub text_line : App
text_line = with_rule (with_rule (new_app (codes "text")) file_word) entries_option

abbrev pub packet_line : App
packet_line =
    with_rule
    (with_rule
    (with_rule (with_rule (new_app (codes "packet")) (needed_word (codes "slot"))) (needed_word (codes "use")))
    file_word)
    entries_option

abbrev pub story_line : App
story_line = with_rule (new_app (codes "story")) file_word

-- the program, which needs one of its four subcommands
abbrev pub command_line : App
command_line =
    with_subcommand
    (with_subcommand
    (with_subcommand
    (with_subcommand
    (on_top (λ shape. record shape { subcommand_required = true }) (new_app (codes "irp_view")))
    why_line.top)
    text_line.top)
    packet_line.top)
    story_line.top

-- ---- what the words mean

-- the span that a text names, if there is a text
abbrev pub IsSpanOf : Option (List ℕ) → Option Span → Type 0
IsSpanOf None asked = asked ≡ None
IsSpanOf (Some text) asked = (span : Span) × IsSpan text span × (asked ≡ Some span)

-- the use that two texts name, where both are there
abbrev pub IsNeededUse : Option (List ℕ) → Option (List ℕ) → IrpRef → Type 0
IsNeededUse (Some slot) (Some use_no) irp = IsUse slot use_no irp
IsNeededUse slot use_no irp = ⊥

-- such a value; or other words than the program takes, where there is none
abbrev pub OrUsage : {T : Type 0} → (T → Type 0) → Result T Unasked → Type 0
OrUsage {T} Fits result =
    MatchResult result Fits (λ fault. (fault ≡ Usage) × ((value : T) → Fits value → ⊥))

-- the list of all entries, or of a span of them
abbrev pub ListsAll : List Row → Task → Type 0
ListsAll rows task =
    (span : Option Span) × IsSpanOf (first_of (codes "entries") rows) span × (task ≡ Listing None span)

-- the list of one packet's entries
abbrev pub ListsOne : List Row → Task → Type 0
ListsOne rows task =
    (irp : IrpRef) × (span : Option Span)
    × IsNeededUse (first_of (codes "slot") rows) (first_of (codes "use") rows) irp
    × IsSpanOf (first_of (codes "entries") rows) span × (task ≡ Listing (Some irp) span)

-- no subcommand of the program has this name
abbrev pub IsOther : List ℕ → Type 0
IsOther name =
    (name ≢ codes "why") × (name ≢ codes "text") × (name ≢ codes "packet") × (name ≢ codes "story")

-- what the subcommand of this name asks for, with these rows of options
pub record Asks (name : List ℕ) (rows : List Row) (task : Result Task Unasked) : Type 0 where
  pub why : name ≡ codes "why" → task ≡ Ok Why
  pub text : name ≡ codes "text" → OrUsage (ListsAll rows) task
  pub packet : name ≡ codes "packet" → OrUsage (ListsOne rows) task
  pub story : name ≡ codes "story" → task ≡ Ok Story
  pub other : IsOther name → task ≡ Err Usage

-- the task, with the file that the rows name if they name one; or the fault
abbrev pub IsReading : List Row → Result Task Unasked → Result Asked Unasked → Type 0
IsReading rows (Ok task) (Ok asked) =
    (asked.order ≡ Read task) × (text_in asked.file ≡ first_of (codes "file") rows)
IsReading rows (Err fault) (Err other) = other ≡ fault
IsReading rows (Ok task) (Err fault) = ⊥
IsReading rows (Err fault) (Ok asked) = ⊥

-- a transcript is read, from the file that the rows name if they name one, for what they ask
abbrev pub Reads : List ℕ → List Row → Result Asked Unasked → Type 0
Reads name rows result = (task : Result Task Unasked) × Asks name rows task × IsReading rows task result

-- ---- what comes of words

-- a fault of words asks for the help, where it is that; else they are none that the program takes
abbrev pub FaultedBy : ErrorKind → Result Asked Unasked → Type 0
FaultedBy kind (Ok asked) = (asked.order ≡ Help) × (asked.file ≡ None) × (kind ≡ DisplayHelp)
FaultedBy kind (Err Usage) = kind ≢ DisplayHelp
FaultedBy kind (Err other) = ⊥

-- what words ask for, in which clap finds these faults, or none and this subcommand; or memory ran out
abbrev pub AsksForOrMemory : Kinds → Option (List ℕ × List Row) → Result Asked Unasked → Type 0
AsksForOrMemory faults found result =
    (result ≡ Err NoMemory) ⊎ AsksFor FaultedBy (OfSubcommand Reads (Err Usage)) faults found result
