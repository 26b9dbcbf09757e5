-- What the program does for its words.
use Rattle.std.specs.Prelude.{ℕ, ◌≡◌, ◌⊎◌, List, None, Ok, Option, Result, Some, Err}
use Rattle.std.specs.Borrow.{Bor}
use Rattle.clap.specs.Words.{fault_of, subcommand_of}
use Rattle.irp_program.specs.Opening.{IsUnopened}
use Rattle.irp_program.specs.declared.opening.Unopened.{Unopened}
use Rattle.irp_program.specs.declared.words.Unasked.{Unasked}
use Rattle.irp_words.specs.CommandLine.{AsksForOrMemory, command_line}
use Rattle.irp_words.specs.Ending.{of_unopened, of_words}
use Rattle.irp_words.specs.Telling.{IsSent, ObeysOn, PrintsWhole}
use Rattle.irp_words.specs.declared.ending.Ending.{Ending}
use Rattle.irp_words.specs.declared.ending.Ending.TheVariants.{Done}
use Rattle.irp_words.specs.declared.orders.Asked.{Asked}
use Rattle.irp_words.specs.declared.orders.Order.{Order}
use Rattle.irp_words.specs.declared.orders.Order.TheVariants.{Help, Read, Tables}

-- nothing went out, and this is how it ends
abbrev pub EndsWith : Ending → Option (List ℕ) → Option (List ℕ) → Ending → Type 0
EndsWith fault before after ending = (ending ≡ fault) × (after ≡ before)

-- the file of this name isn't opened
abbrev pub OpensNone : Option (Bor (List ℕ)) → Option (List ℕ) → Option (List ℕ) → Ending → Type 0
OpensNone None before after ending = ⊥
OpensNone (Some name) before after ending =
    (unopened : Unopened) × IsUnopened name.now unopened × EndsWith (of_unopened unopened) before after ending

-- a text goes out as the help, or the tables do; or this is done with a text that is read
abbrev pub Does : Order → Option (List ℕ) → Option (List ℕ) → Ending → Type 0
Does Help before after ending = (text : List ℕ) × IsSent text Done before after ending
Does Tables before after ending = PrintsWhole ending before after
Does (Read task) before after ending = (input : Option (List ℕ)) × ObeysOn task input ending before after

-- what is asked for is done, with the file that is named or with standard input; or the file isn't opened
abbrev pub DoesOn : Asked → Option (List ℕ) → Option (List ℕ) → Ending → Type 0
DoesOn asked before after ending =
    Does asked.order before after ending ⊎ OpensNone asked.file before after ending

abbrev pub DoesAsked : Result Asked Unasked → Option (List ℕ) → Option (List ℕ) → Ending → Type 0
DoesAsked (Ok asked) before after ending = DoesOn asked before after ending
DoesAsked (Err unasked) before after ending = EndsWith (of_words unasked) before after ending

-- what the words ask for is done
abbrev pub ObeysWords : List (List ℕ) → Option (List ℕ) → Option (List ℕ) → Ending → Type 0
ObeysWords words before after ending =
    (asked : Result Asked Unasked)
    × AsksForOrMemory (fault_of command_line words) (subcommand_of command_line words) asked
    × DoesAsked asked before after ending
