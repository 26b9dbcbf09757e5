-- What the program does for its words.
use Rattle.std.specs.Prelude.{ℕ, ◌≡◌, ◌⊎◌, ◌==◌, Bool, true, false, codes, Err, List, None, Ok, Option, Result, Some}
use Rattle.std.specs.Borrow.{Bor}
use Rattle.std.specs.List.{ends_with}
use Rattle.clap.specs.Words.{fault_of, matches_of}
use Rattle.irp_command_line.specs.CommandLine.{text_in}
use Rattle.irp_program.specs.Opening.{IsUnopened}
use Rattle.irp_program.specs.declared.opening.Unopened.{Unopened}
use Rattle.irp_orders.specs.CommandLine.{AsksForOrMemory, command_line}
use Rattle.irp_orders.specs.Ending.{of_unopened}
use Rattle.irp_orders.specs.Program.{Explores, ExploresWords, IsSent}
use Rattle.irp_orders.specs.declared.asked.Asked.{Asked}
use Rattle.irp_orders.specs.declared.asked.Asked.TheVariants.{Explore, Help}
use Rattle.irp_orders.specs.declared.asked.Order.{Order}
use Rattle.irp_orders.specs.declared.ending.Ending.{Ending}
use Rattle.irp_orders.specs.declared.ending.Ending.TheVariants.{Done}

-- nothing went out, and this is how it ends
abbrev pub EndsWith : Ending → Option (List ℕ) → Option (List ℕ) → Ending → Type 0
EndsWith fault before after ending = (ending ≡ fault) × (after ≡ before)

-- the file of this name isn't opened
abbrev pub OpensNone : Option (Bor (List ℕ)) → Option (List ℕ) → Option (List ℕ) → Ending → Type 0
OpensNone None before after ending = ⊥
OpensNone (Some name) before after ending =
    (unopened : Unopened) × IsUnopened name.now unopened × EndsWith (of_unopened unopened) before after ending

-- whether a file's name says that its script is in words
abbrev pub is_in_words : Option (List ℕ) → Bool
is_in_words None = false
is_in_words (Some name) = ends_with (λ one other. one == other) name (codes ".words")

-- the orders are explored of a script in words, or of one of JSON
abbrev pub ExploresAs : Bool → Order → Option (List ℕ) → Option (List ℕ) → Ending → Type 0
ExploresAs true order before after ending =
    (left rest : Option (List ℕ)) × ExploresWords order left rest before after ending
ExploresAs false order before after ending =
    (left rest : Option (List ℕ)) × Explores order left rest before after ending

-- the orders are explored of the script in the file of this name, or in standard input; or the file isn't opened
abbrev pub ExploresIn :
    Order → Option (Bor (List ℕ)) → Option (List ℕ) → Option (List ℕ) → Ending → Type 0
ExploresIn order file before after ending =
    ExploresAs (is_in_words (text_in file)) order before after ending ⊎ OpensNone file before after ending

-- the help goes out, or the orders are explored
abbrev pub Does : Asked → Option (List ℕ) → Option (List ℕ) → Ending → Type 0
Does Help before after ending = IsSent Done ending
Does (Explore order file) before after ending = ExploresIn order file before after ending

abbrev pub DoesAsked : Result Asked Ending → Option (List ℕ) → Option (List ℕ) → Ending → Type 0
DoesAsked (Ok asked) before after ending = Does asked before after ending
DoesAsked (Err fault) before after ending = EndsWith fault before after ending

-- what the words ask for is done
abbrev pub ObeysWords : List (List ℕ) → Option (List ℕ) → Option (List ℕ) → Ending → Type 0
ObeysWords words before after ending =
    (asked : Result Asked Ending)
    × AsksForOrMemory (fault_of command_line words) (matches_of command_line words) asked
    × DoesAsked asked before after ending
