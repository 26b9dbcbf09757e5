-- The blocks of the entries that are chosen, and the lines of word lines.
use Rattle.std.specs.Prelude.{ℕ, ◌≡◌, ◌⊎◌, List, [], ◌∷◌, ◌++◌, codes, Bool, true, false, Option}
use Rattle.std.specs.List.{flat_map}
use Rattle.irp_types.specs.declared.entry.Entry.{Entry}
use Rattle.irp_listing.specs.Blocks.{IsBlock, block_after}
use Rattle.irp_listing.specs.Choosing.{IsChosen}
use Rattle.irp_listing.specs.Lines.{further_of}
use Rattle.irp_listing.specs.WordLines.{word_line_text}
use Rattle.irp_transcript.specs.declared.word_line.WordLine.{WordLine}
use Rattle.irp_types.specs.declared.names.IrpRef.{IrpRef}
use Rattle.irp_listing.specs.declared.choosing.Choice.{Choice}

-- this text stands for an entry: its block where it is chosen, and else nothing
abbrev pub StandsFor : Option IrpRef → Entry → List ℕ → Type 0
StandsFor only entry text =
    (IsChosen only entry × IsBlock entry text) ⊎ ((IsChosen only entry → ⊥) × (text ≡ []))

-- the text that stands for these entries, one after the other: a block for each that is chosen, in order, and no other
abbrev pub IsListing : Option IrpRef → List Entry → List ℕ → Type 0
IsListing only [] text = text ≡ []
IsListing only (entry ∷ entries) text =
    (first rest : List ℕ) × StandsFor only entry first × IsListing only entries rest × (text ≡ first ++ rest)

-- what stands for an entry was put behind what stood there
pub record AddsChosen (only : Option IrpRef) (entry : Entry) (before after : List ℕ) : Type 0 where
  pub text : List ℕ
  pub stands : StandsFor only entry text
  pub put : after ≡ before ++ text

-- the block of the last of the entries so far was put behind what stood there, where it is chosen, and else nothing
abbrev pub PutsLast : Choice → List Entry → Entry → List ℕ → List ℕ → Type 0
PutsLast choice so_far entry before after =
    (IsChosen choice.only entry × (after ≡ before ++ block_after choice.tells_seats so_far entry))
    ⊎ ((IsChosen choice.only entry → ⊥) × (after ≡ before))

-- the heading above word lines
abbrev pub words_heading : List ℕ
words_heading = codes "Steps on remove locks and cancel slots:" ++ 10 ∷ []

-- it stands above the first, and nothing above another
abbrev pub heading_above : Bool → List ℕ
heading_above true = words_heading
heading_above false = []

-- the line of a word line
abbrev pub word_line_of : WordLine → List ℕ
word_line_of line = further_of (word_line_text line)

-- the text of word lines: the heading, and a line for each; nothing where there is none
abbrev pub word_lines_of : List WordLine → List ℕ
word_lines_of [] = []
word_lines_of (line ∷ lines) = words_heading ++ flat_map word_line_of (line ∷ lines)

-- there is no word line
abbrev pub are_none : List WordLine → Bool
are_none [] = true
are_none (line ∷ lines) = false

-- the line of one more was put behind what stood there, below the heading if it is the first
abbrev pub AddsWordLine : Bool → WordLine → List ℕ → List ℕ → Type 0
AddsWordLine is_first line before after = after ≡ before ++ (heading_above is_first ++ word_line_of line)
