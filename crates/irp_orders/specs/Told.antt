-- What is told of the outcomes that were judged.
use Rattle.std.specs.Prelude.{ℕ, ◌≡◌, ◌+◌, ◌-◌, ◌^◌, min, Bool, true, false, List, [], ◌∷◌, ◌++◌, codes, Option, Some, None, length, slice_get}
use Rattle.std.specs.Fmt.{decimal}
use Rattle.std.specs.List.{count_by, flat_map}
use Rattle.irp_names.specs.Sinks.{Says}
use Rattle.irp_machine.specs.Answering.{IsToldOf}
use Rattle.irp_plain.specs.declared.answered.Told.{Told}
use Rattle.irp_orders.specs.Counts.{orders_text, outcomes_text}
use Rattle.irp_script_reader.specs.declared.script.ScriptParts.{ScriptParts}
use Rattle.irp_orders.specs.Judging.{AreMarks, Breaks, IsVerdict, verdict_ending}
use Rattle.irp_orders.specs.Lines.{line, told_lines}
use Rattle.irp_orders.specs.Rows.{all_orders, most_orders}
use Rattle.irp_orders.specs.Such.{PutsSuch}
use Rattle.irp_orders.specs.Table.{AreColumnsOf, end_lines, head_line}
use Rattle.irp_orders.specs.Wrongs.{wrong_lines}
use Rattle.irp_orders.specs.declared.columns.Columns.{Columns}
use Rattle.irp_orders.specs.declared.ending.Ending.{Ending}
use Rattle.irp_orders.specs.declared.found.Found.{Found}
use Rattle.irp_orders.specs.declared.judging.Question.{Question}
use Rattle.irp_orders.specs.declared.judging.Question.TheVariants.{Never, Right}

-- ---- counts

-- what is told before the counts: where no outcome breaks what is asked, and where some does
abbrev pub kept_words : Question → List ℕ
kept_words (Never condition) = codes "never: it holds in none of "
kept_words (Right setup) = codes "right: "

abbrev pub broken_words : Question → List ℕ
broken_words (Never condition) = codes "it holds in "
broken_words (Right setup) = codes "not right in "

-- the line where none does
abbrev pub kept_line : Question → List Found → List ℕ
kept_line question founds =
    line (kept_words question ++ (orders_text (all_orders 0 founds) ++ (codes ", " ++ outcomes_text (length founds))))

-- one more outcome is counted, where it is marked
abbrev pub with_orders : ℕ → Found → Bool → ℕ
with_orders orders found true = min (orders + found.orders) most_orders
with_orders orders found false = orders

-- those of these outcomes that are marked
abbrev pub marked : List Found → List Bool → List Found
marked [] marks = []
marked (found ∷ founds) [] = []
marked (found ∷ founds) (true ∷ marks) = found ∷ marked founds marks
marked (found ∷ founds) (false ∷ marks) = marked founds marks

-- the line where some does: how many outcomes do, and how many orders lead to these
abbrev pub broken_line : Question → List Found → List Bool → List ℕ
broken_line question founds marks =
    line (broken_words question ++ (decimal (all_orders 0 (marked founds marks)) ++ (codes " of "
    ++ (orders_text (all_orders 0 founds) ++ (codes ", " ++ (decimal (count_by (λ (mark : Bool). mark) marks)
    ++ (codes " of " ++ (outcomes_text (length founds) ++ codes "; one of them:"))))))))

-- ---- the outcome that is shown

-- the seats of an order's atomic steps, one after another
abbrev pub seat_text : ℕ → List ℕ
seat_text seat = codes " " ++ decimal seat

abbrev pub seats_line : List ℕ → List ℕ
seats_line path = line (codes "    the seats of its atomic steps:" ++ flat_map seat_text path)

-- the lines of an outcome, which has this number: its head, each step that was answered with its own answer, what the
-- outcome leaves, and the seats of its order
abbrev pub shown_lines : Columns → ℕ → Found → List Told → List ℕ
shown_lines columns number found told =
    head_line columns.orders number found ++ (told_lines columns.labels.now columns.script.now.steps told
    ++ (end_lines columns found.outcome.end ++ seats_line found.outcome.path.items))

-- these lines were put, along the order that leads to the outcome
abbrev pub PutsShown : Columns → ℕ → Found → Option (List ℕ) → Option (List ℕ) → Type 0
PutsShown columns number found before after =
    (told : List Told) × IsToldOf columns.script.now found.outcome.path.items told
    × Says (shown_lines columns number found told) before after

-- the number of the outcome at a place
abbrev pub number_at : ℕ → ℕ
number_at place = min (place + 1) (2 ^ 64 - 1)

-- a text stands behind the lines of an outcome that breaks what is asked: none; or a line for each thing that isn't right
-- of it, and the condition that such orders meet
abbrev pub Explains : Columns → Question → Found → List ℕ → List ℕ → Type 0
Explains columns (Never condition) found before after = after ≡ before
Explains columns (Right setup) found before after =
    PutsSuch columns.script.now found.outcome.end (before ++ wrong_lines columns.labels.now setup.now found) after

-- what stood before, the lines of an outcome at a place, and why it breaks what is asked
abbrev pub IsShownBehind : Columns → Question → ℕ → Found → List ℕ → List ℕ → Type 0
IsShownBehind columns question place found before text =
    (told : List Told) × IsToldOf columns.script.now found.outcome.path.items told
    × Explains columns question found (before ++ shown_lines columns (number_at place) found told) text

-- the same, behind the words that a sink has
abbrev pub IsShownIn : Columns → Question → ℕ → Found → Option (List ℕ) → List ℕ → Type 0
IsShownIn columns question place found out text =
    (before : List ℕ) × (out ≡ Some before) × IsShownBehind columns question place found before text

-- what is told where the outcome at a place shows that what is asked is broken
abbrev pub IsBrokenText : Columns → List Found → Question → List Bool → ℕ → List ℕ → Type 0
IsBrokenText columns founds question marks place text =
    (found : Found) × (slice_get founds place ≡ Some found)
    × IsShownBehind columns question place found (broken_line question founds marks) text

-- what is told of what was judged: that no outcome breaks what is asked, or the one that is shown
abbrev pub IsToldText : Columns → List Found → Question → List Bool → Option ℕ → List ℕ → Type 0
IsToldText columns founds question marks None text = text ≡ kept_line question founds
IsToldText columns founds question marks (Some place) text = IsBrokenText columns founds question marks place text

-- a text tells of the outcomes of a script what is asked: each is marked by whether it breaks it; none does, or one is shown
-- that does, with a path as short as any; the program ends so
pub record IsAnswerOf (script : ScriptParts) (question : Question) (founds : List Found) (text : List ℕ) (ending : Ending)
    : Type 0 where
  pub columns : Columns
  pub columns_are : AreColumnsOf script founds columns
  pub marks : List Bool
  pub marks_are : AreMarks (Breaks script.steps question) founds marks
  pub shown : Option ℕ
  pub verdict : IsVerdict (Breaks script.steps question) founds shown
  pub text_is : IsToldText columns founds question marks shown text
  pub ends : ending ≡ verdict_ending shown
