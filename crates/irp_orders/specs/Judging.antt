-- Which outcomes break what is asked of orders, and which of them is shown.
use Rattle.std.specs.Prelude.{ℕ, ◌≡◌, ◌<◌, ◌≤◌, ◌↔◌, Bool, true, false, IsTrue, List, length, slice_get, slice_index_or, Option, Some, None, All}
use Rattle.std.specs.List.{AllZip}
use Rattle.std.specs.Option.{option_map_or}
use Rattle.irp_types.specs.declared.entry.Entry.{Entry}
use Rattle.irp_condition.specs.declared.condition.Condition.{Condition}
use Rattle.irp_script_reader.specs.declared.act.Step.{Step}
use Rattle.irp_script_reader.specs.declared.script.ScriptParts.{ScriptParts}
use Rattle.irp_orders.specs.Conditions.{Says}
use Rattle.irp_orders.specs.Facts.{Meets}
use Rattle.irp_orders.specs.Right.{IsRight, IsSetup}
use Rattle.irp_orders.specs.declared.ending.Ending.{Ending}
use Rattle.irp_orders.specs.declared.ending.Ending.TheVariants.{Done, Broken}
use Rattle.irp_orders.specs.declared.found.Found.{Found}
use Rattle.irp_orders.specs.declared.judging.Question.{Question}
use Rattle.irp_orders.specs.declared.judging.Question.TheVariants.{Never, Right}

-- an outcome that was found meets a condition
abbrev pub IsBreach : List Step → Condition → Found → Type 0
IsBreach steps condition found = Meets steps condition found.outcome.end

-- an outcome that was found isn't right, behind the setup that these entries tell
abbrev pub IsWrong : List Step → List Entry → Found → Type 0
IsWrong steps setup found = IsRight steps setup found.outcome.end → ⊥

-- a mark for each outcome, by place: whether it breaks what is asked
abbrev pub AreMarks : (Found → Type 0) → List Found → List Bool → Type 0
AreMarks Breaks founds marks = AllZip (λ found mark. IsTrue mark ↔ Breaks found) founds marks

-- an outcome that was found breaks what is asked
abbrev pub Breaks : List Step → Question → Found → Type 0
Breaks steps (Never condition) = IsBreach steps condition.now
Breaks steps (Right setup) = IsWrong steps setup.now

-- how many atomic steps the path of an outcome has
abbrev pub steps_of : Found → ℕ
steps_of found = length found.outcome.path.items

abbrev pub steps_at : List Found → ℕ → ℕ
steps_at founds place = option_map_or steps_of (slice_get founds place) 0

-- whether the outcome at a place is marked
abbrev pub is_marked : List Bool → ℕ → Bool
is_marked marks place = slice_index_or marks place false

-- of the outcomes below a place, this one is marked, and no marked one has a shorter path; or none is marked
abbrev pub IsShortestBelow : List Found → List Bool → ℕ → Option ℕ → Type 0
IsShortestBelow founds marks count None = (place : ℕ) → place < count → is_marked marks place ≡ false
IsShortestBelow founds marks count (Some shown) =
    (shown < count) × (is_marked marks shown ≡ true)
    × ((place : ℕ) → place < count → is_marked marks place ≡ true → steps_at founds shown ≤ steps_at founds place)

-- an outcome breaks what is asked, and none that does has a shorter path
pub record IsShortest (Breaks : Found → Type 0) (founds : List Found) (found : Found) : Type 0 where
  pub breach : Breaks found
  pub shortest : All (λ other. Breaks other → steps_of found ≤ steps_of other) founds

-- no outcome breaks what is asked; or the one at this place does, with a path that is as short as any
abbrev pub IsVerdict : (Found → Type 0) → List Found → Option ℕ → Type 0
IsVerdict Breaks founds None = All (λ found. Breaks found → ⊥) founds
IsVerdict Breaks founds (Some place) =
    (found : Found) × (slice_get founds place ≡ Some found) × IsShortest Breaks founds found

-- how the program ends by what was judged
abbrev pub verdict_ending : Option ℕ → Ending
verdict_ending None = Done
verdict_ending (Some place) = Broken

-- the outcomes that were found are judged by what breaks what is asked of them; the program ends so
pub record IsJudged (Breaks : Found → Type 0) (founds : List Found) (ending : Ending) : Type 0 where
  pub shown : Option ℕ
  pub verdict : IsVerdict Breaks founds shown
  pub ends : ending ≡ verdict_ending shown

-- a text says a condition of a script, and the outcomes that were found are judged by it; the program ends so
pub record IsTold (script : ScriptParts) (tells : Bool) (text : List ℕ) (founds : List Found) (ending : Ending)
    : Type 0 where
  pub condition : Condition
  pub says : Says script tells text condition
  pub judged : IsJudged (IsBreach script.steps condition) founds ending

-- the outcomes that were found are judged by whether they are right; the program ends so
pub record IsExamined (script : ScriptParts) (founds : List Found) (ending : Ending) : Type 0 where
  pub setup : List Entry
  pub set_up : IsSetup script setup
  pub judged : IsJudged (IsWrong script.steps setup) founds ending
