-- What stands before a step on its line: its seat, and what it hangs on.
use Rattle.std.specs.Prelude.{ℕ, ◌≡◌, ◌≢◌, ◌⊎◌, ◌||◌, bytes_eq, Bool, true, false, List, [], ◌∷◌, codes, drop, is_some, option_map, Option, Some, None}
use Rattle.std.specs.List.{find}
use Rattle.std.specs.Option.{option_or}
use Rattle.irp_types.specs.Refusal.{refusal_name, refusals}
use Rattle.irp_types.specs.declared.{status.Status.Status}
use Rattle.irp_forms.specs.Names.{first_named}
use Rattle.irp_forms.specs.Steps.{act_named}
use Rattle.irp_forms.specs.declared.key_parts.Part.TheVariants as part
use Rattle.irp_script_reader.specs.declared.condition.{Condition.Condition, ExpectedAnswer.ExpectedAnswer}
use Rattle.irp_script_reader.specs.declared.condition.AnswerWord.TheVariants as word
use Rattle.irp_script_reader.specs.declared.condition.ExpectedAnswer.TheVariants as answer
use Rattle.irp_grammar.specs.Lines.{next_of}
use Rattle.irp_grammar.specs.Naming.{Naming, TakesNumber}

-- the next word is this one, and these are behind it
abbrev pub Begins : List ℕ → List (List ℕ) → List (List ℕ) → Type 0
Begins text words rest = (next_of words ≡ text) × (rest ≡ drop 1 words)

-- the seat of a step: the first where none is named
abbrev pub TakesSeat : List Naming → List (List ℕ) → List (List ℕ) → ℕ → Type 0
TakesSeat names words rest seat =
    ((next_of words ≡ codes "seat") × TakesNumber names part.Seat (drop 1 words) rest seat)
    ⊎ ((next_of words ≢ codes "seat") × (seat ≡ 0) × (rest ≡ words))

-- the answers that have no value, each under its word
unfoldable pub answer_rows : List (List ℕ × ExpectedAnswer)
answer_rows =
    (codes "success", answer.Success)
    ∷ (codes "refused", answer.AnyRefusal)
    ∷ (codes "none", answer.Previous None)
    ∷ (codes "true", answer.Cancelled true)
    ∷ (codes "false", answer.Cancelled false)
    ∷ (codes "done", answer.Done)
    ∷ (codes "yes", answer.Word word.Yes)
    ∷ (codes "busy", answer.Word word.Busy)
    ∷ (codes "seat_full", answer.Word word.SeatFull)
    ∷ (codes "not_held", answer.Word word.NotHeld)
    ∷ (codes "already_removing", answer.Word word.AlreadyRemoving)
    ∷ (codes "no_lock", answer.Word word.NoLock)
    ∷ (codes "standing", answer.Word word.Standing)
    ∷ (codes "taken", answer.Word word.Taken)
    ∷ (codes "lost", answer.Word word.Lost)
    ∷ (codes "nothing", answer.Word word.Nothing)
    ∷ (codes "used", answer.Word word.Used)
    ∷ (codes "not_standing", answer.Word word.NotStanding)
    ∷ (codes "no_slot", answer.Word word.NoSlot)
    ∷ (codes "no_token", answer.Word word.NoToken)
    ∷ []

-- the answer that a word is: one of those, or a refusal by its name
abbrev pub answer_under : List ℕ → List (List ℕ × ExpectedAnswer) → Option ExpectedAnswer
answer_under text rows = option_map (λ row. row.1) (find (λ row. bytes_eq row.0 text) rows)

abbrev pub answer_named : List ℕ → Option ExpectedAnswer
answer_named text =
    option_or (answer_under text answer_rows) (option_map answer.Refusal (first_named refusal_name refusals text))

-- behind `routine` a cancel routine's number, unless a step's word stands there: then any routine is meant
abbrev pub begins_act : List ℕ → Bool
begins_act text = is_some (act_named text) || bytes_eq text (codes "stack")

abbrev pub TakesPrevious : List Naming → List (List ℕ) → List (List ℕ) → ExpectedAnswer → Type 0
TakesPrevious names words rest expected =
    ((expected ≡ answer.AnyRoutine) × (rest ≡ words))
    ⊎ ((begins_act (next_of words) ≡ false)
    × (number : ℕ) × (expected ≡ answer.Previous (Some (record { 0 = number }))) × TakesNumber names part.Cancel words rest number)

-- an answer without a value, or a refusal; or else a status
abbrev pub TakesStatus : List Naming → List (List ℕ) → List (List ℕ) → ExpectedAnswer → Type 0
TakesStatus names words rest expected =
    (number : ℕ) × (expected ≡ answer.Status (record { 0 = number })) × TakesNumber names part.Status words rest number

abbrev pub TakesNamed : List Naming → List (List ℕ) → List (List ℕ) → ExpectedAnswer → Type 0
TakesNamed names words rest expected =
    ((answer_named (next_of words) ≡ Some expected) × (rest ≡ drop 1 words))
    ⊎ ((answer_named (next_of words) ≡ None) × TakesStatus names words rest expected)

abbrev pub TakesAnswer : List Naming → List (List ℕ) → List (List ℕ) → ExpectedAnswer → Type 0
TakesAnswer names words rest expected =
    ((next_of words ≡ codes "routine") × TakesPrevious names (drop 1 words) rest expected)
    ⊎ ((next_of words ≢ codes "routine") × TakesNamed names words rest expected)

-- `is` or `is not`
abbrev pub TakesIs : List (List ℕ) → List (List ℕ) → Bool → Type 0
TakesIs words rest true = (next_of words ≡ codes "is") × (next_of (drop 1 words) ≢ codes "not") × (rest ≡ drop 1 words)
TakesIs words rest false = (next_of words ≡ codes "is") × (next_of (drop 1 words) ≡ codes "not") × (rest ≡ drop 1 (drop 1 words))

-- what a step hangs on, behind `if`
abbrev pub TakesTest : List Naming → List (List ℕ) → List (List ℕ) → Condition → Type 0
TakesTest names words rest condition =
    (behind between : List (List ℕ)) × TakesNumber names part.Step words behind condition.step
    × TakesIs behind between condition.wanted × TakesAnswer names between rest condition.answer

abbrev pub TakesCondition : List Naming → List (List ℕ) → List (List ℕ) → Option Condition → Type 0
TakesCondition names words rest (Some condition) =
    (next_of words ≡ codes "if") × TakesTest names (drop 1 words) rest condition
TakesCondition names words rest None = (next_of words ≢ codes "if") × (rest ≡ words)
