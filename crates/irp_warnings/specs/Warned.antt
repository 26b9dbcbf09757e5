-- What is warned of a script, by a run of it in the order of its text.
use Rattle.std.specs.Prelude.{ℕ, ◌≡◌, ◌+◌, ◌<◌, ◌≤◌, if◌then◌else◌, nat_lt, Bool, List, [], ◌∷◌, ◌++◌, length, map, take, slice_get, All, Option, Some, None}
use Rattle.std.specs.List.{AllPairs}
use Rattle.irp_transcript.specs.declared.header.Header.{Header}
use Rattle.irp_script_reader.specs.declared.act.Step.{Step}
use Rattle.irp_script_reader.specs.declared.refusal.Section.{Section}
use Rattle.irp_script_reader.specs.declared.refusal.Section.TheVariants.{Setup, Steps}
use Rattle.irp_script_reader.specs.declared.script.ScriptParts.{ScriptParts}
use Rattle.irp_plain.specs.declared.answered.Answered.{Answered}
use Rattle.irp_plain.specs.declared.parts.After.{After}
use Rattle.irp_plain.specs.declared.parts.After.TheVariants.{Told, Binds}
use Rattle.irp_machine.specs.Headers.{IsHeaderOf}
use Rattle.irp_machine.specs.Machine.{act_of}
use Rattle.irp_machine.specs.Runs.{RunValue, RunsOn, act_in, setup_run, steps_run}
use Rattle.irp_warnings.specs.Concerns.{Hint, concern_of, tells_of}
use Rattle.irp_warnings.specs.declared.warning.Concern.{Concern}
use Rattle.irp_warnings.specs.declared.warning.Warning.{Warning}

-- ---- a run in the order of the text

-- the atomic steps of a seat in the step of this place were made, one after another, until the seat is behind it; and
-- this is where the seat was behind each of them
abbrev pub Plays : RunValue → ℕ → ℕ → List After → RunValue → Type 0
Plays old seat place [] new = (old ≡ new) × (act_in place (act_of new.rules new.standing seat) ≡ None)
Plays old seat place (behind ∷ rest) new =
    (middle : RunValue)
    × RunsOn old seat (act_in place (act_of old.rules old.standing seat)) (Some behind) middle
    × Plays middle seat place rest new

-- what the act was answered, as far as this tells it
abbrev pub answer_behind : After → Option Answered → Option Answered
answer_behind (Told given) answer = Some given
answer_behind (Binds given irp) answer = Some given
answer_behind other answer = answer

abbrev pub last_answer : Option Answered → List After → Option Answered
last_answer answer [] = answer
last_answer answer (behind ∷ rest) = last_answer (answer_behind behind answer) rest

-- the step of this place was made whole, and was answered so; none is the answer where it was passed over
abbrev pub IsMade : RunValue → ℕ → ℕ → Option Answered → RunValue → Type 0
IsMade old seat place answer new =
    (behind : List After) × Plays old seat place behind new × (answer ≡ last_answer None behind)

-- the steps of a list
abbrev pub steps_in : ScriptParts → Section → List Step
steps_in script Setup = script.setup
steps_in script Steps = script.steps
steps_in script other = []

-- a step of a list that was made, or passed over: what it was answered, and where the run stood behind it
pub record MadeStep : Type 0 where
  pub section : Section
  pub index : ℕ
  pub step : Step
  pub answer : Option Answered
  pub run : RunValue

-- the first steps of a list were made, each whole before the next. Here the latest comes first
abbrev pub AreMade : ScriptParts → Section → RunValue → List MadeStep → RunValue → Type 0
AreMade script section start [] run = run ≡ start
AreMade script section start (one ∷ earlier) run =
    (before : RunValue) × AreMade script section start earlier before
    × (one.section ≡ section) × (one.index ≡ length earlier)
    × (slice_get (steps_in script section) one.index ≡ Some one.step)
    × IsMade before one.step.seat one.index one.answer one.run
    × (one.run ≡ run)

-- a script was run in the order of its text: its whole setup was made, and then all of its steps. The latest comes first
pub record IsCourse (script : ScriptParts) (course : List MadeStep) : Type 0 where
  pub header : Header
  pub headed : IsHeaderOf script header
  pub setup : List MadeStep
  pub opened : RunValue
  pub setup_made : AreMade script Setup (setup_run header script) setup opened
  pub setup_whole : length setup ≡ length script.setup
  pub steps : List MadeStep
  pub ended : RunValue
  pub steps_made : AreMade script Steps (steps_run opened) steps ended
  pub steps_whole : length steps ≡ length script.steps
  pub is : course ≡ steps ++ setup

-- ---- warnings

-- what a warning tells, and of which step
abbrev pub hint_of : Warning → Hint
hint_of warning = record { section = warning.section; index = warning.index; concern = warning.concern }

abbrev pub hints_of : List Warning → List Hint
hints_of found = map hint_of found

-- a warning tells that this label isn't bound
abbrev pub tells : ℕ → Warning → Bool
tells label warning = tells_of label warning.concern

-- this concern of a step, if any
abbrev pub hinted : Section → ℕ → Option Concern → List Hint
hinted section index None = []
hinted section index (Some concern) = record { section = section; index = index; concern = concern } ∷ []

-- what isn't meant in a step that was made behind those of which this is told
abbrev pub hints_in : ScriptParts → MadeStep → List Hint → List Hint
hints_in script one told = hinted one.section one.index (concern_of script one.run told one.step one.answer)

-- what isn't meant in steps that were made, in the order of the text
abbrev pub hints : ScriptParts → List MadeStep → List Hint
hints script [] = []
hints script (one ∷ earlier) = hints script earlier ++ hints_in script one (hints script earlier)

-- the warnings tell the first 100 of what isn't meant in the steps that were made
abbrev pub AreFirst : ScriptParts → List MadeStep → List Warning → Type 0
AreFirst script course found = hints_of found ≡ take 100 (hints script course)

-- The warnings of a script tell what isn't meant in its steps, as it is run in the order of its text, each once, in that
-- order; but no more than the first 100.
abbrev pub AreWarnings : ScriptParts → List Warning → Type 0
AreWarnings script found = (course : List MadeStep) × IsCourse script course × AreFirst script course found

-- more is told, where there is room
abbrev pub with_hints : List Hint → List Hint → List Hint
with_hints more told = if nat_lt (length told) 100 then told ++ more else told

-- so many steps of a list were made, and what isn't meant in them is told behind the warnings of those before
abbrev pub Goes : ScriptParts → Section → RunValue → List Warning → ℕ → RunValue → List Warning → Type 0
Goes script section start old count run new =
    (earlier : List MadeStep) → AreFirst script earlier old
    → (made : List MadeStep) × AreMade script section start made run × (length made ≡ count)
    × AreFirst script (made ++ earlier) new

-- ---- where they stand

-- the steps of the lists before
abbrev pub steps_before : ScriptParts → Section → List Step
steps_before script Steps = script.setup
steps_before script other = []

-- a step's place in the text, where the setup stands before the steps
abbrev pub place_in : ScriptParts → Section → ℕ → ℕ
place_in script section index = length (steps_before script section) + index

abbrev pub place_of : ScriptParts → Hint → ℕ
place_of script hint = place_in script hint.section hint.index

-- what is told names a step that is there, before this place
pub record IsThere (script : ScriptParts) (limit : ℕ) (hint : Hint) : Type 0 where
  pub within : hint.index < length (steps_in script hint.section)
  pub before : place_of script hint < limit

-- There are 100 warnings at most. Each names a step that is there, before this place, and they stand in the order of the
-- text: no two at one step.
pub record AreInOrder (script : ScriptParts) (limit : ℕ) (found : List Warning) : Type 0 where
  pub few : length found ≤ 100
  pub there : All (IsThere script limit) (hints_of found)
  pub order : AllPairs (λ one later. place_of script one < place_of script later) (hints_of found)
