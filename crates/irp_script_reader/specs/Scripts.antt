-- Whole scripts. The first fault is given: the text's length, whether it is JSON, its form, its keys, and then the
-- parts in order.
use Rattle.std.specs.Prelude.{◌≡◌, ◌⊎◌, ℕ, ◌<◌, ◌≤◌, ◌==◌, ◌&&◌, Bool, List, [], ◌∷◌, length, codes, IsUtf8}
use Rattle.std.specs.Prelude.{true, false, nat_le, Option, Some, None, Result, Ok, Err, if◌then◌else◌}
use Rattle.std.specs.Option.{ok_or, option_and_then}
use Rattle.serde_json.specs.Data.{Data}
use Rattle.serde_json.specs.Find.{get}
use Rattle.serde_json.specs.Read.{read}
use Rattle.irp_forms.specs.Parts.{only_keys, u32_at}
use Rattle.irp_types.specs.State.{no_routines}
use Rattle.irp_types.specs.declared.{answer.Plan.Plan, routine.Known.Known}
use Rattle.irp_script_reader.specs.Members.{takes_cancel, takes_completion, takes_dispatch, takes_driver, takes_step}
use Rattle.irp_script_reader.specs.Taking.{◌>>=◌, list_at}
use Rattle.irp_script_reader.specs.declared.{act.Step.Step, read.FormKey.FormKey}
use Rattle.irp_script_reader.specs.declared.lists.{Cancels.Cancels, Drivers.Drivers, Steps.Steps}
use Rattle.irp_script_reader.specs.declared.refusal.{ScriptFault.ScriptFault, ScriptRefusal.ScriptRefusal}
use Rattle.irp_script_reader.specs.declared.refusal.{Section.Section}
use Rattle.irp_script_reader.specs.declared.script.{CompletionRoutine.CompletionRoutine, Script.Script}
use Rattle.irp_script_reader.specs.declared.script.{ScriptForm.ScriptForm}
use Rattle.irp_script_reader.specs.declared.script.ScriptParts.{ScriptParts}
use Rattle.irp_script_reader.specs.declared.read.FormKey.TheVariants as keys
use Rattle.irp_script_reader.specs.declared.refusal.MemberFault.TheVariants.{BadField}
use Rattle.irp_script_reader.specs.declared.refusal.ScriptFault.TheVariants.{Refused, NoMemory}
use Rattle.irp_script_reader.specs.declared.refusal.ScriptRefusal.TheVariants.{TooLong, NotJson, BadForm, At}
use Rattle.irp_script_reader.specs.declared.refusal.Section.TheVariants as section
use Rattle.irp_script_reader.specs.declared.script.ScriptForm.TheVariants as forms

-- the form that has this number
abbrev pub form_of : Option ℕ → Result FormKey ScriptRefusal
form_of None = Err BadForm
form_of (Some given) =
    if given == 1 then Ok keys.One else
    (if given == 2 then Ok keys.Two else (if given == 4 then Ok keys.Four else Err BadForm))

-- what a script has under `form`; only an object has that
unfoldable pub form_at : Data → Result FormKey ScriptRefusal
form_at whole = form_of (option_and_then u32_at (get (codes "form") whole))

-- the key that a script of this form has beside those of all forms
abbrev pub beside : FormKey → List (List ℕ)
beside keys.One = []
beside keys.Two = codes "slots" ∷ []
beside keys.Four = codes "slots" ∷ []

-- the keys of a script of this form
abbrev pub its_keys : FormKey → List (List ℕ)
its_keys given =
    codes "cancels" ∷ codes "completions" ∷ codes "dispatches" ∷ codes "drivers" ∷ codes "form" ∷ codes "locks"
    ∷ codes "seats" ∷ codes "setup" ∷ codes "steps" ∷ beside given

-- its keys, and no others
unfoldable pub keys_at : FormKey → Data → Result (Unit {0}) ScriptRefusal
keys_at given whole = ok_or (only_keys (its_keys given) whole) (At BadField section.Top 0)

-- from the least number to 64
abbrev pub count_of : Section → ℕ → Option ℕ → Result ℕ ScriptRefusal
count_of part least None = Err (At BadField part 0)
count_of part least (Some given) = if nat_le least given && nat_le given 64 then Ok given else Err (At BadField part 0)

-- the number under a key
unfoldable pub count_at : Section → ℕ → List ℕ → Data → Result ℕ ScriptRefusal
count_at part least key whole = count_of part least (option_and_then u32_at (get key whole))

-- the form, with the number of cancel slots where it has these
unfoldable pub with_slots : FormKey → Data → Result ScriptForm ScriptRefusal
with_slots keys.One whole = Ok forms.One
with_slots keys.Two whole = count_at section.Slots 0 (codes "slots") whole >>= λ slots. Ok (forms.Two slots)
with_slots keys.Four whole = count_at section.Slots 0 (codes "slots") whole >>= λ slots. Ok (forms.Four slots)

-- the completion routines, and the cancel routines, which are counted beside them
unfoldable pub routines_at : Data → Result (List CompletionRoutine × Cancels) ScriptRefusal
routines_at whole = do
  completions ← list_at takes_completion section.Completions (codes "completions")
      (record { routines = []; counts = no_routines }) whole
  cancels ← list_at takes_cancel section.Cancels (codes "cancels")
      (record { answers = []; counts = completions.counts }) whole
  Ok (completions.routines, cancels)

-- the plans of the dispatches in a script of this form, who may name so many routines, and the tables of the drivers,
-- who may name so many dispatches
unfoldable pub tables_at : ScriptForm → Known → Data → Result (List Plan × Drivers) ScriptRefusal
tables_at form known whole = do
  dispatches ← list_at takes_dispatch section.Dispatches (codes "dispatches")
      (record { form = form; known = known; plans = [] }) whole
  drivers ← list_at takes_driver section.Drivers (codes "drivers")
      (record { dispatches = length dispatches.plans; tables = [] }) whole
  Ok (dispatches.plans, drivers)

-- nothing read yet of `setup`, or else of `steps`, after these labels
abbrev pub no_steps : ScriptForm → ℕ → Bool → List (List ℕ) → Steps
no_steps form seats in_setup labels =
    record { form = form; seats = seats; in_setup = in_setup; labels = labels; steps = [] }

-- the steps of `setup` and those of `steps`, in a script of this form with so many seats. They share their labels.
unfoldable pub steps_at : ScriptForm → ℕ → Data → Result (List Step × Steps) ScriptRefusal
steps_at form seats whole = do
  setup ← list_at takes_step section.Setup (codes "setup") (no_steps form seats true []) whole
  steps ← list_at takes_step section.Steps (codes "steps") (no_steps form seats false setup.labels) whole
  Ok (setup.steps, steps)

-- what the script says that a JSON value is, or its first fault
unfoldable pub script_at : Data → Result ScriptParts ScriptRefusal
script_at whole = do
  given ← form_at whole
  its ← keys_at given whole
  seats ← count_at section.Seats 1 (codes "seats") whole
  locks ← count_at section.Locks 1 (codes "locks") whole
  form ← with_slots given whole
  routines ← routines_at whole
  tables ← tables_at form routines.1.counts whole
  steps ← steps_at form seats whole
  Ok (record {
    form = form;
    seats = seats;
    locks = locks;
    completions = routines.0;
    cancels = routines.1.answers;
    dispatches = tables.0;
    drivers = tables.1.tables;
    setup = steps.0;
    steps = steps.1.steps;
    labels = steps.1.labels;
  })

-- ---- texts

-- `serde_json` reads no value from the text
abbrev pub IsNotJson : List ℕ → Type 0
IsNotJson text = (whole : Data) → IsUtf8 text → read text ≡ Some whole → ⊥

-- the text isn't too long, and `serde_json` reads this value from it
abbrev pub IsText : List ℕ → Data → Type 0
IsText text whole = (length text ≤ 1048576) × IsUtf8 text × (read text ≡ Some whole)

-- A script only where its value is read. S1 only where the text is too long; S2 only where it isn't, and no value is
-- read; another refusal only where it is the first fault of the value that is read. Memory runs out only for a text
-- that isn't empty and isn't too long.
abbrev pub ReadsScript : Result Script ScriptFault → List ℕ → Type 0
ReadsScript (Ok script) text = (whole : Data) × IsText text whole × (script_at whole ≡ Ok script)
ReadsScript (Err (Refused refusal)) text =
    ((1048576 < length text) × (refusal ≡ TooLong))
    ⊎ (((length text ≤ 1048576) × IsNotJson text × (refusal ≡ NotJson))
    ⊎ ((whole : Data) × IsText text whole × (script_at whole ≡ Err refusal)))
ReadsScript (Err NoMemory) text = (0 < length text) × (length text ≤ 1048576)
