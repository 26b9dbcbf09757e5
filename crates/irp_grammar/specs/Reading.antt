-- What a text in words says, line by line, in the sections of docs/WORDS.md: headings, counts, and the members of lists.
use Rattle.std.specs.Prelude.{ℕ, ◌≡◌, ◌≢◌, ◌⊎◌, ◌+◌, ◌-◌, suc, zero, Bool, true, false, if◌then◌else◌, MatchBool, List, [], ◌∷◌, ◌++◌, codes, drop, length, min, not, take, unwrap_or, Option, Some, None}
use Rattle.std.specs.List.{filter}
use Rattle.std.proofs.Common.{bytes_eq}
use Rattle.irp_types.specs.Rules.{count_of_rule}
use Rattle.irp_types.specs.declared.{answer.CancelAnswer.CancelAnswer, names.DispatchId.DispatchId, routine.Known.Known, routine.Rule.Rule}
use Rattle.irp_types.specs.declared.routine.Rule.TheVariants as rule
use Rattle.irp_forms.specs.Names.{first_named, rule_name, rules}
use Rattle.irp_forms.specs.Steps.{act_named, keys_of}
use Rattle.irp_forms.specs.declared.{key_parts.Part.Part, step_names.ActKind.ActKind}
use Rattle.irp_forms.specs.declared.key_parts.Part.TheVariants as part
use Rattle.irp_forms.specs.declared.step_names.ActKind.TheVariants as act
use Rattle.irp_names.specs.Plans.{kind_named, parts_of}
use Rattle.irp_script_reader.specs.declared.condition.Condition.{Condition}
use Rattle.irp_script_reader.specs.declared.refusal.Section.{Section}
use Rattle.irp_script_reader.specs.declared.refusal.Section.TheVariants as section
use Rattle.irp_script_reader.specs.declared.script.{CompletionRoutine.CompletionRoutine, ScriptParts.ScriptParts}
use Rattle.irp_grammar.specs.Heads.{TakesCondition, TakesSeat}
use Rattle.irp_grammar.specs.Lines.{lines_of, next_of}
use Rattle.irp_grammar.specs.Naming.{Given, Naming, TakesNumber, TakesName, label_texts, namings, one_more, with_name, with_names, with_routine}
use Rattle.irp_grammar.specs.Numbers.{begins_with_digit, number_in}
use Rattle.irp_grammar.specs.Routines.{TakesBehaviours, TakesCancel, TakesTable}
use Rattle.irp_grammar.specs.Saying.{Says}
use Rattle.irp_grammar.specs.Values.{AreKeyValues, ArePartValues}
use Rattle.irp_grammar.specs.declared.{cursor.WordsFault.WordsFault, said.Said.Said}
use Rattle.irp_grammar.specs.declared.step_line.{PlanLine.PlanLine, StepLine.StepLine, Value.Value}
use Rattle.irp_grammar.specs.declared.step_line.Value.TheVariants as value

-- ---- what is said so far

-- the names that lines have given, the counts and the lists that they say, and their faults
pub record Members : Type 0 where
  pub given : Given
  pub form : Option ℕ
  pub seats : Option ℕ
  pub locks : Option ℕ
  pub slots : Option ℕ
  pub completions : List CompletionRoutine
  pub cancels : List CancelAnswer
  pub dispatches : List PlanLine
  pub drivers : List (List (ℕ × DispatchId))
  pub setup : List StepLine
  pub steps : List StepLine
  pub faults : List WordsFault

abbrev pub given_of : Said → Given
given_of said =
    record {
      names = namings said.names;
      labels = label_texts said.names;
      devices = said.devices;
      counts = said.counts;
    }

abbrev pub members_of : Said → Members
members_of said =
    record {
      given = given_of said;
      form = said.form;
      seats = said.seats;
      locks = said.locks;
      slots = said.slots;
      completions = said.completions.items;
      cancels = said.cancels.items;
      dispatches = said.dispatches.items;
      drivers = said.drivers.items;
      setup = said.setup.items;
      steps = said.steps.items;
      faults = said.faults.items;
    }

-- other names are given
abbrev pub with_given : Given → Members → Members
with_given given old = record old { given = given }

-- names are given, and nothing else is said
abbrev pub OnlyGives : Said → Said → Type 0
OnlyGives old new = members_of new ≡ with_given (given_of new) (members_of old)

abbrev pub no_routines : Known
no_routines = record { watch = 0; change = 0; keeper = 0; keep_on_error = 0; free = 0; cancel = 0 }

abbrev pub nothing_said : Members
nothing_said =
    record {
      given = record { names = []; labels = []; devices = 0; counts = no_routines };
      form = None;
      seats = None;
      locks = None;
      slots = None;
      completions = [];
      cancels = [];
      dispatches = [];
      drivers = [];
      setup = [];
      steps = [];
      faults = [];
    }

-- ---- words

-- the section whose heading a word is
unfoldable pub heading : List ℕ → Option Section
heading word =
    if bytes_eq word (codes "completions") then Some section.Completions
    else (if bytes_eq word (codes "cancels") then Some section.Cancels
    else (if bytes_eq word (codes "dispatches") then Some section.Dispatches
    else (if bytes_eq word (codes "drivers") then Some section.Drivers
    else (if bytes_eq word (codes "setup") then Some section.Setup
    else (if bytes_eq word (codes "steps") then Some section.Steps else None)))))

-- the count that a word names; that of the form stands for the whole
unfoldable pub count_named : List ℕ → Option Section
count_named word =
    if bytes_eq word (codes "form") then Some section.Top
    else (if bytes_eq word (codes "seats") then Some section.Seats
    else (if bytes_eq word (codes "locks") then Some section.Locks
    else (if bytes_eq word (codes "slots") then Some section.Slots else None)))

-- ---- lines, each with the words that it leaves

-- a completion routine, with the rule that the line names, the next of that rule
abbrev pub with_one_more : Rule → Given → Given
with_one_more its old = record old { counts = with_routine its old.counts }

abbrev pub TakesRule : List (List ℕ) → List (List ℕ) → Rule → Given → Given → Type 0
TakesRule words rest its old new =
    (behind : List (List ℕ)) × (named : Given)
    × TakesName part.Routine its (count_of_rule old.counts its) words behind old named
    × (first_named rule_name rules (next_of behind) ≡ Some its) × (rest ≡ drop 1 behind) × (new ≡ with_one_more its named)

abbrev pub SaysCompletion : List (List ℕ) → List (List ℕ) → Members → Members → Type 0
SaysCompletion words rest old new =
    (routine : CompletionRoutine) × (behind : List (List ℕ)) × (given : Given)
    × TakesRule words behind routine.rule old.given given
    × TakesBehaviours given.names routine.rule behind rest routine.on_ok routine.on_err
    × (new ≡ record old { given = given; completions = old.completions ++ routine ∷ [] })

-- a member of a list may have a name, which stands for its place in that list
abbrev pub place_after : {T : Type 0} → List T → ℕ
place_after before = min (length before) 4294967295

abbrev pub NamesPlace : Part → ℕ → List (List ℕ) → List (List ℕ) → Given → Given → Type 0
NamesPlace its place words rest old new = TakesName its rule.Watch place words rest old new

-- a cancel routine, which finishes or leaves as the line says
abbrev pub SaysCancel : List (List ℕ) → List (List ℕ) → Members → Members → Type 0
SaysCancel words rest old new =
    (answer : CancelAnswer) × (behind : List (List ℕ)) × (given : Given)
    × NamesPlace part.Cancel (place_after old.cancels) words behind old.given given
    × TakesCancel given.names behind rest answer
    × (new ≡ record old { given = given; cancels = old.cancels ++ answer ∷ [] })

-- a dispatch, with the kind of plan that the line names, and the values behind that
abbrev pub TakesPlan : List (List ℕ) → List (List ℕ) → PlanLine → Given → Given → Type 0
TakesPlan words rest plan old new =
    (kind_named (next_of words) ≡ Some plan.kind) × ArePartValues (parts_of plan.kind) (drop 1 words) rest plan.values old new

abbrev pub SaysDispatch : List (List ℕ) → List (List ℕ) → Members → Members → Type 0
SaysDispatch words rest old new =
    (plan : PlanLine) × (behind : List (List ℕ)) × (named given : Given)
    × NamesPlace part.Dispatch (place_after old.dispatches) words behind old.given named
    × TakesPlan behind rest plan named given
    × (new ≡ record old { given = given; dispatches = old.dispatches ++ plan ∷ [] })

-- a driver, with its table
abbrev pub SaysDriver : List (List ℕ) → List (List ℕ) → Members → Members → Type 0
SaysDriver words rest old new =
    (table : List (ℕ × DispatchId)) × (behind : List (List ℕ)) × (given : Given)
    × NamesPlace part.Driver (place_after old.drivers) words behind old.given given
    × TakesTable given.names behind rest table
    × (new ≡ record old { given = given; drivers = old.drivers ++ table ∷ [] })

-- more steps, of `setup` or of `steps`
abbrev pub is_setup : Section → Bool
is_setup section.Setup = true
is_setup others = false

abbrev pub added : Bool → List StepLine → Members → Members
added true more old = record old { setup = old.setup ++ more }
added false more old = record old { steps = old.steps ++ more }

abbrev pub with_steps : Section → List StepLine → Members → Members
with_steps its more old = added (is_setup its) more old

-- a device that a step creates may have a name behind `as`: it is the next one
abbrev pub IsDeviceNamed : Bool → List (List ℕ) → List (List ℕ) → Given → Given → Type 0
IsDeviceNamed true words rest old new =
    (next_of words ≡ codes "as")
    × (rest ≡ drop 1 (drop 1 words)) × (new ≡ with_name part.Device rule.Watch (next_of (drop 1 words)) old.devices old)
IsDeviceNamed false words rest old new = (rest ≡ words) × (new ≡ old)

abbrev pub TakesDeviceName : List (List ℕ) → List (List ℕ) → Given → Given → Type 0
TakesDeviceName words rest old new = IsDeviceNamed (bytes_eq (next_of words) (codes "as")) words rest old new

abbrev pub TakesNameOf : ActKind → List (List ℕ) → List (List ℕ) → Given → Given → Type 0
TakesNameOf act.CreateDevice words rest old new = TakesDeviceName words rest old new
TakesNameOf others words rest old new = (rest ≡ words) × (new ≡ old)

abbrev pub with_device : ActKind → Given → Given
with_device act.CreateDevice old = record old { devices = one_more old.devices }
with_device others old = old

-- a step, whose word stands on the line behind its head, and behind that its keys with their values
abbrev pub TakesStep : List (List ℕ) → List (List ℕ) → StepLine → Given → Given → Type 0
TakesStep words rest step old new =
    (behind : List (List ℕ)) × (valued named : Given) × (act_named (next_of words) ≡ Some step.act)
    × AreKeyValues (keys_of step.act) (drop 1 words) behind step.values old valued
    × TakesNameOf step.act behind rest valued named × (new ≡ with_device step.act named)

abbrev pub IsHeaded : ℕ → Option Condition → StepLine → Type 0
IsHeaded seat condition step = (step.seat ≡ seat) × (step.condition ≡ condition)

abbrev pub SaysAct : Section → ℕ → Option Condition → List (List ℕ) → List (List ℕ) → Members → Members → Type 0
SaysAct its seat condition words rest old new =
    (step : StepLine) × (given : Given) × IsHeaded seat condition step × TakesStep words rest step old.given given
    × (new ≡ with_steps its (step ∷ []) (with_given given old))

-- ---- stacks

-- the lock that a device of a stack has: that behind `lock`, or that of the device below
abbrev pub TakesLock : List Naming → ℕ → List (List ℕ) → List (List ℕ) → ℕ → Type 0
TakesLock names below words rest lock =
    ((next_of words ≡ codes "lock") × TakesNumber names part.Lock (drop 1 words) rest lock)
    ⊎ ((next_of words ≢ codes "lock") × (lock ≡ below) × (rest ≡ words))

-- a device of a stack: its lock, its driver, and a name behind `as`, where it has one
pub record TakesDevice (below : ℕ) (words rest : List (List ℕ)) (driver lock : ℕ) (old new : Given) : Type 0 where
  pub behind : List (List ℕ)
  pub between : List (List ℕ)
  pub locked : TakesLock old.names below words behind lock
  pub driven : TakesNumber old.names part.Driver behind between driver
  pub named : TakesDeviceName between rest old new

-- the step that creates it, and that which attaches a device to the one below it
abbrev pub two : ℕ → ℕ → List Value
two one other =
    value.Number one ∷ value.Number other ∷ value.Absent ∷ value.Absent ∷ value.Absent ∷ value.Absent ∷ []

abbrev pub creation : ℕ → Option Condition → ℕ → ℕ → StepLine
creation seat condition driver lock =
    record { seat = seat; act = act.CreateDevice; values = two driver lock; condition = condition }

abbrev pub attachment : ℕ → Option Condition → ℕ → StepLine
attachment seat condition device =
    record { seat = seat; act = act.Attach; values = two device (device - 1); condition = condition }

-- so many devices from the bottom up, the last with this lock, and the steps that create them
abbrev pub TakeDevices :
    ℕ → ℕ → Option Condition → List (List ℕ) → List (List ℕ) → ℕ → List StepLine → Given → Given → Type 0
TakeDevices zero seat condition words rest lock steps old new =
    (lock ≡ 0) × (steps ≡ []) × (rest ≡ words) × (new ≡ old)
TakeDevices (suc count) seat condition words rest lock steps old new =
    (behind : List (List ℕ)) × (below driver : ℕ) × (before : List StepLine) × (between named : Given)
    × TakeDevices count seat condition words behind below before old between
    × TakesDevice below behind rest driver lock between named × (new ≡ with_device act.CreateDevice named)
    × (steps ≡ before ++ creation seat condition driver lock ∷ [])

-- those that attach so many devices, from this one on
abbrev pub attachments : ℕ → ℕ → Option Condition → ℕ → List StepLine
attachments zero seat condition first = []
attachments (suc count) seat condition first =
    attachments count seat condition first ++ attachment seat condition (first + count) ∷ []

-- a device that is created, behind one that has this lock below it
pub record CreatesDevice (its : Section) (seat : ℕ) (condition : Option Condition) (words rest : List (List ℕ))
    (below lock : ℕ) (old new : Members) : Type 0 where
  pub driver : ℕ
  pub named : Given
  pub device : TakesDevice below words rest driver lock old.given named
  pub is : new ≡ with_steps its (creation seat condition driver lock ∷ []) (with_given (with_device act.CreateDevice named) old)

-- the devices of a stack, of which the first has a lock of its own
pub record CreatesDevices (its : Section) (seat : ℕ) (condition : Option Condition) (words rest : List (List ℕ))
    (old new : Members) : Type 0 where
  pub count : ℕ
  pub lock : ℕ
  pub steps : List StepLine
  pub given : Given
  pub begins : next_of words ≡ codes "lock"
  pub devices : TakeDevices count seat condition words rest lock steps old.given given
  pub is : new ≡ with_steps its steps (with_given given old)

-- a stack: its devices are created, and each above the first is attached to the one below it
pub record IsStack (its : Section) (seat : ℕ) (condition : Option Condition) (words rest : List (List ℕ))
    (old new : Members) : Type 0 where
  pub created : Members
  pub creates : CreatesDevices its seat condition words rest old created
  pub is : new ≡ with_steps its
      (attachments (created.given.devices - one_more old.given.devices) seat condition (one_more old.given.devices)) created

abbrev pub SaysStack : Section → ℕ → Option Condition → List (List ℕ) → List (List ℕ) → Members → Members → Type 0
SaysStack its seat condition words rest old new =
    (next_of words ≡ codes "stack") × IsStack its seat condition (drop 1 words) rest old new

-- the line of a step, which may have a name in `steps`, and has a seat and what it hangs on before its word
abbrev pub TakesStepName : Section → ℕ → List (List ℕ) → List (List ℕ) → Given → Given → Type 0
TakesStepName section.Steps place words rest old new = NamesPlace part.Step place words rest old new
TakesStepName others place words rest old new = (rest ≡ words) × (new ≡ old)

abbrev pub TakesHead : List (List ℕ) → List (List ℕ) → ℕ → Option Condition → Given → Type 0
TakesHead words rest seat condition given =
    (behind : List (List ℕ)) × TakesSeat given.names words behind seat × TakesCondition given.names behind rest condition

abbrev pub SaysStep : Section → List (List ℕ) → List (List ℕ) → Members → Members → Type 0
SaysStep its words rest old new =
    (behind head : List (List ℕ)) × (given : Given) × (seat : ℕ) × (condition : Option Condition)
    × TakesStepName its (place_after old.steps) words behind old.given given
    × TakesHead behind head seat condition given
    × (SaysAct its seat condition head rest (with_given given old) new ⊎ SaysStack its seat condition head rest (with_given given old) new)

-- the form, or a count
abbrev pub with_count : Section → ℕ → Members → Members
with_count section.Seats number old = record old { seats = Some number }
with_count section.Locks number old = record old { locks = Some number }
with_count section.Slots number old = record old { slots = Some number }
with_count others number old = record old { form = Some number }

-- a count in digits; or as many as there are names, which stand for the numbers from 0 on
abbrev pub TakesCount : Part → List (List ℕ) → List (List ℕ) → ℕ → Given → Given → Type 0
TakesCount its words rest number old new =
    MatchBool (begins_with_digit (next_of words))
    ((number ≡ number_in (next_of words)) × (rest ≡ drop 1 words) × (new ≡ old))
    ((number ≡ min (length words) 4294967295) × (new ≡ with_names its 0 (take number words) old) × (rest ≡ drop number words))

unfoldable pub form_in : List ℕ → Option ℕ
form_in word =
    if bytes_eq word (codes "1") then Some 1
    else (if bytes_eq word (codes "2") then Some 2 else (if bytes_eq word (codes "4") then Some 4 else None))

abbrev pub TakesForm : List (List ℕ) → List (List ℕ) → ℕ → Given → Given → Type 0
TakesForm words rest number old new = (form_in (next_of words) ≡ Some number) × (rest ≡ drop 1 words) × (new ≡ old)

abbrev pub TakesNumberOf : Section → List (List ℕ) → List (List ℕ) → ℕ → Given → Given → Type 0
TakesNumberOf section.Seats words rest number old new = TakesCount part.Seat words rest number old new
TakesNumberOf section.Locks words rest number old new = TakesCount part.Lock words rest number old new
TakesNumberOf section.Slots words rest number old new = TakesCount part.Slot words rest number old new
TakesNumberOf others words rest number old new = TakesForm words rest number old new

abbrev pub SaysCount : List (List ℕ) → List (List ℕ) → Members → Members → Type 0
SaysCount words rest old new =
    (its : Section) × (number : ℕ) × (given : Given) × (count_named (next_of words) ≡ Some its)
    × TakesNumberOf its (drop 1 words) rest number old.given given × (new ≡ with_count its number (with_given given old))

-- a line that is no heading, in its section
abbrev pub SaysMember : Section → List (List ℕ) → List (List ℕ) → Members → Members → Type 0
SaysMember section.Completions words rest old new = SaysCompletion words rest old new
SaysMember section.Cancels words rest old new = SaysCancel words rest old new
SaysMember section.Dispatches words rest old new = SaysDispatch words rest old new
SaysMember section.Drivers words rest old new = SaysDriver words rest old new
SaysMember section.Setup words rest old new = SaysStep section.Setup words rest old new
SaysMember section.Steps words rest old new = SaysStep section.Steps words rest old new
SaysMember others words rest old new = SaysCount words rest old new

-- a line that is the heading of a section; or a member of the section in which it stands: and nothing more
abbrev pub SaysBehind : Option Section → Section → List (List ℕ) → List (List ℕ) → Members → Members → Type 0
SaysBehind (Some headed) its words rest old new = (rest ≡ drop 1 words) × (new ≡ old)
SaysBehind None its words rest old new = SaysMember its words rest old new

abbrev pub SaysWords : Option Section → Section → List (List ℕ) → Members → Members → Type 0
SaysWords headed its words old new =
    (rest : List (List ℕ)) × SaysBehind headed its words rest old new × (length rest ≡ 0)

-- a section, and the words of a line that stands in it
abbrev pub Line : Type 0
Line = Section × List (List ℕ)

abbrev pub SaysLine : Line → Members → Members → Type 0
SaysLine line old new = SaysWords (heading (next_of line.1)) line.0 line.1 old new

-- a line has a fault, or says something
abbrev pub IsTaken : Line → Members → Members → Type 0
IsTaken line old new = (new.faults ≢ []) ⊎ SaysLine line old new

-- ---- whole texts

-- lines, each in the section that the last heading above it names
abbrev pub below : Section → List (List ℕ) → Section
below above words = unwrap_or (heading (next_of words)) above

abbrev pub placed : Section → List (List (List ℕ)) → List Line
placed above [] = []
placed above (words ∷ lines) = (above, words) ∷ placed (below above words) lines

-- the lines of `steps` after all others: `setup` runs before `steps`, wherever the two stand
abbrev pub of_steps : Line → Bool
of_steps (section.Steps, words) = true
of_steps others = false

abbrev pub of_others : Line → Bool
of_others line = not (of_steps line)

abbrev pub those : Bool → List Line → List Line
those true lines = filter of_steps lines
those false lines = filter of_others lines

abbrev pub steps_last : List Line → List Line
steps_last lines = those false lines ++ those true lines

-- lines, one after the other: nothing else is said
abbrev pub SayLines : List Line → Members → Members → Type 0
SayLines [] old new = new ≡ old
SayLines (line ∷ lines) old new = (between : Members) × SaysLine line old between × SayLines lines between new

-- the lines of a text say this
abbrev pub IsReadFrom : List ℕ → Said → Type 0
IsReadFrom text said = SayLines (steps_last (placed section.Top (lines_of text))) nothing_said (members_of said)

-- a line is taken where it stands in `steps`, if those are; else where it doesn't
abbrev pub IsTakenIf : Bool → Line → Members → Members → Type 0
IsTakenIf in_steps line old new =
    ((of_steps line ≡ in_steps) × IsTaken line old new) ⊎ ((of_steps line ≢ in_steps) × (new ≡ old))

-- so far, where no line has a fault
abbrev pub SaySoFar : List Line → Members → Members → Type 0
SaySoFar lines old new = new.faults ≡ [] → SayLines lines old new

-- the lines of a text have no fault, and say this script
pub record IsSaidIn (text : List ℕ) (script : ScriptParts) : Type 0 where
  pub said : Said
  pub read : IsReadFrom text said
  pub faultless : said.faults.items ≡ []
  pub says : Says said script
