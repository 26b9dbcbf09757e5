-- The acts of each seat of a script.
use Rattle.std.specs.Prelude.{ℕ, zero, suc, ◌+◌, ◌==◌, ◌&&◌, ◌||◌, Bool, false, not, if◌then◌else◌, List, [], ◌∷◌, ◌++◌, Option, Some, None}
use Rattle.std.specs.List.{list_any}
use Rattle.std.specs.Option.{option_map_or}
use Rattle.irp_script_reader.specs.declared.act.Named.{Named}
use Rattle.irp_script_reader.specs.declared.act.Named.TheVariants.{Label, Irp}
use Rattle.irp_script_reader.specs.declared.act.Step.{Step}
use Rattle.irp_script_reader.specs.declared.condition.Condition.{Condition}
use Rattle.irp_machine.specs.declared.parts.Planned.{Planned}
use Rattle.irp_steps.specs.Labels.{label_of}
use Rattle.irp_steps.specs.StepKinds.{named_by}

-- the label by which a packet is named, where it is
abbrev pub label_by : Option Named → Option ℕ
label_by None = None
label_by (Some (Label label)) = Some label
label_by (Some (Irp irp)) = None

-- this is the label
abbrev pub is_label : ℕ → Option ℕ → Bool
is_label label None = false
is_label label (Some bound) = bound == label

-- the step is another seat's and binds the label
abbrev pub binds_elsewhere : ℕ → ℕ → Step → Bool
binds_elsewhere seat label step = is_label label (label_of step.act) && not (step.seat == seat)

-- another seat's step binds the label of this seat's step
abbrev pub is_bound_elsewhere : List Step → ℕ → Option ℕ → Bool
is_bound_elsewhere steps seat None = false
is_bound_elsewhere steps seat (Some label) = list_any (binds_elsewhere seat label) steps

-- the step is another seat's and names the label: it reads it or binds it
abbrev pub names_elsewhere : ℕ → ℕ → Step → Bool
names_elsewhere seat label step =
    (is_label label (label_of step.act) || is_label label (label_by (named_by step.act))) && not (step.seat == seat)

-- another seat's step names the label of this seat's step
abbrev pub is_named_elsewhere : List Step → ℕ → Option ℕ → Bool
is_named_elsewhere steps seat None = false
is_named_elsewhere steps seat (Some label) = list_any (names_elsewhere seat label) steps

-- reading the label that names the packet is a step of its own: another seat binds it
abbrev pub reads_alone : List Step → Step → Bool
reads_alone steps step = is_bound_elsewhere steps step.seat (label_by (named_by step.act))

-- binding the label is a step of its own: another seat reads it or binds it
abbrev pub binds_alone : List Step → Step → Bool
binds_alone steps step = is_named_elsewhere steps step.seat (label_of step.act)

-- the step's condition names the step of this place
abbrev pub names_step : ℕ → Step → Bool
names_step place step = option_map_or (λ (condition : Condition). condition.step == place) step.condition false

-- the condition of some step names the step of this place
abbrev pub is_read : List Step → ℕ → Bool
is_read steps place = list_any (names_step place) steps

-- the act of a step of this place, which is at this place among its seat's acts
abbrev pub planned : List Step → ℕ → ℕ → Step → Planned
planned steps place at step = record {
  place = record { step = place; at = at; is_read = is_read steps place };
  act = step.act;
  condition = step.condition;
  reads_alone = reads_alone steps step;
  binds_alone = binds_alone steps step;
}

-- the acts of a seat among the rest of the steps, of which the first has this place; so many acts of the seat come
-- before. Labels that others of the rivals bind are read alone, and those that others name are bound alone; what the
-- conditions of the rivals name is heard
abbrev pub own_acts : List Step → List Step → ℕ → ℕ → ℕ → List Planned
own_acts rivals [] place at seat = []
own_acts rivals (step ∷ rest) place at seat =
    if step.seat == seat then planned rivals place at step ∷ own_acts rivals rest (place + 1) (at + 1) seat
    else own_acts rivals rest (place + 1) at seat

-- the acts of each of so many seats
abbrev pub acts_below : List Step → List Step → ℕ → List (List Planned)
acts_below rivals steps zero = []
acts_below rivals steps (suc seat) = acts_below rivals steps seat ++ own_acts rivals steps 0 0 seat ∷ []
