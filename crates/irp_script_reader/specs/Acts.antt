-- What a step does, by its keys. None where the step has another form.
use Rattle.std.specs.Prelude.{ℕ, List, [], ◌∷◌, codes, is_some, Option, Some, None, option_map, if◌then◌else◌}
use Rattle.std.specs.Bool.{then_some}
use Rattle.serde_json.specs.Data.{Data}
use Rattle.serde_json.specs.Find.{get, as_str}
use Rattle.irp_forms.specs.Parts.{◌>>=◌, or_else, u32_at}
use Rattle.irp_forms.specs.Steps.{act_named, keys_of}
use Rattle.irp_forms.specs.Told.{call_of, hand_of, lock_act_of, told_at}
use Rattle.irp_forms.specs.declared.step_names.ActKind.{ActKind}
use Rattle.irp_forms.specs.declared.step_names.ActKind.TheVariants as kind
use Rattle.irp_forms.specs.declared.told.Told.{Told}
use Rattle.irp_forms.specs.declared.told.Told.TheVariants as told
use Rattle.irp_types.specs.declared.call.Call.TheVariants.{FinishTaken}
use Rattle.irp_script_reader.specs.Conditions.{condition_at}
use Rattle.irp_script_reader.specs.Labels.{is_label, named_at}
use Rattle.irp_script_reader.specs.declared.{act.Named.Named, act.Step.Step, act.StepAct.StepAct}
use Rattle.irp_script_reader.specs.declared.condition.Condition.{Condition}
use Rattle.irp_script_reader.specs.declared.act.StepAct.TheVariants as act

-- the keys that stand beside those of an act: `do`, `seat`, and `if` where it is there
abbrev pub beside : Data → List (List ℕ)
beside form = codes "do" ∷ (if is_some (get (codes "if") form) then codes "if" ∷ codes "seat" ∷ [] else codes "seat" ∷ [])

-- a new packet of this size, where the step names it by a label, and this is the label's place
abbrev pub allocate_at : ℕ → ℕ → Data → Option StepAct
allocate_at size place form =
    get (codes "as") form >>= as_str >>= λ label. then_some (is_label label) (act.Allocate size place)

-- what a step does that makes a call or an act on a remove lock, by what stands under its keys
abbrev pub shared_act_of : ActKind → List (Told Named) → Option StepAct
shared_act_of kind told = or_else (option_map act.OnLock (lock_act_of kind told)) (option_map act.Call (call_of kind told))

-- what a step does, by what stands under its keys, where a label that it names has this place
abbrev pub step_act_of : ActKind → List (Told Named) → ℕ → Data → Option StepAct
step_act_of kind.Allocate (told.Byte size ∷ told.Other ∷ []) place form = allocate_at size place form
step_act_of kind.Allocate other place form = None
step_act_of kind.Hand told place form = option_map act.Hand (hand_of told)
step_act_of kind.Publish (told.Number slot ∷ told.Packet irp ∷ []) place form = Some (act.Publish slot irp)
step_act_of kind.Withdraw (told.Number slot ∷ []) place form = Some (act.Withdraw slot)
step_act_of kind.Request (told.Number slot ∷ []) place form = Some (act.Request slot)
step_act_of kind.FinishTaken (told.Packet irp ∷ told.Number slot ∷ told.Status status ∷ told.Long information ∷ []) place form =
    Some (act.Call (FinishTaken irp slot status information))
step_act_of other told place form = shared_act_of other told

-- what a step does, by the name under `do`, where a label that it names has this place
unfoldable pub act_at : ℕ → Data → Option StepAct
act_at place form = do
  kind ← get (codes "do") form >>= as_str >>= act_named
  told ← told_at (keys_of kind) (beside form) (get (codes "irp") form >>= named_at place) form
  step_act_of kind told place form

-- what the value under `if` reads as, or no condition where there is no such key
abbrev pub hangs_at : Option Data → Option (Option Condition)
hangs_at None = Some None
hangs_at (Some form) = condition_at form >>= λ condition. Some (Some condition)

abbrev pub hanging_at : Data → Option (Option Condition)
hanging_at form = hangs_at (get (codes "if") form)

-- a step, where a label that it names has this place
unfoldable pub step_at : ℕ → Data → Option Step
step_at place form = do
  act ← act_at place form
  seat ← get (codes "seat") form >>= u32_at
  condition ← hanging_at form
  Some (record { seat = seat; act = act; condition = condition })
