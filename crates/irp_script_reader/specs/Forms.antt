-- What the form of a script fixes and allows.
use Rattle.std.specs.Prelude.{ℕ, ◌%◌, ◌==◌, ◌&&◌, Bool, true, false, not, nat_lt, List, Option, Some, None, slice_get}
use Rattle.std.specs.Option.{option_map_or}
use Rattle.irp_types.specs.declared.answer.Plan.{Plan}
use Rattle.irp_types.specs.declared.answer.Plan.TheVariants.{HoldSlot}
use Rattle.irp_types.specs.declared.call.Call.TheVariants.{FinishTaken}
use Rattle.irp_script_reader.specs.declared.{act.Step.Step, act.StepAct.StepAct, condition.Condition.Condition}
use Rattle.irp_script_reader.specs.declared.script.ScriptForm.{ScriptForm}
use Rattle.irp_script_reader.specs.declared.act.StepAct.TheVariants as act
use Rattle.irp_script_reader.specs.declared.script.ScriptForm.TheVariants.{One, Two, Four}

-- how many cancel slots there are
abbrev pub slots_of : ScriptForm → ℕ
slots_of One = 0
slots_of (Two slots) = slots
slots_of (Four slots) = slots

-- form 2, or form 4, which has all of it
abbrev pub has_slots : ScriptForm → Bool
has_slots One = false
has_slots (Two slots) = true
has_slots (Four slots) = true

-- form 4
abbrev pub has_conditions : ScriptForm → Bool
has_conditions One = false
has_conditions (Two slots) = false
has_conditions (Four slots) = true

-- a cancel slot that is there, and that belongs to this seat of so many
abbrev pub owns : ScriptForm → ℕ → ℕ → ℕ → Bool
owns form seats seat slot = nat_lt slot (slots_of form) && (slot % seats == seat)

-- What a seat, of so many, may do in a script of the form. References are handed over, and cancel slots used, from form 2
-- on. A reference goes to another seat that is there; a seat publishes in its own slots, and withdraws from these
abbrev pub may_do : ScriptForm → ℕ → ℕ → StepAct → Bool
may_do form seats seat (act.Hand hand) = has_slots form && (nat_lt hand.to seats && not (hand.to == seat))
may_do form seats seat (act.Publish slot irp) = owns form seats seat slot
may_do form seats seat (act.Withdraw slot) = owns form seats seat slot
may_do form seats seat (act.Request slot) = has_slots form
may_do form seats seat (act.Call (FinishTaken irp slot status information)) = has_slots form
may_do form seats seat other = true

-- what `setup` may have: what isn't on a remove lock or on a cancel slot
abbrev pub suits_setup : StepAct → Bool
suits_setup (act.OnLock on) = false
suits_setup (act.Hand hand) = false
suits_setup (act.Publish slot irp) = false
suits_setup (act.Withdraw slot) = false
suits_setup (act.Request slot) = false
suits_setup (act.Call (FinishTaken irp slot status information)) = false
suits_setup other = true

-- what a dispatch may plan in a script of the form: from form 2 on it holds a packet for a cancel slot
abbrev pub may_plan : ScriptForm → Plan → Bool
may_plan form HoldSlot = has_slots form
may_plan form other = true

-- the condition names a step before, which is one of this seat
abbrev pub names_earlier : List Step → ℕ → Condition → Bool
names_earlier before seat condition =
    option_map_or (λ (step : Step). step.seat == seat) (slice_get before condition.step) false

-- what a step may hang on, behind these: in form 4 on the answer of one of its own seat; in any form on nothing
abbrev pub may_hang : ScriptForm → List Step → ℕ → Option Condition → Bool
may_hang form before seat None = true
may_hang form before seat (Some condition) = has_conditions form && names_earlier before seat condition
