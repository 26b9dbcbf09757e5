-- What stands at an act's number of a column that has something of every act is that of the act.
use denote.Enum.Declared.{tag_of}
use Rattle.std.proofs.Common.{◌≡◌, ℕ, [], get_or, map, refl}
use Rattle.irp_forms.specs.Acts.{answer_of, checks_of, every_act, place_of, rules_name, windows_name}
use Rattle.irp_forms.specs.contracts.step_names.ActKind.{the_type}
use Rattle.irp_forms.specs.declared.step_names.ActKind.{ActKind}
use Rattle.irp_forms.specs.declared.step_names.ActKind.TheVariants as act
use Rattle.irp_forms.specs.declared.step_names.StepPlace.TheVariants as place

-- an act as a number
abbrev pub number : ActKind → ℕ
number one = tag_of the_type one

there : {T : Type 0} (has : ActKind → T) (none : T) (one : ActKind) → get_or (map has every_act) (number one) none ≡ has one
unfolding every_act
there has none act.CreateDevice = refl
there has none act.Attach = refl
there has none act.Detach = refl
there has none act.Delete = refl
there has none act.Allocate = refl
there has none act.Free = refl
there has none act.Cancel = refl
there has none act.Look = refl
there has none act.Reuse = refl
there has none act.SetNext = refl
there has none act.CopyToNext = refl
there has none act.Skip = refl
there has none act.MarkPending = refl
there has none act.SetRoutine = refl
there has none act.CallDriver = refl
there has none act.Complete = refl
there has none act.SetCancelRoutine = refl
there has none act.Acquire = refl
there has none act.Release = refl
there has none act.BeginRemove = refl
there has none act.Drained = refl
there has none act.Hand = refl
there has none act.Publish = refl
there has none act.Withdraw = refl
there has none act.Request = refl
there has none act.FinishTaken = refl

pub windows_there : (one : ActKind) → get_or (map windows_name every_act) (number one) [] ≡ windows_name one
windows_there = there windows_name []

pub rules_there : (one : ActKind) → get_or (map rules_name every_act) (number one) [] ≡ rules_name one
rules_there = there rules_name []

pub checks_there : (one : ActKind) → get_or (map checks_of every_act) (number one) [] ≡ checks_of one
checks_there = there checks_of []

pub answer_there : (one : ActKind) → get_or (map answer_of every_act) (number one) [] ≡ answer_of one
answer_there = there answer_of []

pub place_there : (one : ActKind) → get_or (map place_of every_act) (number one) place.Anywhere ≡ place_of one
place_there = there place_of place.Anywhere
