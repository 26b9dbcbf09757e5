-- The calls of steps: none needs a token, and none depends on the packet that its step names, but for the packet.
use Rattle.std.proofs.Common.{◌≡◌, Bool, true, false, Option, Some, refl, sym, subst, ap, ◌∙◌}
use Rattle.std.specs.Option.{option_map}
use Rattle.std.specs.Prelude.{IfSome, is_some}
use Rattle.irp_types.specs.declared.names.IrpRef.{IrpRef}
use Rattle.irp_types.specs.Calls.{Call}
use Rattle.irp_transcript.specs.Tokens.{needs_token}
use Rattle.irp_script_reader.specs.declared.act.StepAct.{StepAct}
use Rattle.irp_script_reader.specs.declared.act.StepAct.TheVariants.{Call as Made, Allocate, OnLock, Hand, Publish, Withdraw, Request}
use Rattle.irp_types.specs.declared.call.Call.TheVariants as calls
use Rattle.irp_steps.specs.declared.step_kind.StepKind.{StepKind}
use Rattle.irp_steps.specs.declared.step_kind.StepKind.TheVariants.{Calls}
use Rattle.irp_steps.specs.StepKinds.{call_of, kind_of}
use Rattle.irp_script.specs.Made.{nameless}
use Rattle.irp_script.specs.Outcomes.{any_packet}

abbrev Tokenless : Call → Type 0
Tokenless made = needs_token made ≡ false

abbrev is_call : StepKind → Bool
is_call Calls = true
is_call other = false

-- of each act: its call of any packet, that the call needs no token, and that it has one where its kind says so
each_call : (act : StepAct) (irp : IrpRef)
    → (option_map nameless (call_of act irp) ≡ call_of act any_packet) × IfSome (call_of act irp) Tokenless × (is_some (call_of act irp) ≡ is_call (kind_of act))
each_call (Made (calls.CreateDevice driver lock)) irp = (refl, refl, refl)
each_call (Made (calls.Attach device to)) irp = (refl, refl, refl)
each_call (Made (calls.Detach lower)) irp = (refl, refl, refl)
each_call (Made (calls.Delete device)) irp = (refl, refl, refl)
each_call (Allocate size label) irp = (refl, refl, refl)
each_call (Made (calls.Allocate size)) irp = (refl, refl, refl)
each_call (Made (calls.Free named)) irp = (refl, refl, refl)
each_call (Made (calls.Reuse named status)) irp = (refl, refl, refl)
each_call (Made (calls.SetNext party named major word)) irp = (refl, refl, refl)
each_call (Made (calls.CopyToNext party named)) irp = (refl, refl, refl)
each_call (Made (calls.Skip party named)) irp = (refl, refl, refl)
each_call (Made (calls.SetRoutine party named setting)) irp = (refl, refl, refl)
each_call (Made (calls.MarkPending party named)) irp = (refl, refl, refl)
each_call (Made (calls.CallDriver party named target)) irp = (refl, refl, refl)
each_call (Made (calls.Complete party named status information)) irp = (refl, refl, refl)
each_call (Made (calls.SetCancelRoutine party named cancel)) irp = (refl, refl, refl)
each_call (Made (calls.Cancel named)) irp = (refl, refl, refl)
each_call (Made (calls.Look named)) irp = (refl, refl, refl)
each_call (OnLock on) irp = (refl, tt, refl)
each_call (Hand hand) irp = (refl, tt, refl)
each_call (Publish slot named) irp = (refl, tt, refl)
each_call (Withdraw slot) irp = (refl, tt, refl)
each_call (Request slot) irp = (refl, tt, refl)
each_call (Made (calls.FinishTaken named slot status information)) irp = (refl, tt, refl)

pub nameless_of : (act : StepAct) (irp : IrpRef) (made : Call) → call_of act irp ≡ Some made → call_of act any_packet ≡ Some (nameless made)
nameless_of act irp made is = sym (each_call act irp).0 ∙ ap (option_map nameless) is

pub tokenless : (act : StepAct) (irp : IrpRef) (made : Call) → call_of act irp ≡ Some made → needs_token made ≡ false
tokenless act irp made is = let here : IfSome (Some made) Tokenless = subst (λ (found : Option Call). IfSome found Tokenless) is (each_call act irp).1 in here
