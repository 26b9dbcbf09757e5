-- From the clause of one call's method to the clause of any call.
use Rattle.std.proofs.Common.{◌≡◌, List, [], Bool, sym, subst}
use Rattle.std.specs.Prelude.{Result, Ok, Err, IfOk}
use Rattle.irp_types.specs.State.{Tables}
use Rattle.irp_types.specs.Calls.{Call}
use Rattle.irp_types.specs.declared.asked.Asked.{Asked}
use Rattle.irp_types.specs.declared.reply.Reply.{Reply}
use Rattle.irp_manager.specs.Slots.{Slots}
use Rattle.irp_manager.specs.ManagerStates.{Stepped}
use Rattle.irp_manager.specs.declared.manager_state.ManagerState.{ManagerState}

-- a call that asked nothing
pub handed : {K : Type 0} (live : K → Slots) (tables : Tables) (drained : Bool) (old : ManagerState K) (call is : Call) (asked : List Asked) (reply : Reply) (new : ManagerState K) → call ≡ is → asked ≡ []
    → Stepped live tables drained old is [] reply new → Stepped live tables drained old call asked reply new
handed live tables drained old call is asked reply new same empty stepped =
    subst (λ (given : Call × List Asked). Stepped live tables drained old given.0 given.1 reply new) (λ i. (sym same i, sym empty i)) stepped

-- another fact of what is there, where there is something
pub if_ok : {T E : Type 0} (P Q : T → Type 0) → ((done : T) → P done → Q done) → (result : Result T E) → IfOk result P → IfOk result Q
if_ok P Q turn (Ok done) holds = turn done holds
if_ok P Q turn (Err error) holds = tt
