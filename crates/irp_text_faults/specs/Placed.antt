-- Where faults stand.
use Rattle.std.specs.Prelude.{ℕ, ◌≡◌, List}
use Rattle.irp_text_faults.specs.InPart.{InPart}
use Rattle.irp_text_faults.specs.Places.{place_of}
use Rattle.irp_text_faults.specs.declared.message.FaultMessage.{FaultMessage}

-- a fault stands at a byte of the part that its refusal names
pub record IsPlaced (text : List ℕ) (fault : FaultMessage) : Type 0 where
  pub at : ℕ
  pub part : InPart fault.refusal text at
  pub place : fault.place ≡ place_of text at
