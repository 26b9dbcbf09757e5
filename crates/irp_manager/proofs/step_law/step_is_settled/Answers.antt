use Rattle.irp_types.specs.Refusals.{first_refusal}
use Rattle.irp_manager.proofs.SettledSteps.{same_step}
use Rattle.irp_manager.proofs.step_law.step_is_settled.Goals as goal

pub returns : goal.returns
returns c plan_of reply_of cancel_reply_of fixed old drained call asked others reply other new another stands first second slots given answers =
    same_step plan_of reply_of cancel_reply_of c.unwinding_is_settled.ensures c.descent_is_settled.ensures fixed old drained call asked others reply other new another (first_refusal fixed old drained call)
    stands (λ i. first_refusal fixed old drained call) first second slots given answers
