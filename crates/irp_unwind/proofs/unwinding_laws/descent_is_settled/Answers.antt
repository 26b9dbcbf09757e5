use Rattle.irp_unwind.proofs.SettledDown.{same_descent}
use Rattle.irp_unwind.proofs.unwinding_laws.descent_is_settled.Goals as goal

pub returns : goal.returns
returns c plan_of reply cancel_reply tables irp devices packet target first second asked others status other within one two answered answers =
    same_descent plan_of reply cancel_reply tables irp devices packet target first second asked others status other within one two answered answers
