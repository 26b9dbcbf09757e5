use Rattle.irp_orders.proofs.answering.judge.Goals as goal

pub returns-in-Ok-clause-tells : goal.returns-in-Ok-clause-tells
returns-in-Ok-clause-tells c = (_, c.in_ok-condition.ensures.said, c.in-Ok.ensures.text)
