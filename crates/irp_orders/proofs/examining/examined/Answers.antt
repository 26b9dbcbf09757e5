use Rattle.irp_orders.proofs.examining.examined.Goals as goal

pub returns-in-Ok-clause-tells : goal.returns-in-Ok-clause-tells
returns-in-Ok-clause-tells c = (
  _,
  record { transcript = c.in_ok-setup.setup; replay = c.in_ok-setup.ensures.setup; entries_are = c.entries.ensures },
  c.in-Ok.ensures.text,
)
