use Rattle.std.proofs.Common.{rules, ◌∙◌}
use Rattle.irp_remove.proofs.Observing.{stake_made}
use Rattle.irp_remove.proofs.table.Locks.stakes.Goals as goal

pub split_seat-requires : goal.split_seat-requires
split_seat-requires c = (
  c.loop.invariant.0 ∙ c.requires.table,
  c.args.self.now.some,
  stake_made _ _ _ _ _ c.loop.invariant.1 (search rules),
)
