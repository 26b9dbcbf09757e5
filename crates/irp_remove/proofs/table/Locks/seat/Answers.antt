use Rattle.std.proofs.Common.{rules, ℕ, replicate, ap, map, ◌∙◌}
use Rattle.irp_remove.specs.Seats.{watch_of, pair_of, view_of}
use Rattle.irp_remove.specs.Core.{new_stake}
use Rattle.irp_remove.proofs.Observing.{observer_made}
use Rattle.irp_remove.proofs.Seating.{new_views}
use Rattle.irp_remove.proofs.table.Locks.seat.Goals as goal

pub split_seat-observer-requires : goal.split_seat-observer-requires
split_seat-observer-requires c = (
  c.requires.table,
  c.args.self.now.some,
  observer_made _ _ _ _ _ c.requires.first c.requires.left.0,
)

pub returns-clause-fresh : goal.returns-clause-fresh
returns-clause-fresh c = (
  search rules,
  ap (λ m. watch_of m.0) c.split_seat-observer.ensures.4,
  ap (map pair_of) c.new.ensures,
  ap (map view_of) c.new.ensures,
  new_views _ _ c.stakes-idle.ensures.new ∙ ap (λ (n : ℕ). replicate n new_stake) c.stakes-idle.ensures.all,
)
