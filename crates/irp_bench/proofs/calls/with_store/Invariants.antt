use Rattle.irp_types.specs.declared.limit.Limit.TheVariants.{ThirtyTwo}
use Rattle.irp_bench.proofs.calls.with_store.Given as goal

abbrev pub ghosts-recorded-L-Ledger : goal.ghosts-recorded-L-Ledger
ghosts-recorded-L-Ledger g a = record { name = a.blank.name; parts = a.blank.parts }

abbrev pub ghosts-recorded-L-Session : goal.ghosts-recorded-L-Session
ghosts-recorded-L-Session g a = record { seats = a.seats; fixed = record { locks = 1; tables = a.ask.tables; limit = ThirtyTwo }; may = λ asked. Unit {0} }
