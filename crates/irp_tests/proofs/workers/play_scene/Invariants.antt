use Rattle.irp_types.specs.declared.limit.Limit.TheVariants.{ThirtyTwo}
use Rattle.irp_tests.proofs.workers.play_scene.Given as goal

abbrev pub ghosts-in_session-L-Ledger : goal.ghosts-in_session-L-Ledger
ghosts-in_session-L-Ledger g a = record { name = a.blank.name; parts = a.blank.parts }

abbrev pub ghosts-in_session-L-Session : goal.ghosts-in_session-L-Session
ghosts-in_session-L-Session g a = record { seats = a.scene.now.seats; fixed = record { locks = 1; tables = a.ask.tables; limit = ThirtyTwo }; may = λ asked. Unit {0} }
