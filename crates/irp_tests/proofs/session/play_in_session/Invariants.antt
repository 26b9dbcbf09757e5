use Rattle.irp_tests.proofs.session.play_in_session.Given as goal

abbrev pub ghosts-session-L-Ledger : goal.ghosts-session-L-Ledger
ghosts-session-L-Ledger g a = record { name = a.blank.name; parts = a.blank.parts }

abbrev pub ghosts-session-L-Session : goal.ghosts-session-L-Session
ghosts-session-L-Session g a = record { seats = a.seats; fixed = record { locks = 1; tables = a.ask.tables; limit = a.example.now.limit }; may = λ asked. Unit {0} }
