-- The drivers so far are added to the store, whose closures answer as before.
use Rattle.std.proofs.Common.{◌≡◌, take}
use Rattle.irp_script_reader.specs.declared.script.ScriptParts.{ScriptParts}
use Rattle.irp_script.specs.Told.{AnswersAll, IsTold}
use Rattle.irpx.specs.Running.{and_drivers, fixed_for}
use Rattle.irpx.proofs.running.run_with_store.Given as goal

abbrev pub invariant-loop-driver : goal.invariant-loop-driver
invariant-loop-driver g l =
    (l.store.tables ≡ and_drivers (take l.driver-index l.drivers) l.initial.store.tables)
    × ((script : ScriptParts) → AnswersAll l.initial.store script → AnswersAll l.store script)

abbrev pub ghosts-session-L-Ledger : goal.ghosts-session-L-Ledger
ghosts-session-L-Ledger g a = record { name = a.blank.name; parts = a.blank.parts }

abbrev pub ghosts-session-L-Session : goal.ghosts-session-L-Session
ghosts-session-L-Session g a = record { seats = a.script.now.seats; fixed = fixed_for a.script.now a.ask.tables; may = IsTold a.script.now }
