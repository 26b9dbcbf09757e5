-- A script that hands a reference between workers is refused, and nothing went out. Another is run.
use Rattle.std.proofs.Common.{ℕ, None, Result, Ok, Err, inl, inr, refl, sym, rules, ◌∙◌}
use Rattle.irp_script_reader.specs.declared.script.Script.{Script}
use Rattle.irpx.specs.Running.{AfterRun, AfterScript, HandsFirst, tables_of}
use Rattle.irp_streams.specs.Streams.{Streams, streams_of}
use Rattle.irpx.specs.declared.not_done.NotDone.{NotDone}
use Rattle.irpx.proofs.Pieces.{keeps_itself}
use Rattle.irpx.proofs.running.run_read.Goals as goal

was_run : {T : Type 0} (result : Result T NotDone) (workers : ℕ) (before after : Streams) (script : Script) → HandsFirst workers None before after script
    → AfterScript workers script (tables_of script) before.output after.output result → AfterRun workers before after result
was_run (Ok done) workers before after script none ran = (script, none, ran)
was_run (Err fault) workers before after script none ran = inr (inr (script, none, ran))

pub returns-in-Some : goal.returns-in-Some
returns-in-Some g c = λ input left holds.
    inr (inl (c.in-Some.step, c.args.script.now, refl, (holds, sym c.first_hand.ensures ∙ c.in-Some.is), (keeps_itself (g.O.Out.gone c.args.output.now), refl)))

pub returns : goal.returns
returns g c = λ input left holds.
    was_run c.run_script.result c.args.workers
    (streams_of input (g.O.Out.gone c.args.output.now) (g.O.Out.failures c.args.output.now))
    (streams_of left (g.O.Out.gone c.run_script.new.output) (g.O.Out.failures c.run_script.new.output))
    c.args.script.now (holds, search rules) c.run_script.ensures
