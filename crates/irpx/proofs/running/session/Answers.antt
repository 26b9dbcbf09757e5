-- The transcript that was closed, with the script's form and the word lines put in.
use Rattle.std.proofs.Common.{rules, ◌≡◌, ◌<◌, Option, length, IfSome, sym, subst, ap, ◌∙◌}
use Rattle.std.specs.Vec.{vec_len}
use Rattle.std.proofs.lemmas.Result.{IfOk-weaker}
use Rattle.irp_types.specs.State.{Fixed}
use Rattle.irp_transcript.specs.Headers.{IsHeader, slots_of as slots_in}
use Rattle.irp_transcript.specs.Transcripts.{TranscriptValue}
use Rattle.irp_script.specs.Ran.{AreOpened, Ran}
use Rattle.irp_script.specs.Seats.{seats_at_work}
use Rattle.irp_script.specs.Stops.{terms_of}
use Rattle.irp_script.specs.Told.{IsTold}
use Rattle.irp_script.specs.Working.{RunsScript}
use Rattle.irp_script.specs.declared.stop.Stop.{Stop}
use Rattle.irp_script.proofs.Ends.{runs_so, told_each}
use Rattle.irp_script.proofs.Ran.{all_opened, closed_ran}
use Rattle.irpx.specs.Running.{IsRun, ShowsSteps, fixed_for, run_transcript}
use Rattle.irpx.specs.declared.running.Finished.{Finished}
use Rattle.irp_steps.proofs.Slots.{slots_same}
use Rattle.irpx.proofs.Runs.{closed_is_run}
use Rattle.irpx.proofs.Shown.{ran_shows}
use Rattle.irpx.proofs.running.session.Goals as goal

pub returns-in-Ok-run_workers-clause-run : goal.returns-in-Ok-run_workers-clause-run
returns-in-Ok-run_workers-clause-run g c =
    IfOk-weaker c.finish.result _ (λ (run : Finished). IsRun c.args.script.now (g.A.Ask.tables c.args.ask) run.transcript)
    (λ run ends.
    subst (IsRun c.args.script.now (g.A.Ask.tables c.args.ask)) (sym ends.4)
    (closed_is_run c.args.script.now (g.A.Ask.tables c.args.ask) g.L.Session.fixed g.L.Session.seats ends.0 ends.2 c.in-Ok-run_workers.worked.words.items
    ends.3 c.requires.fixed c.requires.seats.1
    (subst (λ (this : TranscriptValue). IfSome this.header IsHeader) ends.4 ends.5.accepted)
    (told_each g.L.Session.may (IsTold c.args.script.now) c.requires.told ends.2.entries ends.7)
    c.in-Ok-run_workers.ensures.words))
    c.finish.ensures.ok

pub returns-in-Ok-run_workers-clause-ran : goal.returns-in-Ok-run_workers-clause-ran
returns-in-Ok-run_workers-clause-ran g c =
    let script = c.args.script.now in
    let pairs = c.in-Ok-script_seats.pairs.items in
    let made = c.in-Ok-script_seats.ensures in
    let worked = c.in-Ok-run_workers.worked in
    let many : vec_len c.in-Ok.seats ≡ script.seats = search rules in
    let some : 0 < vec_len c.in-Ok.seats = subst (λ count. 0 < count) (sym many) c.in-Ok-open.ensures.counts.2 in
    let opened : AreOpened script (seats_at_work pairs) =
    all_opened script pairs c.in-Ok.seats.items c.in-Ok-open.removes.items c.in-Ok-open-2.cancellers.items c.in-Ok-open-2.owners.items
    c.in-Ok-open.locks.table.shared.table_id c.in-Ok-open-2.slots.table.shared.table_id (vec_len c.in-Ok.seats) c.slots.result
    c.in-Ok.ensures.seats made.seats c.in-Ok-open.ensures.seats.1 made.removes c.in-Ok-open-2.ensures.asking made.cancellers
    (c.slots.ensures ∙ ap slots_in c.form_of-form.ensures ∙ slots_same script.form)
    (λ k d lt. made.counted k d lt ∙ ap (λ key. key.slots) c.in-Ok-open-2.ensures.parties)
    c.in-Ok-open-2.ensures.owners (made.all_owners some) many made.owners made.taken in
    let fixed = fixed_for script (g.A.Ask.tables c.args.ask) in
    let chains : RunsScript (terms_of fixed (IsTold script)) c.args.workers (length script.labels) script.setup script.steps (seats_at_work pairs) (seats_at_work worked.seats.items) worked.words.items worked.stop =
    subst (λ (fixed : Fixed). RunsScript (terms_of fixed (IsTold script)) c.args.workers (length script.labels) script.setup script.steps (seats_at_work pairs) (seats_at_work worked.seats.items) worked.words.items worked.stop)
    c.requires.fixed
    (runs_so g.L.Session.fixed g.L.Session.may (IsTold script) c.requires.told c.args.workers (length script.labels) script.setup script.steps (seats_at_work pairs) (seats_at_work worked.seats.items) worked.words.items worked.stop
    c.in-Ok-run_workers.ensures.ran) in
    IfOk-weaker c.finish.result _ (λ (run : Finished). Ran c.args.workers script fixed run.transcript run.stop)
    (λ run ends.
    let closed : TranscriptValue = run_transcript script.form worked.words.items ends.2 in
    subst (λ (transcript : TranscriptValue). Ran c.args.workers script fixed transcript run.stop) (sym ends.4)
    (subst (λ (stop : Option Stop). Ran c.args.workers script fixed closed stop) (sym ends.6)
    (closed_ran c.args.workers script fixed pairs worked.seats.items ends.0 closed worked.stop opened chains ends.1 ends.3.own)))
    c.finish.ensures.ok

pub returns-in-Ok-run_workers-clause-shows : goal.returns-in-Ok-run_workers-clause-shows
returns-in-Ok-run_workers-clause-shows g c =
    IfOk-weaker c.finish.result _ (λ (run : Finished). ShowsSteps c.args.script.now run.transcript run.stop)
    (λ run ran. ran_shows c.args.workers c.args.script.now (fixed_for c.args.script.now (g.A.Ask.tables c.args.ask)) run.transcript run.stop c.requires.workers ran) (returns-in-Ok-run_workers-clause-ran g c)
