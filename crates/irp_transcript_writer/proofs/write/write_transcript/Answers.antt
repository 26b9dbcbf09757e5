-- A transcript goes out whole, or up to the fault that stopped it.
use Rattle.std.proofs.lemmas.Result.{err_from_is_err_and}
use Rattle.irp_transcript_writer.proofs.Puts.{all_sent, first_stopped, second_stopped, third_stopped}
use Rattle.irp_transcript_writer.proofs.write.write_transcript.Goals as goal

pub returns-in_err-written-clause-fault : goal.returns-in_err-written-clause-fault
returns-in_err-written-clause-fault g c =
    let p = err_from_is_err_and c.from_residual.result c.from_residual.ensures.1 in
    rw (p.1, p.2) (first_stopped c.args.transcript.now _ _ _ _ c.header.ensures c.in_err-written.ensures.0)

pub returns-in_err-written-2-clause-fault : goal.returns-in_err-written-2-clause-fault
returns-in_err-written-2-clause-fault g c =
    let p = err_from_is_err_and c.from_residual-in_err-written-2.result c.from_residual-in_err-written-2.ensures.1 in
    rw (p.1, p.2)
    (second_stopped c.args.transcript.now _ c.entries.result.now _ _ _ _ _ c.header.ensures c.entries.ensures
    c.in_ok-written.ensures.0 c.in_err-written-2.ensures.0)

pub returns-in_err-put_lines-clause-fault : goal.returns-in_err-put_lines-clause-fault
returns-in_err-put_lines-clause-fault g c =
    let p = err_from_is_err_and c.from_residual-in_err-put_lines.result c.from_residual-in_err-put_lines.ensures.1 in
    rw (p.1, p.2)
    (third_stopped c.args.transcript.now _ c.entries.result.now c.words.result.now _ _ _ _ _ _ _ c.header.ensures c.entries.ensures c.words.ensures
    c.in_ok-written.ensures.0 c.in_ok-written-2.ensures.0 c.in_err-put_lines.ensures.0)

pub returns-clause-ok : goal.returns-clause-ok
returns-clause-ok g c =
    all_sent c.args.transcript.now _ c.entries.result.now c.words.result.now _ _ _ _ _ _ _ c.header.ensures c.entries.ensures c.words.ensures
    c.in_ok-written.ensures.0 c.in_ok-written-2.ensures.0 c.in_ok-put_lines.ensures.0
