-- What the line is, is put behind the others.
use Rattle.std.proofs.Common.{Err, sym, subst}
use Rattle.std.proofs.lemmas.Result.{err_from_is_err_and}
use Rattle.irp_forms.specs.declared.unread.Unread.{Unread}
use Rattle.irp_transcript_reader.specs.Reading.{IsLineOf, ReadsLine, seen_of, so_far}
use Rattle.irp_fast_reader.proofs.Taken.{put_taken, unread_taken}
use Rattle.irp_fast_reader.proofs.read.take_line.Goals as goal

pub returns-in_err-given : goal.returns-in_err-given
returns-in_err-given c =
    let p = err_from_is_err_and c.from_residual.result c.from_residual.ensures.1 in
    rw p.1 (unread_taken p.0 (so_far c.args.reading.now) _ c.args.line.now
    (subst (λ (given : Unread). ReadsLine (Err given) (seen_of (so_far c.args.reading.now)) c.args.line.now) (sym p.2) (rw c.seen.ensures at c.in_err-given.ensures)))

pub returns : goal.returns
returns c =
    put_taken c.put.result (so_far c.args.reading.now) (so_far c.put.new.self) c.args.line.now c.in_ok-given.given
    (subst (λ seen. IsLineOf seen c.args.line.now c.in_ok-given.given) c.seen.ensures c.in_ok-given.ensures) c.put.ensures.ok c.put.ensures.fault
