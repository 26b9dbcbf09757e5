-- What a line is behind what was seen, it is behind the lines before it.
use Rattle.std.proofs.Common.{Err, sym, subst}
use Rattle.std.proofs.lemmas.Result.{err_from_is_err_and}
use Rattle.irp_forms.specs.declared.unread.Unread.{Unread}
use Rattle.irp_transcript_reader.specs.Reading.{ReadsLine}
use Rattle.irp_fast_reader.proofs.Taken.{few_seen, line_given, unread_given}
use Rattle.irp_fast_reader.proofs.line_reader.LineReader.take.Goals as goal

pub returns-in_err-given : goal.returns-in_err-given
returns-in_err-given c = λ before has.
    (let p = err_from_is_err_and c.from_residual.result c.from_residual.ensures.1 in
    rw p.1 (unread_given c.args.self.now before has c.args.line.now p.0 _
    (subst (λ (given : Unread). ReadsLine (Err given) c.args.self.now.seen c.args.line.now) (sym p.2) c.in_err-given.ensures)))

pub returns : goal.returns
returns c = λ before has.
    line_given c.args.self.now before has c.args.line.now _ c.in_ok-given.given c.in_ok-given.ensures (c.behind-self.ensures (few_seen c.args.self.now before has c.args.line.now))
