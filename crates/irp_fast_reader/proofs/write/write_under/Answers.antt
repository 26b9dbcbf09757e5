-- The lines go out, up to the fault of the header's line, of the entries' or of the word lines.
use Rattle.std.proofs.lemmas.Result.{err_from_is_err_and}
use Rattle.irp_fast_reader.proofs.Fitted.{entries_stop, head_stops, too_many, words_end}
use Rattle.irp_fast_reader.proofs.write.write_under.Goals as goal

pub returns-then-entries-gt-MOST_ENTRIES-clause-writes : goal.returns-then-entries-gt-MOST_ENTRIES-clause-writes
returns-then-entries-gt-MOST_ENTRIES-clause-writes g c =
    too_many c.args.header.now c.args.entries.now c.args.words.now (g.O.Out.gone c.args.out.now) c.if-entries-gt-MOST_ENTRIES.true

pub returns-in_err-put_line-clause-writes : goal.returns-in_err-put_line-clause-writes
returns-in_err-put_line-clause-writes g c =
    let p = err_from_is_err_and c.from_residual.result c.from_residual.ensures.1 in
    rw (p.1, p.2) (head_stops c.args.header.now c.args.entries.now c.args.words.now _ _ c.in_err-put_line.field-0.0 c.in_err-put_line.ensures.puts)

pub returns-in_err-put_lines-clause-writes : goal.returns-in_err-put_lines-clause-writes
returns-in_err-put_lines-clause-writes g c =
    let p = err_from_is_err_and c.from_residual-in_err-put_lines.result c.from_residual-in_err-put_lines.ensures.1 in
    let head = c.in_ok-put_line.ensures.puts in
    rw (p.1, p.2)
    (entries_stop c.args.header.now c.args.entries.now c.args.words.now _ _ _ c.in_err-put_lines.field-0.0 head.0.1
    c.if-entries-gt-MOST_ENTRIES.false head.1 c.in_err-put_lines.ensures.puts)

pub returns-clause-writes : goal.returns-clause-writes
returns-clause-writes g c =
    let head = c.in_ok-put_line.ensures.puts in
    let entries = c.in_ok-put_lines.ensures.puts in
    words_end c.args.header.now c.args.entries.now c.args.words.now _ _ _ _ c.put_lines-2.result head.0.1
    c.if-entries-gt-MOST_ENTRIES.false head.1 entries.0 entries.1 c.put_lines-2.ensures.puts
