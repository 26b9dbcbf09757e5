-- Where the output fails a beginning of the text went out.
use Rattle.std.proofs.Common.{refl}
use Rattle.std.proofs.lemmas.Result.{err_from_is_err_and}
use Rattle.irp_view.proofs.Said.{breaks_off}
use Rattle.irp_view.proofs.why.why.Goals as goal

pub returns-in_err-send-clause-err : goal.returns-in_err-send-clause-err
returns-in_err-send-clause-err g c =
    let p = err_from_is_err_and c.from_residual-in_err-send.result c.from_residual-in_err-send.ensures.1 in
    rw (p.1, p.2)
    (λ transcript found. breaks_off transcript c.args.judged.now.found.wrong c.args.judged.now.found.wrong _ _ _ _ _ _ _ found.explained found.judged refl (c.in_ok-text.ensures transcript found) c.as_slice.ensures.value c.in_err-send.ensures.err)
