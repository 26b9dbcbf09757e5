-- What was read is the text that the script, or its refusal, is read from.
use Rattle.std.proofs.Common.{ℕ, List, Err, inl, inr, refl, sym, subst}
use Rattle.irp_script_reader.specs.Scripts.{ReadsScript}
use Rattle.irp_script_reader.specs.declared.refusal.ScriptFault.{ScriptFault}
use Rattle.std.proofs.lemmas.Result.{err_from_is_err_and}
use Rattle.irpx.specs.Running.{IsRead}
use Rattle.irpx.proofs.running.script_of.Goals as goal

pub returns-in-Ok-clause-ok : goal.returns-in-Ok-clause-ok
returns-in-Ok-clause-ok g c =
    let read : IsRead (g.R.Read.remaining c.args.input.now) (g.R.Read.remaining c.read_up_to.new.reader) c.in_ok-text.text.items =
    record { first = c.in_ok-text.ensures.bytes; took = c.in_ok-text.ensures.took } in
    (c.as_slice.result.now, subst (λ (text : List ℕ). IsRead (g.R.Read.remaining c.args.input.now) (g.R.Read.remaining c.read_up_to.new.reader) text) (sym c.as_slice.ensures.value) read, c.in-Ok.ensures.reads)

pub returns-in-Err-Refused-clause-err : goal.returns-in-Err-Refused-clause-err
returns-in-Err-Refused-clause-err g c =
    let read : IsRead (g.R.Read.remaining c.args.input.now) (g.R.Read.remaining c.read_up_to.new.reader) c.in_ok-text.text.items =
    record { first = c.in_ok-text.ensures.bytes; took = c.in_ok-text.ensures.took } in
    inr (c.in-Err-Refused.refusal, c.as_slice.result.now, refl, subst (λ (text : List ℕ). IsRead (g.R.Read.remaining c.args.input.now) (g.R.Read.remaining c.read_up_to.new.reader) text) (sym c.as_slice.ensures.value) read, subst (λ (fault : ScriptFault). ReadsScript (Err fault) c.as_slice.result.now) c.in-Err-Refused.field-0-is c.in-Err-Refused.ensures.reads)

pub returns-in_err-text-clause-err : goal.returns-in_err-text-clause-err
returns-in_err-text-clause-err g c =
    let p = err_from_is_err_and c.from_residual.result c.from_residual.ensures.1 in
    rw p.1 (inl p.2)
