-- What isn't told stops short as the order of one of the outcomes.
use Rattle.std.proofs.Common.{◌∙◌, ◌↔◌, Bool, List, ap, subst, sym}
use Rattle.std.specs.Prelude.{IsTrue}
use Rattle.std.proofs.lemmas.Result.{err_from_is_err_and}
use Rattle.std.proofs.lemmas.Slice.Zip.{AllZip-long}
use Rattle.irp_script_reader.specs.declared.act.Step.{Step}
use Rattle.irp_script_reader.specs.declared.script.ScriptParts.{ScriptParts}
use Rattle.irp_orders.specs.Judging.{AreMarks, Breaks, IsVerdict}
use Rattle.irp_orders.specs.declared.found.Found.{Found}
use Rattle.irp_orders.proofs.Showing.{stuck_of}
use Rattle.irp_orders.proofs.Shown.{shown_within}
use Rattle.irp_orders.proofs.judging.answered.Goals as goal

pub told-requires-clause-marks : goal.told-requires-clause-marks
told-requires-clause-marks c =
    AllZip-long (λ (found : Found) (mark : Bool). IsTrue mark ↔ Breaks c.as_slice.result.now c.args.question found)
    c.args.founds.now c.in_ok-judged.judged.marks.items c.in_ok-judged.ensures.marks

pub told-requires-clause-shown : goal.told-requires-clause-shown
told-requires-clause-shown c =
    shown_within (Breaks c.as_slice.result.now c.args.question) c.args.founds.now c.in_ok-judged.judged.shown c.in_ok-judged.ensures.verdict

pub returns-clause-text : goal.returns-clause-text
returns-clause-text c =
    let question = c.args.question in
    let founds = c.args.founds.now in
    let marks = c.in_ok-judged.judged.marks.items in
    let shown = c.in_ok-judged.judged.shown in
    let steps_are = c.as_slice.ensures ∙ ap (λ (script : ScriptParts). script.steps) c.parts.ensures.parts in
    record {
      columns = c.in_ok-columns.columns;
      columns_are =
          record {
            script_is = c.in_ok-columns.ensures.script;
            labels = c.in_ok-columns.ensures.labels;
            orders = c.in_ok-columns.ensures.orders;
          };
      marks = marks;
      marks_are = subst (λ (steps : List Step). AreMarks (Breaks steps question) founds marks) steps_are c.in_ok-judged.ensures.marks;
      shown = shown;
      verdict = subst (λ (steps : List Step). IsVerdict (Breaks steps question) founds shown) steps_are c.in_ok-judged.ensures.verdict;
      text_is = c.in_ok-told.ensures.text;
      ends = c.in_ok-told.ensures.ends;
    }

pub returns-in_err-told-clause-no_step : goal.returns-in_err-told-clause-no_step
returns-in_err-told-clause-no_step c =
    let p = err_from_is_err_and c.from_residual-in_err-told.result c.from_residual-in_err-told.ensures.1 in
    rw p.1 (λ same.
    stuck_of c.in_ok-columns.columns.script.now c.args.script.now c.args.founds.now c.in_ok-columns.ensures.script
    (c.in_err-told.ensures.no_step (sym p.2 ∙ same)))
