use Rattle.std.proofs.Common.{subst}
use Rattle.irp_script_reader.specs.declared.script.ScriptParts.{ScriptParts}
use Rattle.irp_warnings.specs.Warned.{AreWarnings}
use Rattle.irp_warnings.proofs.Ordered.{course_of}
use Rattle.irp_warnings.proofs.warned.warnings.Goals as goal

pub returns-clause-warnings : goal.returns-clause-warnings
returns-clause-warnings c =
    let found = c.add_warnings-2.new.found.items in
    subst (λ (script : ScriptParts). AreWarnings script found) c.parts-parts.ensures.parts
    (course_of c.parts-parts.result.now c.in_ok-header.header c.new-found.result.items c.add_warnings.new.found.items found
    c.in_ok-run.run' c.in_ok-run-2.run' c.in_ok-run-3.run' c.in_ok-_run._run c.in_ok-header.ensures c.new-found.ensures.items
    c.in_ok-run.ensures c.in_ok-run-2.ensures.goes c.in_ok-run-3.ensures c.in_ok-_run.ensures.goes)
