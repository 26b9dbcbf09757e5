-- The slots of a script.
use Rattle.std.proofs.Common.{◌≡◌, refl}
use Rattle.irp_transcript.specs.Headers.{slots_of as slots_in}
use Rattle.irp_script_reader.specs.Forms.{slots_of}
use Rattle.irp_script_reader.specs.declared.script.ScriptForm.{ScriptForm}
use Rattle.irp_script_reader.specs.declared.script.ScriptForm.TheVariants as script_form
use Rattle.irp_steps.specs.Forms.{form_of}

-- the form of its transcript has as many
pub slots_same : (form : ScriptForm) → slots_in (form_of form) ≡ slots_of form
slots_same script_form.One = refl
slots_same (script_form.Two slots) = refl
slots_same (script_form.Four slots) = refl
