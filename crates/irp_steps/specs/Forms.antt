-- The form of a script's transcripts.
use Rattle.irp_transcript.specs.declared.header.Form.{Form}
use Rattle.irp_transcript.specs.declared.header.Form.TheVariants as form
use Rattle.irp_script_reader.specs.declared.script.ScriptForm.{ScriptForm}
use Rattle.irp_script_reader.specs.declared.script.ScriptForm.TheVariants as script

-- the same, and form 2 where the script has form 4, with as many cancel slots
abbrev pub form_of : ScriptForm → Form
form_of script.One = form.One
form_of (script.Two slots) = form.Two slots
form_of (script.Four slots) = form.Two slots
