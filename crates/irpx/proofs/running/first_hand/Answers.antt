-- The steps of the script's parts are the script's.
use Rattle.std.proofs.Common.{position, ap, ◌∙◌}
use Rattle.irp_script.specs.Between.{hands_between}
use Rattle.irp_script_reader.specs.declared.script.ScriptParts.{ScriptParts}
use Rattle.irpx.proofs.running.first_hand.Goals as goal

pub returns : goal.returns
returns c = c.hand_between.ensures ∙ ap (λ (parts : ScriptParts). position (hands_between c.args.workers) parts.steps) c.parts.ensures.parts
