-- The row at the act's number has what the act has.
use Rattle.std.proofs.Common.{get_or, ap, ◌∙◌}
use Rattle.irp_forms.specs.declared.step_names.StepPlace.TheVariants as place
use Rattle.irp_forms.proofs.Acts.{number, place_there}
use Rattle.irp_forms.proofs.step_names.ActKind.place.Goals as goal

pub returns : goal.returns
returns c =
    c.keyed_at.ensures.place
    ∙ ap (λ column. get_or column (number c.args.self) place.Anywhere) c.keyed.ensures.places ∙ place_there c.args.self
