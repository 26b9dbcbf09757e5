-- Where the questions of an entry lie, and which they are.
use Rattle.std.specs.Prelude.{List}
use Rattle.std.specs.Arc.{arc_value}
use Rattle.irp_types.specs.declared.asked.Asked.{Asked}
use Rattle.irp_types.specs.declared.questions.Place.{Place}
use Rattle.irp_types.specs.declared.questions.Place.TheVariants.{Own, Shared}

-- the questions that lie in a place
abbrev pub questions_in : Place → List Asked
questions_in (Own questions) = questions.items
questions_in (Shared questions) = (arc_value questions).items
