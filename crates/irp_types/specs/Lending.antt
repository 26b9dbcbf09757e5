-- What stays where another asker, with more routines, is lent.
use Rattle.irp_types.specs.Rules.{IsWithin}
use Rattle.irp_types.specs.Standing.{StandingFacts}
use Rattle.irp_types.specs.State.{StateValue}
use Rattle.irp_types.specs.declared.routine.Known.{Known}

-- the standing facts of a state stay where there are at least as many routines of each rule
abbrev pub StandWithMore : Type 0
StandWithMore =
    (fewer more : Known) (state : StateValue) → IsWithin fewer more → StandingFacts fewer state
    → StandingFacts more state
