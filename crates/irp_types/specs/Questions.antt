-- Questions that closures are asked.
use Rattle.irp_types.specs.declared.shown.Shown.{Shown}
use Rattle.irp_types.specs.declared.asked.Asked.{Asked}
use Rattle.irp_types.specs.declared.asked.Asked.TheVariants as asked

-- what a question showed
abbrev pub shown_of : Asked → Shown
shown_of (asked.Dispatch id shown plan) = shown
shown_of (asked.Completion id shown answer) = shown
shown_of (asked.Cancel id shown answer) = shown
