-- The owner's view before and after the steps of `publish`.
use Rattle.std.proofs.Common.{◌≡◌, true, false, refl}
use Rattle.std.proofs.lemmas.Bool.{false≢true}
use Rattle.irp_slots.specs.declared.views.Stage.{Stage}
use Rattle.irp_slots.specs.declared.views.Stage.TheVariants.{Idle, Published, Standing, Done}
use Rattle.irp_slots.specs.Core.{is_begun}

-- a stage that has not begun is idle
pub idle_if : (stage : Stage) → false ≡ is_begun stage → stage ≡ Idle
idle_if Idle e = refl
idle_if Published e = absurd (false≢true e)
idle_if Standing e = absurd (false≢true e)
idle_if Done e = absurd (false≢true e)
