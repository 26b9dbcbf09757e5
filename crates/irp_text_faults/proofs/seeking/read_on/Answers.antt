use Rattle.std.proofs.Common.{◌≡◌, ◌<◌, ◌≤◌, ◌+◌, ◌==◌, ◌&&◌, ℕ, Bool, true, false, if◌then◌else◌, arith}
use Rattle.std.proofs.lemmas.Grind.{common_steps}
use Rattle.irp_text_faults.specs.Reading.{begins_value, belongs}
use Rattle.irp_text_faults.proofs.seeking.read_on.Goals as goal

-- where something begins before it ends it does so behind a further byte
spans : (begins inside : Bool) (at start end first last : ℕ) → end ≤ at → (0 < end → start < end)
    → first ≡ (if inside && end == 0 then at else start) → last ≡ (if begins then 0 else (if inside then at + 1 else end))
    → 0 < last → first < last
spans true inside at start end first last low before is ends some = grind (arith, common_steps)
spans false true at start end first last low before is ends some = grind (arith, common_steps)
spans false false at start end first last low before is ends some = grind (arith, common_steps)

pub returns-clause-sound : goal.returns-clause-sound
returns-clause-sound c = (
  omega (arith, c.depth_behind.ensures.few, c.requires.sound.0),
  omega (arith, c.members_behind.ensures.few, c.requires.sound.1),
  c.end_behind.ensures.few,
  spans (begins_value c.args.read c.args.byte) (belongs c.args.sought c.args.read c.args.byte) c.args.read.at c.args.read.start
      c.args.read.end c.start_behind.result c.end_behind.result c.requires.sound.2 c.requires.sound.3 c.start_behind.ensures
      c.end_behind.ensures.is,
)
