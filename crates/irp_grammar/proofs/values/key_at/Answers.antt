use Rattle.std.proofs.Common.{rules, arith, ℕ, ◌≡◌, subst, List, [], Bor, get_or, Some}
use Rattle.std.specs.List.{slice_get}
use Rattle.irp_forms.specs.Steps.{ActKey}
use Rattle.irp_forms.specs.declared.key_parts.Part.{Part}
use Rattle.irp_forms.specs.declared.key_parts.Part.TheVariants as part
use Rattle.irp_grammar.specs.declared.step_line.Value.TheVariants as value
use Rattle.irp_grammar.proofs.Valued.{key_there, value_there}
use Rattle.irp_grammar.proofs.values.key_at.Goals as goal

-- a key of this name, which has no value yet
pub returns-then-is_absent : goal.returns-then-is_absent
returns-then-is_absent c =
    let keys = c.keys-keys.result.now in
    let place = c.loop-place.place in
    let d : Bor (List ℕ) × Part = (record { ref_ptr = (0, 0); now = [] }, part.Device) in
    let same : (get_or keys place d).0.now ≡ c.args.text.now = search rules in
    let free : get_or c.args.values.now place value.Absent ≡ value.Absent = search rules in (
      subst (λ (its : List ActKey). slice_get its place ≡ Some (c.args.text.now, (get_or keys place d).1)) c.keys-keys.ensures.keys
          (key_there keys place d c.args.text.now (omega (arith, c.loop-place-test.true)) same),
      value_there c.args.values.now place value.Absent (search rules) free,
    )
