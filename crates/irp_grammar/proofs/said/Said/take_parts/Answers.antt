use Rattle.std.proofs.Common.{arith}
use Rattle.std.proofs.lemmas.Option.{slice_get-get_or}
use Rattle.irp_grammar.proofs.Valued.{only_both, parts_more}
use Rattle.irp_grammar.specs.Lines.{ahead}
use Rattle.irp_grammar.specs.Reading.{given_of}
use Rattle.irp_grammar.specs.Saying.{none}
use Rattle.irp_forms.specs.declared.key_parts.Part.TheVariants as part
use Rattle.std.proofs.Common.{get_or, refl}
use Rattle.std.specs.List.{slice_set}
use Rattle.irp_grammar.proofs.said.Said.take_parts.Goals as goal

-- one value more
pub loop-place-preserved : goal.loop-place-preserved
loop-place-preserved c =
    let parts = c.args.parts.now in
    let place = c.loop-place.place in
    let said = c.in_ok-values.field-0 in
    let is = slice_get-get_or parts place part.Device (omega (arith, c.loop-place-test.true)) in (
      parts_more place parts (ahead c.args.words.now) (ahead c.loop-place.words) (ahead c.take_value.new.words) none
          c.loop-place.values (slice_set c.loop-place.values place said) (given_of c.args.self.now) (given_of c.loop-place.self)
          (given_of c.take_value.new.self) c.loop-place.invariant.0
          (get_or parts place part.Device, said, is, c.in_ok-values.ensures.value, refl),
      only_both c.args.self.now c.loop-place.self c.take_value.new.self c.loop-place.invariant.1 c.in_ok-values.ensures.said,
    )
