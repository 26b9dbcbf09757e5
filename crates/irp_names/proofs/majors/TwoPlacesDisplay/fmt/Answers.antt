use Rattle.std.proofs.Common.{Some, ap, ◌∙◌, subst, Option, List, ℕ}
use Rattle.std.specs.Prelude.{codes, ◌^◌, ◌-◌, false, []}
use Rattle.std.specs.Option.{option_map}
use Rattle.std.specs.Fmt.{styled_digits_output, format_spec, padded_integral, DisplaysOnOk, ◌++?◌}
use Rattle.irp_names.proofs.majors.TwoPlacesDisplay.fmt.Goals as goal

pub returns-clause-writes : goal.returns-clause-writes
returns-clause-writes g c =
    subst (λ (text : Option (List ℕ)). DisplaysOnOk g.W.Write.write_str_gives c.args.f.now c.write.result (Some (codes "0x") ++? text) c.write.new.self)
    (ap (styled_digits_output c.in_radix.result) c.laid_out.ensures
    ∙ ap (option_map (padded_integral (format_spec 32 0 4 2 (2 ^ 64 - 1)) false [])) c.in_radix.ensures)
    c.write.ensures.writes
