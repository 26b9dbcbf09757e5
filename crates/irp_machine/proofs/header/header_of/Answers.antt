use Rattle.std.proofs.Common.{All, List, get_or, length, sym, subst}
use Rattle.irp_types.specs.State.{Entrance}
use Rattle.irp_machine.specs.Headers.{AreMajorsApart}
use Rattle.irp_machine.proofs.Rising.{majors_apart}
use Rattle.irp_machine.proofs.header.header_of.Goals as goal

pub drivers_of-requires : goal.drivers_of-requires
drivers_of-requires c =
    let script = c.args.script.now in
    let drivers : List (List Entrance) = script.drivers in
    subst (λ (drivers : List (List Entrance)). All AreMajorsApart drivers) (sym c.as_slice-3.ensures)
    (λ k d low. majors_apart (length script.dispatches) (get_or drivers k d) (c.requires.drivers k d low))
