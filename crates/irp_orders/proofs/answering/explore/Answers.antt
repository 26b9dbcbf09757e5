use Rattle.std.proofs.Common.{◌⊎◌, inl, List, ℕ, sym, subst}
use Rattle.irp_orders.specs.Program.{IsAnswered, IsGivenUp, IsRefused}
use Rattle.irp_orders.specs.declared.ending.Ending.{Ending}
use Rattle.irp_orders.proofs.Programs.{explored_by, unheard_up}
use Rattle.irp_orders.proofs.answering.explore.Goals as goal

pub returns-in-Ok : goal.returns-in-Ok
returns-in-Ok g c =
    let order = c.args.order.now in
    let ending = c.read_and_answer.result in
    explored_by order _ _ _ _ c.in-Ok.text.items ending
    (record { front = c.in-Ok.ensures.bytes; took = c.in-Ok.ensures.took })
    (subst (λ (text : List ℕ). IsGivenUp ending ⊎ (IsRefused text ending ⊎ IsAnswered order text (g.O.Out.gone c.args.output.now) (g.O.Out.gone c.read_and_answer.new.output) ending))
    c.as_slice.ensures.value c.read_and_answer.ensures)

pub returns-in-Err : goal.returns-in-Err
returns-in-Err g c =
    inl (subst (λ (ending : Ending). IsGivenUp ending) (sym c.from.ensures) (unheard_up c.in-Err.fault))
