use Rattle.std.proofs.Common.{◌⊎◌, inl, List, ℕ, sym, subst}
use Rattle.irp_orders.specs.Program.{IsFaulty, IsGivenUp, IsToldOfWords}
use Rattle.irp_orders.specs.declared.ending.Ending.{Ending}
use Rattle.irp_orders.proofs.Programs.{explored_of_words, unheard_up}
use Rattle.irp_orders.proofs.in_words.explore_words.Goals as goal

pub returns-in-Ok : goal.returns-in-Ok
returns-in-Ok g c =
    let order = c.args.order.now in
    let ending = c.answer_words.result in
    explored_of_words order _ _ _ _ c.in-Ok.text.items ending
    (record { front = c.in-Ok.ensures.bytes; took = c.in-Ok.ensures.took })
    (subst (λ (text : List ℕ). IsFaulty ending ⊎ IsToldOfWords order text (g.O.Out.gone c.args.output.now) (g.O.Out.gone c.answer_words.new.output) ending)
    c.as_slice.ensures.value c.answer_words.ensures)

pub returns-in-Err : goal.returns-in-Err
returns-in-Err g c =
    inl (subst (λ (ending : Ending). IsGivenUp ending) (sym c.from.ensures) (unheard_up c.in-Err.fault))
