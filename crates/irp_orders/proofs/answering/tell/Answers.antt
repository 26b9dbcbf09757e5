use Rattle.std.proofs.Common.{ℕ, List, refl, subst}
use Rattle.irp_orders.specs.Program.{Sends}
use Rattle.irp_orders.specs.declared.ending.Ending.TheVariants.{Done}
use Rattle.irp_orders.proofs.Uttering.{sent_tables, unexplored_tables}
use Rattle.irp_orders.proofs.answering.tell.Goals as goal

pub returns-in-Ok : goal.returns-in-Ok
returns-in-Ok g c =
    let before = g.O.Out.gone c.args.output.now in
    let after = g.O.Out.gone c.send_text.new.output in
    sent_tables c.args.script.now c.args.order.now c.in-Ok.text.items Done before after c.send_text.result refl c.in-Ok.ensures.told
    (subst (λ (text : List ℕ). Sends text Done before after c.send_text.result) c.as_slice.ensures.value c.send_text.ensures.sends)

pub returns-in-Err : goal.returns-in-Err
returns-in-Err g c =
    let gone = g.O.Out.gone c.args.output.now in
    unexplored_tables c.args.script.now c.args.order.now gone gone c.in-Err.ending c.in-Err.ensures.untold
