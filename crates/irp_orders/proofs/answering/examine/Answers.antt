use Rattle.std.proofs.Common.{ℕ, List, subst}
use Rattle.irp_orders.specs.Program.{Sends, TellsRight}
use Rattle.irp_orders.specs.declared.ending.Ending.{Ending}
use Rattle.irp_orders.proofs.Uttering.{sent_utters, unsaid_utters}
use Rattle.irp_orders.proofs.answering.examine.Goals as goal

pub returns-in-Ok-clause-utters : goal.returns-in-Ok-clause-utters
returns-in-Ok-clause-utters g c =
    let before = g.O.Out.gone c.args.output.now in
    let after = g.O.Out.gone c.send_text.new.output in
    sent_utters (λ (text : List ℕ) (ending : Ending). TellsRight c.args.script.now text ending) c.in-Ok.text.items c.in-Ok.ending before after
    c.send_text.result c.in-Ok.ensures.tells
    (subst (λ (text : List ℕ). Sends text c.in-Ok.ending before after c.send_text.result) c.as_slice.ensures.value c.send_text.ensures.sends)

pub returns-in-Err-clause-utters : goal.returns-in-Err-clause-utters
returns-in-Err-clause-utters g c =
    let gone = g.O.Out.gone c.args.output.now in
    unsaid_utters (λ (text : List ℕ) (ending : Ending). TellsRight c.args.script.now text ending) gone gone c.in-Err.ending c.in-Err.ensures.unsaid
