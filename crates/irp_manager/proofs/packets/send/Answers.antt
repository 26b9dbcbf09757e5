use Rattle.std.proofs.Common.{◌≡◌, ◌++◌, List, Option, None, refl, sym, ◌∙◌, ap, subst}
use Rattle.irp_types.specs.State.{LivePacket}
use Rattle.irp_types.specs.Refusals.{send_refusal}
use Rattle.irp_types.specs.Descent.{Descended}
use Rattle.irp_types.specs.declared.asked.Asked.{Asked}
use Rattle.irp_types.specs.declared.refusal.Refusal.{Refusal}
use Rattle.irp_types.specs.declared.reply.Reply.TheVariants.{Status as StatusIs}
use Rattle.irp_manager.specs.Calls.{Goes, Sends}
use Rattle.irp_manager.proofs.packets.send.Goals as goal

pub returns-clause-goes : goal.returns-clause-goes
returns-clause-goes g c =
    let tables = g.A.Ask.tables c.args.ask.now in
    let irp = c.args.irp in
    let devices = c.args.stacks.now.devices in
    let target = c.args.target.0 in
    let old : LivePacket = record { packet = c.live.inside.packet; use_no = c.live.inside.use_no } in
    let new : LivePacket = record { packet = c.descend-sent.new.packet; use_no = c.live.inside.use_no } in
    let items = c.descend-sent.new.asked.items in
    let status = c.descend-sent.result.status in
    let refusal = send_refusal devices c.args.party old.packet target in
    let none : refusal ≡ None = sym c.send_check.ensures.refusal ∙ c.in_default.is in
    let descends = c.descend-sent.ensures.descends in
    let listed : items ≡ descends.asked = descends.listed ∙ ap (λ (before : List Asked). before ++ descends.asked) c.requires.empty in
    let descended : Descended tables irp devices old.packet target items new.packet status =
    subst (λ (asked : List Asked). Descended tables irp devices old.packet target asked new.packet status) (sym listed) descends.descended in
    subst (λ (given : LivePacket). Goes (send_refusal devices c.args.party given.packet target)
    (Sends tables irp devices target items (StatusIs status) given.packet) given new items (StatusIs status)) c.live.view_is
    (subst (λ (given : Option Refusal). Goes given (Sends tables irp devices target items (StatusIs status) old.packet) old new items (StatusIs status)) (sym none)
    (new.packet, (status, descended, refl), refl))
