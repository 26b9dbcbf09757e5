-- The packet of this use was put.
use Rattle.std.proofs.Common.{◌≡◌, ◌++◌, OnOk, Option, Some, Bool, if◌then◌else◌, sym, subst, ap, ◌∙◌}
use Rattle.std.proofs.lemmas.Bool.{eq-eqb}
use Rattle.std.specs.Option.{option_copied}
use Rattle.serde_json.specs.Data.{null}
use Rattle.serde_json.specs.Written.{compact_text}
use Rattle.irp_types.specs.State.{LivePacket}
use Rattle.irp_story.specs.Forms.{packet_json}
use Rattle.irp_story.specs.Lines.{use_json}
use Rattle.irp_story.proofs.lines.UseWritten.write.Goals as goal

pub returns-in-Some : goal.returns-in-Some
returns-in-Some c =
    subst (λ (given : Option LivePacket). OnOk c.write.result (c.write.new.out.items ≡ c.args.out.now.items ++ compact_text (use_json c.args.self.now.irp given)))
    (ap Some c.live.view_is ∙ sym (ap option_copied c.in-Some.is))
    (subst (λ (same : Bool). OnOk c.write.result (c.write.new.out.items ≡ c.args.out.now.items ++ compact_text (if same then packet_json c.args.self.now.irp c.live.inside.packet else null)))
    (sym (eq-eqb c.live.inside.use_no c.args.self.now.irp.use_no c.if-live-irp.true)) c.write.ensures)
