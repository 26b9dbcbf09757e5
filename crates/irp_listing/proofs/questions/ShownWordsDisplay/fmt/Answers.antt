use Rattle.std.proofs.Common.{sym, subst}
use Rattle.std.specs.Fmt.{WritesOnOk}
use Rattle.irp_types.specs.declared.asked.Asked.{Asked}
use Rattle.irp_listing.specs.Questions.{shown_text}
use Rattle.irp_listing.proofs.questions.ShownWordsDisplay.fmt.Goals as goal

pub returns-in-Dispatch-clause-writes : goal.returns-in-Dispatch-clause-writes
returns-in-Dispatch-clause-writes g c =
    subst (λ (question : Asked). WritesOnOk g.W.Write.write_str_gives c.args.f.now c.write.result (shown_text question) c.write.new.self)
    (sym c.in-Dispatch.is) c.write.ensures.writes

pub returns-in-Completion-clause-writes : goal.returns-in-Completion-clause-writes
returns-in-Completion-clause-writes g c =
    subst (λ (question : Asked). WritesOnOk g.W.Write.write_str_gives c.args.f.now c.write-in-Completion.result (shown_text question) c.write-in-Completion.new.self)
    (sym c.in-Completion.is) c.write-in-Completion.ensures.writes
