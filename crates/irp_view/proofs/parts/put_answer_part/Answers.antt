-- The question was told behind its place.
use Rattle.std.proofs.Common.{ap, ◌++◌, ◌∙◌, append_assoc, codes}
use Rattle.std.proofs.lemmas.Result.{on_ok_weaker}
use Rattle.std.specs.Fmt.{decimal}
use Rattle.irp_view.specs.Questions.{who_text}
use Rattle.irp_view.proofs.Rows.{behind}
use Rattle.irp_view.proofs.parts.put_answer_part.Goals as goal

pub returns-in_ok-write-in-Some : goal.returns-in_ok-write-in-Some
returns-in_ok-write-in-Some c =
    rw c.in-Some.is
    (on_ok_weaker c.put_who.result
    (λ put. behind _ _ _ _ _ c.in_ok-write-in-Some.ensures.bytes put
    ∙ ap (λ given. c.args.words.now.bytes.items ++ (codes "asked " ++ given)) (append_assoc (decimal c.args.at) (codes ", answer of ") (who_text c.in-Some.question)))
    c.put_who.ensures)
