use Rattle.std.proofs.Common.{◌∙◌, sym, arith}
use Rattle.std.proofs.lemmas.Bool.{ltb-true}
use Rattle.irp_explore.proofs.Changing.{fewer_is_good, same_is_good, last_at, same_seats}
use Rattle.irp_explore.proofs.path.Path.is_as_good.Goals as goal

pub returns-then-few-many : goal.returns-then-few-many
returns-then-few-many c = λ less.
    let fewer = ltb-true c.changes-few.result c.changes-many.result less in
    fewer_is_good c.args.self.now c.args.other.now (omega (arith, fewer, c.changes-few.ensures, c.changes-many.ensures))

pub returns : goal.returns
returns c = λ same.
    let seats = same_seats c.last.result c.last-2.result (sym c.eq.ensures ∙ same) in
    same_is_good c.args.self.now c.args.other.now
    (omega (arith, c.changes-few.ensures, c.if-few-many.false, c.changes-many.ensures))
    (sym (last_at c.args.self.now) ∙ sym c.last.ensures ∙ seats ∙ c.last-2.ensures ∙ last_at c.args.other.now)
