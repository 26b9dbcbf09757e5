use Rattle.std.proofs.Common.{rules, ◌∷◌, [], length, ◌<◌, ◌^◌, ap, ◌∙◌, arith}
use Rattle.irp_explore.specs.Paths.{changes_of, seam}
use Rattle.irp_explore.proofs.Changing.{changes_few, changes_more, last_at}
use Rattle.irp_explore.proofs.path.Path.changes_with.Goals as goal

pub overflow_add-result : goal.overflow_add-result
overflow_add-result c =
    let few = changes_few c.self.inside.seats.items in
    let long : length c.self.inside.seats.items < 2 ^ 63 = search rules in
    omega (arith, few, long, c.self.invariant, c.seam.ensures.once)

pub returns : goal.returns
returns c =
    let path = c.args.self.now in
    let more = changes_more path c.args.seat in
    let last = ap (λ last. seam last (c.args.seat ∷ [])) (c.last.ensures ∙ last_at path) in
    let held = ap changes_of c.self.view_is in
    omega (arith, more, last, held, c.self.invariant, c.seam.ensures.seam)
