use Rattle.std.proofs.Common.{◌≡◌, ◌++◌, ◌∷◌, [], List, ℕ, ap, sym, ◌∙◌}
use Rattle.irp_explore.specs.Paths.{changes_of}
use Rattle.irp_explore.proofs.path.Path.longer.Goals as goal

pub invariant_of-result : goal.invariant_of-result
invariant_of-result c =
    let more = c.args.seat ∷ [] in
    let none : c.in_ok-seats.seats.items ++ c.deref.result.now ≡ c.deref.result.now =
    ap (λ (front : List ℕ). front ++ c.deref.result.now) c.in_ok-seats.ensures.items in
    let front : c.extend_from_slice.new.self.items ≡ c.args.self.now =
    c.in_ok-extend_from_slice.ensures.items ∙ none ∙ c.deref.ensures.value ∙ c.self.view_is in
    let items : c.push.new.self.items ≡ c.args.self.now ++ more =
    c.in_ok-push.ensures.items ∙ ap (λ (path : List ℕ). path ++ more) front in
    c.changes_with.ensures ∙ sym (ap changes_of items)
