use Rattle.std.proofs.Common.{◌≡◌, ◌≤◌, ◌++◌, ◌∷◌, [], List, ℕ, Contains, get_or, ap, subst, sym, ◌∙◌, refl, arith}
use Rattle.std.proofs.lemmas.List.{get_or_read}
use Rattle.irp_explore.specs.Paths.{changes_of}
use Rattle.irp_explore.proofs.Keeping.{fewest_held}
use Rattle.irp_explore.proofs.path.longer_paths.Goals as goal

pub returns-clause-held : goal.returns-clause-held
returns-clause-held c = λ other held.
    let paths = c.args.paths.now in
    let best = c.index-paths-best-2.result in
    let longer = c.in_ok-longer-2.field-0 in
    let more = c.args.seat ∷ [] in
    let items : c.push.new.self.items ≡ longer ∷ [] =
    c.in_ok-push.ensures.items ∙ ap (λ (front : List (List ℕ)). front ++ longer ∷ []) c.in_ok-longer.ensures.items in
    fewest_held paths c.push.new.self.items best longer other c.args.seat
    (λ k d below.
    subst (λ (best : List ℕ). changes_of (best ++ more) ≤ changes_of (get_or paths k d ++ more))
    (sym (get_or_read paths c.loop-place.best best c.loop-place.invariant.there c.index-paths-best-2.is d))
    (c.loop-place.invariant.fewest k d (omega (arith, below, c.loop-place-test.false)) below))
    c.in_ok-longer-2.ensures
    (subst (λ (paths : List (List ℕ)). Contains paths longer) (sym items) (0, omega arith, refl)) held
