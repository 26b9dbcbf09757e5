use Rattle.std.proofs.Common.{sym, ap, subst, arith, List, ℕ, All, set, refl}
use Rattle.irp_explore.specs.Paths.{HasAsGood, IsAsGood}
use Rattle.irp_explore.proofs.Keeping.{IsOldOr, has_held, only_old, set_held, set_kept, set_only, push_held, push_kept, push_only}
use Rattle.irp_explore.proofs.path.add_path.Goals as goal

pub returns-then-is_as_good-clause-kept : goal.returns-then-is_as_good-clause-kept
returns-then-is_as_good-clause-kept c = λ other held. rw c.loop-place.invariant.paths held

pub returns-then-is_as_good-clause-held : goal.returns-then-is_as_good-clause-held
returns-then-is_as_good-clause-held c = λ other good.
    has_held c.loop-place.paths.items c.loop-place.place c.index.result.now c.loop-place.path other
    (omega (arith, c.loop-place-test.true)) c.index.ensures (c.if-is_as_good.ensures refl)
    (subst (λ (path : List ℕ). IsAsGood path other) (sym c.loop-place.invariant.path) good)

pub returns-then-is_as_good-clause-only : goal.returns-then-is_as_good-clause-only
returns-then-is_as_good-clause-only c = rw c.loop-place.invariant.paths (only_old c.args.paths.now.items c.args.path)

pub returns-then-is_as_good-2-clause-kept : goal.returns-then-is_as_good-2-clause-kept
returns-then-is_as_good-2-clause-kept c = λ other held.
    set_kept c.loop-place.paths.items c.loop-place.place c.index-in-loop-place.result.now c.loop-place.path other
    (omega (arith, c.loop-place-test.true)) c.index-in-loop-place.ensures (c.if-is_as_good-2.ensures refl)
    (subst (λ paths. HasAsGood paths other) (sym (ap (λ paths. paths.items) c.loop-place.invariant.paths)) held)

pub returns-then-is_as_good-2-clause-held : goal.returns-then-is_as_good-2-clause-held
returns-then-is_as_good-2-clause-held c = λ other good.
    set_held c.loop-place.paths.items c.loop-place.place c.loop-place.path other (omega (arith, c.loop-place-test.true))
    (subst (λ (path : List ℕ). IsAsGood path other) (sym c.loop-place.invariant.path) good)

pub returns-then-is_as_good-2-clause-only : goal.returns-then-is_as_good-2-clause-only
returns-then-is_as_good-2-clause-only c =
    let only = set_only c.loop-place.paths.items c.loop-place.place c.loop-place.path in
    let paths = set c.loop-place.paths.items c.loop-place.place c.loop-place.path in
    subst (λ (old : List (List ℕ)). All (IsOldOr old c.args.path) paths) (ap (λ paths. paths.items) c.loop-place.invariant.paths)
    (subst (λ (path : List ℕ). All (IsOldOr c.loop-place.paths.items path) paths) c.loop-place.invariant.path only)

pub returns-clause-kept : goal.returns-clause-kept
returns-clause-kept c = λ other held.
    push_kept c.loop-place.paths.items c.push.new.self.items c.loop-place.path other c.in_ok-push.ensures.items
    (subst (λ paths. HasAsGood paths other) (sym (ap (λ paths. paths.items) c.loop-place.invariant.paths)) held)

pub returns-clause-held : goal.returns-clause-held
returns-clause-held c = λ other good.
    push_held c.loop-place.paths.items c.push.new.self.items c.loop-place.path other c.in_ok-push.ensures.items
    (subst (λ (path : List ℕ). IsAsGood path other) (sym c.loop-place.invariant.path) good)

pub returns-clause-only : goal.returns-clause-only
returns-clause-only c =
    let only = push_only c.loop-place.paths.items c.push.new.self.items c.loop-place.path c.in_ok-push.ensures.items in
    subst (λ (old : List (List ℕ)). All (IsOldOr old c.args.path) c.push.new.self.items) (ap (λ paths. paths.items) c.loop-place.invariant.paths)
    (subst (λ (path : List ℕ). All (IsOldOr c.loop-place.paths.items path) c.push.new.self.items) c.loop-place.invariant.path only)
