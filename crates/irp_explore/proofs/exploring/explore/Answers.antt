use Rattle.std.proofs.Common.{arith, ◌≡◌, ◌+◌, ◌-◌, ◌<◌, vec_len, inl, inr, true, false, [], ◌++◌, length, Some, None, All, Contains, ap, sym, subst, ◌∙◌}
use Rattle.std.proofs.lemmas.List.{append-nil, nil_from_length}
use Rattle.std.proofs.lemmas.List.Elements.{All-nil, All-same}
use Rattle.std.proofs.lemmas.Bool.{cases_lt}
use Rattle.std.proofs.lemmas.Bool.Decides.{nat_tests}
use Rattle.std.proofs.lemmas.Result.{err_from_is_err_and}
use Rattle.irp_explore.specs.Counted.{AreCounted}
use Rattle.irp_explore.specs.Nodes.{IsMatched, IsReached, states_of, weigh}
use Rattle.irp_explore.proofs.Reaching.{found_from_reached, order_from_layer}
use Rattle.irp_explore.proofs.Ahead.{nothing_contained, reach_step}
use Rattle.irp_explore.proofs.Matching.{match_first, match_layer, match_found}
use Rattle.irp_explore.proofs.Counting.{counted_flipped}
use Rattle.irp_explore.proofs.Passing.{states_from, orders_from}
use Rattle.irp_explore.proofs.exploring.explore.Goals as goal

pub loop-left-init : goal.loop-left-init
loop-left-init g c =
    let moves = g.M.Machine.moves c.args.machine.now in
    let seats = g.M.Machine.seats c.args.machine.now in
    let mark = g.M.Machine.mark c.args.machine.now in
    let start = c.args.start in
    let most = c.args.most_steps in
    let none : 0 ≡ most - most = omega arith in
    record {
      within = omega arith;
      orders = λ number shared.
          let empty = ap (λ nodes. weigh number nodes) c.new-found.ensures.items in
          omega (arith, empty, c.in_ok-first.ensures.weight number);
      layer = subst (λ steps. All (IsReached moves seats mark start (Some steps)) c.in_ok-first.first.items) none c.in_ok-first.ensures.reached;
      found = All-same (IsReached moves seats mark start None) c.new-found.result.items [] c.new-found.ensures.items (All-nil (IsReached moves seats mark start None));
      reach = λ path last leads. inr (start, path, c.in_ok-first.ensures.held, leads, omega arith);
      matched = λ path last leads long. match_first moves seats start c.in_ok-first.first.items c.in_ok-first.ensures.matched path last leads (omega (arith, long));
      ended = λ path last leads short ended. absurd (omega (arith, short));
      counted = rw c.new-found.ensures.items c.in_ok-first.ensures.counted;
    }

pub returns-clause-orders : goal.returns-clause-orders
returns-clause-orders g c = λ number shared.
    let none : vec_len c.loop-left.layer ≡ 0 = grind (arith, nat_tests, c.is_empty.ensures, c.if-not-is_empty.false) in
    let empty = ap (λ nodes. weigh number nodes) (nil_from_length c.loop-left.layer.items (omega (arith, none))) in
    omega (arith, c.in_ok-joined.ensures.weight number, c.loop-left.invariant.orders number shared, empty)

pub returns-clause-counted : goal.returns-clause-counted
returns-clause-counted g c =
    let none : vec_len c.loop-left.layer ≡ 0 = grind (arith, nat_tests, c.is_empty.ensures, c.if-not-is_empty.false) in
    let empty = nil_from_length c.loop-left.layer.items (omega (arith, none)) in
    let joined = c.in_ok-joined.joined.items in
    subst (AreCounted (g.M.Machine.moves c.args.machine.now) (g.M.Machine.seats c.args.machine.now) c.args.start) (ap (λ layer. joined ++ layer) empty ∙ append-nil joined)
    (c.in_ok-joined.ensures.counted c.args.start c.loop-left.layer.items c.loop-left.invariant.counted)

pub returns-clause-steps : goal.returns-clause-steps
returns-clause-steps g c = λ path last leads.
    elim (c.loop-left.invariant.reach path last leads) as (λ _. length path < c.args.most_steps) [
      | inl was ↦ omega (arith, was.0)
      | inr ahead ↦ absurd (nothing_contained c.loop-left.layer.items ahead.0 (grind (arith, nat_tests, c.is_empty.ensures, c.if-not-is_empty.false)) ahead.2)
    ]

pub returns-clause-complete : goal.returns-clause-complete
returns-clause-complete g c = λ path last leads ended.
    elim (c.loop-left.invariant.reach path last leads) as (λ _. Contains (states_of c.in_ok-joined.joined.items) last) [
      | inl was ↦ c.in_ok-joined.ensures.kept last (was.1 ended)
      | inr ahead ↦ absurd (nothing_contained c.loop-left.layer.items ahead.0 (grind (arith, nat_tests, c.is_empty.ensures, c.if-not-is_empty.false)) ahead.2)
    ]

pub returns-clause-fewest : goal.returns-clause-fewest
returns-clause-fewest g c = λ path last leads ended.
    elim (c.loop-left.invariant.reach path last leads) as (λ _. IsMatched c.in_ok-joined.joined.items last path) [
      | inl was ↦ c.in_ok-joined.ensures.matched last path (c.loop-left.invariant.ended path last leads was.0 ended)
      | inr ahead ↦ absurd (nothing_contained c.loop-left.layer.items ahead.0 (grind (arith, nat_tests, c.is_empty.ensures, c.if-not-is_empty.false)) ahead.2)
    ]

pub loop-left-preserved : goal.loop-left-preserved
loop-left-preserved g c =
    let moves = g.M.Machine.moves c.args.machine.now in
    let seats = g.M.Machine.seats c.args.machine.now in
    let mark = g.M.Machine.mark c.args.machine.now in
    let start = c.args.start in
    let most = c.args.most_steps in
    let left = c.loop-left.left in
    let one_more : (most - left) + 1 ≡ most - (left - 1) = omega arith in
    record {
      within = omega arith;
      orders = λ number shared.
          omega (arith, c.in_ok-layer.ensures.weight number shared, c.in_ok-found.ensures.weight number, c.loop-left.invariant.orders number shared);
      layer =
          subst (λ steps. All (IsReached moves seats mark start (Some steps)) c.in_ok-layer.layer.items) one_more
          (c.in_ok-layer.ensures.reached start (most - left) c.loop-left.invariant.layer);
      found = c.in_ok-found.ensures.reached start _ (c.in_ok-layer.ensures.found start (most - left) c.loop-left.invariant.layer c.loop-left.invariant.found);
      reach = λ path last leads.
          reach_step moves seats c.loop-left.layer.items c.in_ok-layer.layer.items c.in_ok-layer.layer.items c.loop-left.found.items c.in_ok-found.found.items most left (left - 1) path last
          c.loop-left.invariant.within (omega arith) c.in_ok-layer.ensures.ahead
          (λ state held ended. c.in_ok-found.ensures.kept state (c.in_ok-layer.ensures.ended state held ended))
          (λ state held. c.in_ok-found.ensures.kept state (c.in_ok-layer.ensures.kept state held))
          (λ state held. held) (c.loop-left.invariant.reach path last leads);
      matched = λ path last leads long.
          match_layer moves seats start c.loop-left.layer.items c.in_ok-layer.layer.items c.next_layer.new.found.items (most - left)
          c.loop-left.invariant.matched c.in_ok-layer.ensures.matched_on path last leads (omega (arith, long, one_more));
      ended = λ path last leads short ended.
          c.in_ok-found.ensures.matched last path
          (match_found moves seats start c.loop-left.layer.items c.in_ok-layer.layer.items c.loop-left.found.items c.next_layer.new.found.items (most - left)
          c.loop-left.invariant.matched c.in_ok-layer.ensures.matched_on c.loop-left.invariant.ended c.in_ok-layer.ensures.matched path last leads
          (omega (arith, short, one_more)) ended);
      counted =
          c.in_ok-found.ensures.counted start c.in_ok-layer.layer.items
          (c.in_ok-layer.ensures.counted start (counted_flipped moves seats start c.loop-left.found.items c.loop-left.layer.items c.loop-left.invariant.counted));
    }

pub returns-clause-sound : goal.returns-clause-sound
returns-clause-sound g c =
    found_from_reached (g.M.Machine.moves c.args.machine.now) (g.M.Machine.seats c.args.machine.now) (g.M.Machine.mark c.args.machine.now) c.args.start c.in_ok-joined.joined.items
    (c.in_ok-joined.ensures.reached c.args.start _ c.loop-left.invariant.found)

pub returns-clause-once : goal.returns-clause-once
returns-clause-once g c = c.in_ok-joined.ensures.apart c.args.start _ c.loop-left.invariant.found

pub returns-then-not-is_empty-clause-too_long : goal.returns-then-not-is_empty-clause-too_long
returns-then-not-is_empty-clause-too_long g c = λ same.
    let moves = g.M.Machine.moves c.args.machine.now in
    let seats = g.M.Machine.seats c.args.machine.now in
    let mark = g.M.Machine.mark c.args.machine.now in
    let some : 0 < vec_len c.loop-left.layer = grind (arith, nat_tests, c.is_empty.ensures, c.if-not-is_empty.true) in
    let none : c.loop-left.left ≡ 0 = elim (cases_lt 0 c.loop-left.left) as (λ _. c.loop-left.left ≡ 0) [
      | inl more ↦ (let on : true ≡ false = sym (c.goes_on.ensures.1 (more, omega (arith, some, c.len.ensures))) ∙ c.loop-left-test.false in absurd (let never : ⊥ = cc in never))
      | inr done ↦ omega (arith, done)
    ] in
    let all : c.args.most_steps - c.loop-left.left ≡ c.args.most_steps = omega (arith, none) in
    order_from_layer moves seats mark c.args.start c.args.most_steps c.loop-left.layer.items (omega (arith, some))
    (subst (λ steps. All (IsReached moves seats mark c.args.start (Some steps)) c.loop-left.layer.items) all c.loop-left.invariant.layer)

pub returns-in_err-layer-clause-too_many : goal.returns-in_err-layer-clause-too_many
returns-in_err-layer-clause-too_many g c =
    let p = err_from_is_err_and c.from_residual-in_err-layer.result c.from_residual-in_err-layer.ensures.1 in
    rw p.1 (λ same. c.in_err-layer.ensures.too_many (states_from _ (sym p.2 ∙ same)) c.args.start _ c.loop-left.invariant.layer)

pub returns-in_err-found-clause-too_many : goal.returns-in_err-found-clause-too_many
returns-in_err-found-clause-too_many g c =
    let p = err_from_is_err_and c.from_residual-in_err-found.result c.from_residual-in_err-found.ensures.1 in
    rw p.1 (λ same. c.in_err-found.ensures.too_many (states_from _ (sym p.2 ∙ same)) c.args.start _
    (c.in_ok-layer.ensures.found c.args.start _ c.loop-left.invariant.layer c.loop-left.invariant.found))

pub returns-in_err-joined-clause-too_many : goal.returns-in_err-joined-clause-too_many
returns-in_err-joined-clause-too_many g c =
    let p = err_from_is_err_and c.from_residual-in_err-joined.result c.from_residual-in_err-joined.ensures.1 in
    rw p.1 (λ same. c.in_err-joined.ensures.too_many (states_from _ (sym p.2 ∙ same)) c.args.start _ c.loop-left.invariant.found)

pub returns-in_err-layer-clause-too_many_orders : goal.returns-in_err-layer-clause-too_many_orders
returns-in_err-layer-clause-too_many_orders g c =
    let p = err_from_is_err_and c.from_residual-in_err-layer.result c.from_residual-in_err-layer.ensures.1 in
    rw p.1 (λ same. c.in_err-layer.ensures.too_many_orders (orders_from _ (sym p.2 ∙ same)) c.args.start
    (counted_flipped (g.M.Machine.moves c.args.machine.now) (g.M.Machine.seats c.args.machine.now) c.args.start c.loop-left.found.items c.loop-left.layer.items c.loop-left.invariant.counted))

pub returns-in_err-found-clause-too_many_orders : goal.returns-in_err-found-clause-too_many_orders
returns-in_err-found-clause-too_many_orders g c =
    let p = err_from_is_err_and c.from_residual-in_err-found.result c.from_residual-in_err-found.ensures.1 in
    rw p.1 (λ same. c.in_err-found.ensures.too_many_orders (orders_from _ (sym p.2 ∙ same)) c.args.start c.in_ok-layer.layer.items
    (c.in_ok-layer.ensures.counted c.args.start
    (counted_flipped (g.M.Machine.moves c.args.machine.now) (g.M.Machine.seats c.args.machine.now) c.args.start c.loop-left.found.items c.loop-left.layer.items c.loop-left.invariant.counted)))

pub returns-in_err-joined-clause-too_many_orders : goal.returns-in_err-joined-clause-too_many_orders
returns-in_err-joined-clause-too_many_orders g c =
    let p = err_from_is_err_and c.from_residual-in_err-joined.result c.from_residual-in_err-joined.ensures.1 in
    rw p.1 (λ same. c.in_err-joined.ensures.too_many_orders (orders_from _ (sym p.2 ∙ same)) c.args.start c.loop-left.layer.items c.loop-left.invariant.counted)
