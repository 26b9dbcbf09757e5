use Rattle.std.proofs.Common.{arith, sym, ◌∙◌, ◌+◌, ◌++◌, inl, inr, Some, Contains}
use Rattle.std.proofs.lemmas.List.{nil_from_length}
use Rattle.std.proofs.lemmas.List.Elements.{All-pop}
use Rattle.std.proofs.lemmas.Result.{err_from_is_err_and}
use Rattle.irp_explore.specs.Nodes.{states_of, IsMatchedOn, IsReached, IsExpanded}
use Rattle.irp_explore.proofs.Weighing.{weigh_push}
use Rattle.irp_explore.proofs.Ahead.{ahead_step, done_more, layer_expanded, nothing_contained}
use Rattle.irp_explore.proofs.Matching.{layer_matched, matched_on_more, none_matched}
use Rattle.irp_explore.proofs.Permuting.{front_third, third_first}
use Rattle.irp_explore.proofs.Counting.{counted_flipped, counted_permuted, counted_taken}
use Rattle.irp_explore.proofs.exploring.next_layer.Goals as goal

pub loop-node-preserved : goal.loop-node-preserved
loop-node-preserved g c =
    let moves = g.M.Machine.moves c.args.machine.now in
    let seats = g.M.Machine.seats c.args.machine.now in
    let mark = g.M.Machine.mark c.args.machine.now in
    let node = c.in-Some.node in
    let parts = λ (start : g.row.M-State.Denot) (steps : _) (all : _).
    All-pop (IsReached moves seats mark start (Some steps)) _ _ (Some node) c.in-Some.ensures.items (c.loop-node.invariant.left start steps all) in
    let expanded = done_more moves seats c.expand.new.found.items c.expand.new.found.items c.expand.new.next.items c.in_ok-next.next.items node.state
    (λ state held. held) c.in_ok-next.ensures.kept c.in_ok-expand.ensures.expanded in
    record {
      weight = λ number shared.
          omega (arith, c.in_ok-expand.ensures.weight number shared, c.in_ok-next.ensures.weight number, weigh_push number c.loop-node.layer.items c.pop.new.self.items node c.in-Some.ensures.items, c.loop-node.invariant.weight number shared);
      left = λ start steps all. (parts start steps all).0;
      reached = λ start steps all.
          c.in_ok-next.ensures.reached start (Some (steps + 1))
          (c.in_ok-expand.ensures.reached start steps (parts start steps all).1 (c.loop-node.invariant.reached start steps all));
      found = λ start steps all found. c.in_ok-expand.ensures.found start steps (parts start steps all).1 (c.loop-node.invariant.found start steps all found);
      done = λ state first.
          layer_expanded moves seats c.loop-node.found.items c.expand.new.found.items c.loop-node.next.items c.in_ok-next.next.items c.loop-node.layer.items c.pop.new.self.items node state c.in-Some.ensures.items
          c.in_ok-expand.ensures.kept_found (λ state held. c.in_ok-next.ensures.kept state (c.in_ok-expand.ensures.kept_next state held)) expanded
          (c.loop-node.invariant.done state first);
      kept = λ state there. c.in_ok-expand.ensures.kept_found state (c.loop-node.invariant.kept state there);
      matched_on = λ state path held.
          layer_matched moves seats c.loop-node.found.items c.expand.new.found.items c.loop-node.next.items c.in_ok-next.next.items c.loop-node.layer.items c.pop.new.self.items node state path c.in-Some.ensures.items
          c.in_ok-expand.ensures.matched_found (λ state path held. c.in_ok-next.ensures.matched state path (c.in_ok-expand.ensures.matched_next state path held))
          (λ path good.
          matched_on_more moves seats c.expand.new.found.items c.expand.new.found.items c.expand.new.next.items c.in_ok-next.next.items node.state path
          (λ state path held. held) c.in_ok-next.ensures.matched (c.in_ok-expand.ensures.matched_on path good))
          (c.loop-node.invariant.matched_on state path held);
      matched = λ state path held. c.in_ok-expand.ensures.matched_found state path (c.loop-node.invariant.matched state path held);
      counted = λ start before.
          let rest = c.pop.new.self.items in
          let found = c.expand.new.found.items in
          let nexts = c.in_ok-next.next.items in
          counted_permuted moves seats start (nexts ++ (rest ++ found)) (rest ++ (found ++ nexts)) (front_third rest found nexts)
          (c.in_ok-next.ensures.counted start (rest ++ found)
          (counted_permuted moves seats start (rest ++ (found ++ c.expand.new.next.items)) (c.expand.new.next.items ++ (rest ++ found)) (third_first rest found c.expand.new.next.items)
          (c.in_ok-expand.ensures.counted start rest
          (counted_taken moves seats start c.loop-node.layer.items rest (c.loop-node.found.items ++ c.loop-node.next.items) node c.in-Some.ensures.items (c.loop-node.invariant.counted start before)))));
    }

pub returns-clause-ahead : goal.returns-clause-ahead
returns-clause-ahead g c = λ steps last ahead.
    let moves = g.M.Machine.moves c.args.machine.now in
    let seats = g.M.Machine.seats c.args.machine.now in
    let mark = g.M.Machine.mark c.args.machine.now in
    let next = ahead_step moves seats c.args.layer.items c.loop-node.next.items c.loop-node.found.items
    (λ state held. elim (c.loop-node.invariant.done state held) as (λ _. IsExpanded moves seats c.loop-node.found.items c.loop-node.next.items state) [
      | inl left ↦ absurd (nothing_contained c.loop-node.layer.items state (omega (arith, c.in_default.ensures.cases.0)) left)
      | inr done ↦ done
    ]) steps last ahead in
    (next.0, next.1, c.in_ok-joined.ensures.kept next.0 next.2, next.3, next.4)

pub returns-clause-ended : goal.returns-clause-ended
returns-clause-ended g c = λ state held ended.
    elim (c.loop-node.invariant.done state held) as (λ _. Contains (states_of c.loop-node.found.items) state) [
      | inl left ↦ absurd (nothing_contained c.loop-node.layer.items state (omega (arith, c.in_default.ensures.cases.0)) left)
      | inr done ↦ done.ended ended
    ]

pub returns-clause-matched_on : goal.returns-clause-matched_on
returns-clause-matched_on g c = λ state path held.
    let moves = g.M.Machine.moves c.args.machine.now in
    let seats = g.M.Machine.seats c.args.machine.now in
    elim (c.loop-node.invariant.matched_on state path held) as (λ _. IsMatchedOn moves seats c.loop-node.found.items c.in_ok-joined.joined.items state path) [
      | inl left ↦ absurd (none_matched c.loop-node.layer.items state path (omega (arith, c.in_default.ensures.cases.0)) left)
      | inr done ↦
          matched_on_more moves seats c.loop-node.found.items c.loop-node.found.items c.loop-node.next.items c.in_ok-joined.joined.items state path
          (λ state path held. held) c.in_ok-joined.ensures.matched done
    ]

pub returns-clause-reached : goal.returns-clause-reached
returns-clause-reached g c = λ start steps all. c.in_ok-joined.ensures.reached start (Some (steps + 1)) (c.loop-node.invariant.reached start steps all)

pub returns-in_err-next-clause-too_many : goal.returns-in_err-next-clause-too_many
returns-in_err-next-clause-too_many g c =
    let moves = g.M.Machine.moves c.args.machine.now in
    let seats = g.M.Machine.seats c.args.machine.now in
    let mark = g.M.Machine.mark c.args.machine.now in
    let p = err_from_is_err_and c.from_residual-in_err-next.result c.from_residual-in_err-next.ensures.1 in
    rw p.1 (λ same start steps all.
    let parts = All-pop (IsReached moves seats mark start (Some steps)) _ _ (Some c.in-Some.node) c.in-Some.ensures.items (c.loop-node.invariant.left start steps all) in
    c.in_err-next.ensures.too_many (sym p.2 ∙ same) start (Some (steps + 1))
    (c.in_ok-expand.ensures.reached start steps parts.1 (c.loop-node.invariant.reached start steps all)))

pub returns-in_err-joined-clause-too_many : goal.returns-in_err-joined-clause-too_many
returns-in_err-joined-clause-too_many g c =
    let p = err_from_is_err_and c.from_residual-in_err-joined.result c.from_residual-in_err-joined.ensures.1 in
    rw p.1 (λ same start steps all. c.in_err-joined.ensures.too_many (sym p.2 ∙ same) start (Some (steps + 1)) (c.loop-node.invariant.reached start steps all))

pub returns-clause-counted : goal.returns-clause-counted
returns-clause-counted g c = λ start before.
    let moves = g.M.Machine.moves c.args.machine.now in
    let seats = g.M.Machine.seats c.args.machine.now in
    let none = nil_from_length c.loop-node.layer.items (omega (arith, c.in_default.ensures.cases.0)) in
    counted_flipped moves seats start c.in_ok-joined.joined.items c.loop-node.found.items
    (c.in_ok-joined.ensures.counted start c.loop-node.found.items
    (counted_flipped moves seats start c.loop-node.found.items c.loop-node.next.items (rw none at (c.loop-node.invariant.counted start before))))

pub returns-in_err-next-clause-too_many_orders : goal.returns-in_err-next-clause-too_many_orders
returns-in_err-next-clause-too_many_orders g c =
    let moves = g.M.Machine.moves c.args.machine.now in
    let seats = g.M.Machine.seats c.args.machine.now in
    let p = err_from_is_err_and c.from_residual-in_err-next.result c.from_residual-in_err-next.ensures.1 in
    rw p.1 (λ same start before.
    let rest = c.pop.new.self.items in
    let found = c.expand.new.found.items in
    c.in_err-next.ensures.too_many_orders (sym p.2 ∙ same) start (rest ++ found)
    (counted_permuted moves seats start (rest ++ (found ++ c.expand.new.next.items)) (c.expand.new.next.items ++ (rest ++ found)) (third_first rest found c.expand.new.next.items)
    (c.in_ok-expand.ensures.counted start rest
    (counted_taken moves seats start c.loop-node.layer.items rest (c.loop-node.found.items ++ c.loop-node.next.items) c.in-Some.node c.in-Some.ensures.items (c.loop-node.invariant.counted start before)))))

pub returns-in_err-joined-clause-too_many_orders : goal.returns-in_err-joined-clause-too_many_orders
returns-in_err-joined-clause-too_many_orders g c =
    let moves = g.M.Machine.moves c.args.machine.now in
    let seats = g.M.Machine.seats c.args.machine.now in
    let none = nil_from_length c.loop-node.layer.items (omega (arith, c.in_default.ensures.cases.0)) in
    let p = err_from_is_err_and c.from_residual-in_err-joined.result c.from_residual-in_err-joined.ensures.1 in
    rw p.1 (λ same start before.
    c.in_err-joined.ensures.too_many_orders (sym p.2 ∙ same) start c.loop-node.found.items
    (counted_flipped moves seats start c.loop-node.found.items c.loop-node.next.items (rw none at (c.loop-node.invariant.counted start before))))
