use Rattle.std.proofs.Common.{arith, ◌≡◌, ◌+◌, ◌<◌, ℕ, List, All, Contains, Some, None, [], ◌∷◌, ◌++◌, ap, sym, subst, ◌∙◌, refl}
use Rattle.std.proofs.lemmas.List.Elements.{All-push, All-same}
use Rattle.irp_explore.specs.declared.node.Node.{Node}
use Rattle.irp_explore.specs.Nodes.{IsMatched, IsReached}
use Rattle.irp_explore.specs.Paths.{HasAsGood}
use Rattle.irp_explore.proofs.Weighing.{added_none, added_yes, added_no}
use Rattle.irp_explore.proofs.Reaching.{reached_more}
use Rattle.irp_explore.proofs.Keeping.{some_still}
use Rattle.irp_explore.proofs.Matching.{matched_more, matched_past, push_still}
use Rattle.irp_explore.proofs.Counting.{steps_none, steps_yes, steps_no}
use Rattle.irp_explore.proofs.exploring.add_successors.Goals as goal
use Rattle.irp_explore.proofs.exploring.add_successors.Goals.{in-Some+in_ok-longer_paths+in_ok-push, in_default}

pub loop-seat-init : goal.loop-seat-init
loop-seat-init g c = record {
  successors = added_none (g.M.Machine.moves c.args.machine.now) c.args.node.now c.args.nodes.now.items;
  steps = steps_none (g.M.Machine.moves c.args.machine.now) c.args.node.now c.args.nodes.now.items;
  reached = λ start steps here all. all;
  kept = λ state path held. held;
  matched = λ path seat after good below moved. absurd (omega (arith, below));
}

pub loop-seat-preserved : goal.loop-seat-preserved
loop-seat-preserved g c =
    let moves = g.M.Machine.moves c.args.machine.now in
    let seats = g.M.Machine.seats c.args.machine.now in
    let mark = g.M.Machine.mark c.args.machine.now in
    let settled = g.met.M.Machine.settled c.args.machine.now in
    elim c.match-branch-2.branch [
      | in-Some+in_ok-longer_paths+in_ok-push w ↦
          (let after : Node g.row.M-State.Denot = record { state = w.in-Some.state; mark = w.mark-mark.result; orders = c.args.node.now.orders; fewest = w.in_ok-longer_paths.field-0 } in
          let moved : moves c.args.node.now.state c.loop-seat.seat (Some after.state) = subst (λ found. moves c.args.node.now.state c.loop-seat.seat found) w.in-Some.is c.in_ok-state.ensures in
          let items : c.match-branch-2.nodes.items ≡ c.loop-seat.nodes.items ++ after ∷ [] = ap (λ v. v.items) w.nodes-is ∙ w.in_ok-push.ensures.items in
          let below : c.loop-seat.seat < seats = omega (arith, c.loop-seat-test.true, c.seats-seat-end.ensures) in
          record {
            successors = added_yes moves c.loop-seat.seat c.args.node.now after c.args.nodes.now.items c.loop-seat.nodes.items c.match-branch-2.nodes.items c.loop-seat.invariant.successors moved refl items;
            steps = steps_yes moves c.loop-seat.seat c.args.node.now after c.args.nodes.now.items c.loop-seat.nodes.items c.match-branch-2.nodes.items c.loop-seat.invariant.steps moved refl items;
            reached = λ start steps here all.
                All-same (IsReached moves seats mark start (Some (steps + 1))) c.match-branch-2.nodes.items (c.loop-seat.nodes.items ++ after ∷ []) items
                (All-push (IsReached moves seats mark start (Some (steps + 1))) c.loop-seat.nodes.items after (c.loop-seat.invariant.reached start steps here all)
                (reached_more moves seats mark start c.args.node.now after c.loop-seat.seat steps here below moved
                (some_still (λ (path : List ℕ). path ++ c.loop-seat.seat ∷ []) c.args.node.now.fewest.items after.fewest.items
                (subst (λ paths. (other : List ℕ) → HasAsGood paths other → HasAsGood after.fewest.items (other ++ c.loop-seat.seat ∷ []))
                w.deref.ensures.value w.in_ok-longer_paths.ensures.held) here.some)
                (subst (λ paths. All (λ one. (before : List ℕ) × Contains paths before × (one ≡ before ++ c.loop-seat.seat ∷ [])) after.fewest.items)
                w.deref.ensures.value w.in_ok-longer_paths.ensures.only)
                w.mark-mark.ensures));
            kept = λ state path held. push_still c.loop-seat.nodes.items c.match-branch-2.nodes.items after state path items (c.loop-seat.invariant.kept state path held);
            matched = λ path seat to good low moved_to.
                matched_more moves settled c.args.node.now c.loop-seat.nodes.items c.match-branch-2.nodes.items after c.loop-seat.seat path seat to items moved low moved_to
                (w.in_ok-longer_paths.ensures.held path (subst (λ paths. HasAsGood paths path) (sym w.deref.ensures.value) good))
                (c.loop-seat.invariant.matched path seat to good);
          })
      | in_default w ↦
          (let moved : moves c.args.node.now.state c.loop-seat.seat None = subst (λ found. moves c.args.node.now.state c.loop-seat.seat found) w.in_default.is c.in_ok-state.ensures in
          let items = ap (λ v. v.items) w.nodes-is in
          record {
            successors = added_no moves c.loop-seat.seat c.args.node.now c.args.nodes.now.items c.loop-seat.nodes.items c.match-branch-2.nodes.items c.loop-seat.invariant.successors moved items;
            steps = steps_no moves c.loop-seat.seat c.args.node.now c.args.nodes.now.items c.loop-seat.nodes.items c.match-branch-2.nodes.items c.loop-seat.invariant.steps items;
            reached = λ start steps here all. All-same (IsReached moves seats mark start (Some (steps + 1))) c.match-branch-2.nodes.items c.loop-seat.nodes.items items (c.loop-seat.invariant.reached start steps here all);
            kept = λ state path held. subst (λ nodes. IsMatched nodes state path) (sym items) (c.loop-seat.invariant.kept state path held);
            matched = λ path seat to good low moved_to.
                subst (λ nodes. IsMatched nodes to (path ++ seat ∷ [])) (sym items)
                (matched_past moves settled c.args.node.now c.loop-seat.nodes.items c.loop-seat.seat path seat to moved low moved_to
                (c.loop-seat.invariant.matched path seat to good));
          })
    ]
