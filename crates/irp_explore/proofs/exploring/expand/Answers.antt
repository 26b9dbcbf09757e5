use Rattle.std.proofs.Common.{arith, ◌≡◌, ◌<◌, [], ◌∷◌, ◌++◌, None, length, Contains, sym, subst}
use Rattle.std.proofs.lemmas.List.Elements.{All-push, All-same, Contains-push, Contains-append_left}
use Rattle.irp_explore.specs.Orders.{HasEnded}
use Rattle.irp_explore.specs.Nodes.{states_of, IsReached}
use Rattle.irp_explore.proofs.Weighing.{pushed_states, expand_weight_done, expand_weight_on}
use Rattle.irp_explore.proofs.Reaching.{reached_done, ended_from_none, never_both}
use Rattle.irp_explore.proofs.Ahead.{added_count, expanded_by}
use Rattle.irp_explore.proofs.Matching.{push_matched, push_still}
use Rattle.irp_explore.proofs.Counting.{counted_expanded, counted_found}
use Rattle.irp_explore.proofs.exploring.expand.Goals as goal

pub returns-then-len-before-clause-weight : goal.returns-then-len-before-clause-weight
returns-then-len-before-clause-weight g c = λ number shared.
    let moves = g.M.Machine.moves c.args.machine.now in
    let seats = g.M.Machine.seats c.args.machine.now in
    let mark = g.M.Machine.mark c.args.machine.now in
    let added = c.in_ok-add_successors.ensures.successors in
    let some : 0 < length added.states = omega (arith, added_count moves seats c.args.node c.args.next.now.items c.add_successors.new.nodes.items added, c.if-len-before.true, c.len.ensures, c.len-before.ensures) in
    expand_weight_on moves seats number c.args.found.now.items c.args.next.now.items c.add_successors.new.nodes.items c.args.node added some shared

pub returns-then-len-before-clause-expanded : goal.returns-then-len-before-clause-expanded
returns-then-len-before-clause-expanded g c =
    let moves = g.M.Machine.moves c.args.machine.now in
    let seats = g.M.Machine.seats c.args.machine.now in
    let mark = g.M.Machine.mark c.args.machine.now in
    let settled = g.met.M.Machine.settled c.args.machine.now in
    let added = c.in_ok-add_successors.ensures.successors in
    let some : 0 < length added.states = omega (arith, added_count moves seats c.args.node c.args.next.now.items c.add_successors.new.nodes.items added, c.if-len-before.true, c.len.ensures, c.len-before.ensures) in
    expanded_by moves settled seats c.args.found.now.items c.args.next.now.items c.add_successors.new.nodes.items c.args.node added
    (λ ended. absurd (never_both moves settled seats c.args.node.state added.states added.follow ended some))

pub returns-then-len-before-clause-kept_next : goal.returns-then-len-before-clause-kept_next
returns-then-len-before-clause-kept_next g c = λ state held.
    let added = c.in_ok-add_successors.ensures.successors in
    subst (λ states. Contains states state) (sym added.listed) (Contains-append_left (states_of c.args.next.now.items) added.states state held)

pub returns-clause-weight : goal.returns-clause-weight
returns-clause-weight g c = λ number shared.
    let moves = g.M.Machine.moves c.args.machine.now in
    let seats = g.M.Machine.seats c.args.machine.now in
    let mark = g.M.Machine.mark c.args.machine.now in
    let added = c.in_ok-add_successors.ensures.successors in
    let none : length added.states ≡ 0 = omega (arith, added_count moves seats c.args.node c.args.next.now.items c.add_successors.new.nodes.items added, c.if-len-before.false, c.len.ensures, c.len-before.ensures) in
    expand_weight_done moves seats number c.args.found.now.items c.push.new.self.items c.args.next.now.items c.add_successors.new.nodes.items c.args.node c.in_ok-push.ensures.items added none

pub returns-clause-expanded : goal.returns-clause-expanded
returns-clause-expanded g c =
    let moves = g.M.Machine.moves c.args.machine.now in
    let seats = g.M.Machine.seats c.args.machine.now in
    let mark = g.M.Machine.mark c.args.machine.now in
    let settled = g.met.M.Machine.settled c.args.machine.now in
    let pushed = pushed_states c.args.found.now.items c.push.new.self.items c.args.node c.in_ok-push.ensures.items in
    expanded_by moves settled seats c.push.new.self.items c.args.next.now.items c.add_successors.new.nodes.items c.args.node c.in_ok-add_successors.ensures.successors
    (λ ended. subst (λ states. Contains states c.args.node.state) (sym pushed) (Contains-push (states_of c.args.found.now.items) c.args.node.state))

pub returns-clause-kept_next : goal.returns-clause-kept_next
returns-clause-kept_next g c = λ state held.
    let added = c.in_ok-add_successors.ensures.successors in
    subst (λ states. Contains states state) (sym added.listed) (Contains-append_left (states_of c.args.next.now.items) added.states state held)

pub returns-clause-kept_found : goal.returns-clause-kept_found
returns-clause-kept_found g c = λ state held.
    let pushed = pushed_states c.args.found.now.items c.push.new.self.items c.args.node c.in_ok-push.ensures.items in
    subst (λ states. Contains states state) (sym pushed) (Contains-append_left (states_of c.args.found.now.items) (c.args.node.state ∷ []) state held)

pub returns-clause-found : goal.returns-clause-found
returns-clause-found g c = λ start steps reached all.
    let moves = g.M.Machine.moves c.args.machine.now in
    let seats = g.M.Machine.seats c.args.machine.now in
    let mark = g.M.Machine.mark c.args.machine.now in
    let added = c.in_ok-add_successors.ensures.successors in
    let none : length added.states ≡ 0 = omega (arith, added_count moves seats c.args.node c.args.next.now.items c.add_successors.new.nodes.items added, c.if-len-before.false, c.len.ensures, c.len-before.ensures) in
    let ended : HasEnded moves seats c.args.node.state = ended_from_none moves seats c.args.node.state added.states added.follow none in
    All-same (IsReached moves seats mark start None) c.push.new.self.items (c.args.found.now.items ++ c.args.node ∷ []) c.in_ok-push.ensures.items
    (All-push (IsReached moves seats mark start None) c.args.found.now.items c.args.node all (reached_done moves seats mark start steps c.args.node ended reached))

pub returns-clause-matched_on : goal.returns-clause-matched_on
returns-clause-matched_on g c = λ path good. record {
  follow = λ seat after below moved. c.in_ok-add_successors.ensures.matched path seat after good below moved;
  ended = λ ended. push_matched c.args.found.now.items c.push.new.self.items c.args.node path c.in_ok-push.ensures.items good;
}

pub returns-clause-matched_found : goal.returns-clause-matched_found
returns-clause-matched_found g c = λ state path held.
    push_still c.args.found.now.items c.push.new.self.items c.args.node state path c.in_ok-push.ensures.items held

pub returns-then-len-before-clause-matched_on : goal.returns-then-len-before-clause-matched_on
returns-then-len-before-clause-matched_on g c = λ path good.
    let moves = g.M.Machine.moves c.args.machine.now in
    let seats = g.M.Machine.seats c.args.machine.now in
    let settled = g.met.M.Machine.settled c.args.machine.now in
    let added = c.in_ok-add_successors.ensures.successors in
    let some : 0 < length added.states = omega (arith, added_count moves seats c.args.node c.args.next.now.items c.add_successors.new.nodes.items added, c.if-len-before.true, c.len.ensures, c.len-before.ensures) in
    record {
      follow = λ seat after below moved. c.in_ok-add_successors.ensures.matched path seat after good below moved;
      ended = λ ended. absurd (never_both moves settled seats c.args.node.state added.states added.follow ended some);
    }

pub returns-then-len-before-clause-counted : goal.returns-then-len-before-clause-counted
returns-then-len-before-clause-counted g c = λ start others before.
    counted_expanded (g.M.Machine.moves c.args.machine.now) (g.M.Machine.seats c.args.machine.now) start c.args.node others c.args.found.now.items c.args.next.now.items c.add_successors.new.nodes.items
    c.in_ok-add_successors.ensures.steps before

pub returns-clause-counted : goal.returns-clause-counted
returns-clause-counted g c = λ start others before.
    let none : length c.add_successors.new.nodes.items ≡ length c.args.next.now.items = omega (arith, c.if-len-before.false, c.len.ensures, c.len-before.ensures) in
    counted_found (g.M.Machine.moves c.args.machine.now) (g.M.Machine.seats c.args.machine.now) start c.args.node others c.args.found.now.items c.push.new.self.items c.args.next.now.items c.add_successors.new.nodes.items
    c.in_ok-add_successors.ensures.steps none c.in_ok-push.ensures.items before
