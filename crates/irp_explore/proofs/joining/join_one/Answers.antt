use Rattle.std.proofs.Common.{arith, ◌≡◌, ◌≢◌, ◌<◌, ◌≤◌, ◌+◌, ◌^◌, ◌∷◌, ◌++◌, [], ℕ, List, All, IfSome, length, get_or, Contains, sym, ap, subst, ◌∙◌, refl}
use Rattle.std.proofs.lemmas.List.Elements.{All-push, All-same, All-set, All-get_or, Contains-get_or, Contains-append_left}
use Rattle.std.proofs.lemmas.List.{get_or-map, length-map}
use Rattle.irp_explore.specs.declared.node.Node.{Node}
use Rattle.irp_explore.specs.Orders.{Leads}
use Rattle.irp_explore.specs.Nodes.{states_of, IsReached}
use Rattle.irp_explore.proofs.Weighing.{joined_weight, joined_states, pushed_states}
use Rattle.irp_explore.proofs.Apart.{apart_set, apart_push, falling_set, falling_push, floor_set}
use Rattle.irp_explore.proofs.Keeping.{some_still}
use Rattle.irp_explore.proofs.Reaching.{both_kept}
use Rattle.irp_explore.proofs.Matching.{push_matched, push_still, set_matched, set_still}
use Rattle.irp_explore.proofs.Permuting.{one_in}
use Rattle.irp_explore.proofs.Counting.{counted_permuted, counted_set, many_at}
use Rattle.irp_explore.proofs.joining.join_one.Goals as goal

pub returns-clause-weight : goal.returns-clause-weight
returns-clause-weight g c = λ number.
    let other = c.index_mut-other.result.now in
    let there : c.in-Some.place < length c.args.joined.now.items = omega (arith, c.in-Some.ensures.there, ap length c.deref.ensures.value) in
    let read = c.index_mut-other.ensures.value in
    let one : other.state ≡ c.args.node.state =
    ap (λ node. node.state) read ∙ ap (λ nodes. (get_or nodes c.in-Some.place other).state) (sym c.deref.ensures.value) ∙ c.in-Some.ensures.same other in
    joined_weight number c.args.joined.now.items c.in-Some.place other c.args.node _ there read one refl (omega (arith, c.in-Some-checked_add.ensures.1))

pub returns-clause-reached : goal.returns-clause-reached
returns-clause-reached g c = λ start steps all one.
    let reached = IsReached (g.M.Machine.moves c.args.machine.now) (g.M.Machine.seats c.args.machine.now) (g.M.Machine.mark c.args.machine.now) start steps in
    let other = c.index_mut-other.result.now in
    let there : c.in-Some.place < length c.args.joined.now.items = omega (arith, c.in-Some.ensures.there, ap length c.deref.ensures.value) in
    let at : reached (get_or c.args.joined.now.items c.in-Some.place other) = All-get_or reached c.args.joined.now.items c.in-Some.place other there all in
    let before : reached other = rw c.index_mut-other.ensures.value at in
    let same : other.state ≡ c.args.node.state =
    ap (λ node. node.state) c.index_mut-other.ensures.value ∙ ap (λ nodes. (get_or nodes c.in-Some.place other).state) (sym c.deref.ensures.value) ∙ c.in-Some.ensures.same other in
    let Led = λ (path : List ℕ). Leads (g.M.Machine.moves c.args.machine.now) (g.M.Machine.seats c.args.machine.now) start path other.state in
    let led = subst (λ state. All (λ path. Leads (g.M.Machine.moves c.args.machine.now) (g.M.Machine.seats c.args.machine.now) start path state) c.args.node.fewest.items) (sym same) one.fewest in
    let only = c.in_ok-add_paths.ensures.only in
    All-set reached c.args.joined.now.items c.in-Some.place _
    (record {
      some = some_still (λ path. path) other.fewest.items _ c.in_ok-add_paths.ensures.kept before.some;
      fewest = both_kept Led other.fewest.items c.args.node.fewest.items _ before.fewest led only;
      long = both_kept (λ path. IfSome steps (λ steps. length path ≡ steps)) other.fewest.items c.args.node.fewest.items _ before.long one.long only;
      ended = before.ended;
      marked = before.marked;
    }) all

pub returns-clause-matched : goal.returns-clause-matched
returns-clause-matched g c = λ path good.
    let other = c.index_mut-other.result.now in
    let there : c.in-Some.place < length c.args.joined.now.items = omega (arith, c.in-Some.ensures.there, ap length c.deref.ensures.value) in
    let same : other.state ≡ c.args.node.state =
    ap (λ node. node.state) c.index_mut-other.ensures.value ∙ ap (λ nodes. (get_or nodes c.in-Some.place other).state) (sym c.deref.ensures.value) ∙ c.in-Some.ensures.same other in
    set_matched c.args.joined.now.items c.in-Some.place _ c.args.node.state path there same (c.in_ok-add_paths.ensures.held path good)

pub returns-clause-matched_still : goal.returns-clause-matched_still
returns-clause-matched_still g c = λ state path held.
    let other = c.index_mut-other.result.now in
    let there : c.in-Some.place < length c.args.joined.now.items = omega (arith, c.in-Some.ensures.there, ap length c.deref.ensures.value) in
    set_still c.args.joined.now.items c.in-Some.place other _ state path there c.index_mut-other.ensures.value refl c.in_ok-add_paths.ensures.kept held

pub returns-in_default-clause-reached : goal.returns-in_default-clause-reached
returns-in_default-clause-reached g c = λ start steps all one.
    let reached = IsReached (g.M.Machine.moves c.args.machine.now) (g.M.Machine.seats c.args.machine.now) (g.M.Machine.mark c.args.machine.now) start steps in
    All-same reached c.push.new.self.items (c.args.joined.now.items ++ c.args.node ∷ []) c.in_ok-push.ensures.items
    (All-push reached c.args.joined.now.items c.args.node all one)

pub returns-in_default-clause-matched : goal.returns-in_default-clause-matched
returns-in_default-clause-matched g c = λ path good.
    push_matched c.args.joined.now.items c.push.new.self.items c.args.node path c.in_ok-push.ensures.items good

pub returns-in_default-clause-matched_still : goal.returns-in_default-clause-matched_still
returns-in_default-clause-matched_still g c = λ state path held.
    push_still c.args.joined.now.items c.push.new.self.items c.args.node state path c.in_ok-push.ensures.items held

pub returns-clause-kept : goal.returns-clause-kept
returns-clause-kept g c = λ state held.
    let there : c.in-Some.place < length c.args.joined.now.items = omega (arith, c.in-Some.ensures.there, ap length c.deref.ensures.value) in
    subst (λ states. Contains states state) (sym (joined_states c.args.joined.now.items c.in-Some.place c.index_mut-other.result.now _ there c.index_mut-other.ensures.value refl)) held

pub returns-clause-held : goal.returns-clause-held
returns-clause-held g c =
    let other = c.index_mut-other.result.now in
    let items = c.args.joined.now.items in
    let there : c.in-Some.place < length items = omega (arith, c.in-Some.ensures.there, ap length c.deref.ensures.value) in
    let one : (get_or items c.in-Some.place other).state ≡ c.args.node.state = ap (λ nodes. (get_or nodes c.in-Some.place other).state) (sym c.deref.ensures.value) ∙ c.in-Some.ensures.same other in
    let within : c.in-Some.place < length (states_of items) = omega (arith, there, length-map items (λ node. node.state)) in
    let at : Contains (states_of items) (get_or (states_of items) c.in-Some.place other.state) = Contains-get_or (states_of items) c.in-Some.place other.state within in
    subst (λ states. Contains states c.args.node.state) (sym (joined_states items c.in-Some.place other _ there c.index_mut-other.ensures.value refl))
    (subst (λ state. Contains (states_of items) state) (get_or-map (λ node. node.state) items c.in-Some.place other other.state there ∙ one) at)

pub returns-clause-apart : goal.returns-clause-apart
returns-clause-apart g c = λ start steps all reached falling floor apart.
    let there : c.in-Some.place < length c.args.joined.now.items = omega (arith, c.in-Some.ensures.there, ap length c.deref.ensures.value) in
    apart_set c.args.joined.now.items c.in-Some.place c.index_mut-other.result.now _ there c.index_mut-other.ensures.value refl apart

pub returns-clause-falling : goal.returns-clause-falling
returns-clause-falling g c = λ falling floor.
    let there : c.in-Some.place < length c.args.joined.now.items = omega (arith, c.in-Some.ensures.there, ap length c.deref.ensures.value) in
    falling_set c.args.joined.now.items c.in-Some.place c.index_mut-other.result.now _ there c.index_mut-other.ensures.value refl falling

pub returns-clause-floor : goal.returns-clause-floor
returns-clause-floor g c = λ mark low floor.
    let there : c.in-Some.place < length c.args.joined.now.items = omega (arith, c.in-Some.ensures.there, ap length c.deref.ensures.value) in
    floor_set mark c.args.joined.now.items c.in-Some.place c.index_mut-other.result.now _ there c.index_mut-other.ensures.value refl floor

pub returns-in_default-clause-kept : goal.returns-in_default-clause-kept
returns-in_default-clause-kept g c = λ state held.
    subst (λ states. Contains states state) (sym (pushed_states c.args.joined.now.items c.push.new.self.items c.args.node c.in_ok-push.ensures.items))
    (Contains-append_left (states_of c.args.joined.now.items) (c.args.node.state ∷ []) state held)

pub returns-in_default-clause-apart : goal.returns-in_default-clause-apart
returns-in_default-clause-apart g c = λ start steps all reached falling floor apart.
    let nodes = c.args.joined.now.items in
    let whole = c.deref.ensures.value in
    let none : All (λ (other : Node _). other.state ≢ c.args.node.state) nodes =
    subst (λ nodes. All (λ (other : Node _). other.state ≢ c.args.node.state) nodes) whole
    (c.in_default.ensures.none start steps (rw whole all) reached (rw whole falling) (rw whole floor)) in
    rw c.in_ok-push.ensures.items (apart_push nodes c.args.node apart none)

pub returns-in_default-clause-falling : goal.returns-in_default-clause-falling
returns-in_default-clause-falling g c = λ falling floor.
    rw c.in_ok-push.ensures.items (falling_push c.args.joined.now.items c.args.node falling floor)

pub returns-in_default-clause-floor : goal.returns-in_default-clause-floor
returns-in_default-clause-floor g c = λ mark low floor.
    rw c.in_ok-push.ensures.items (All-push (λ (node : Node _). mark ≤ node.mark) c.args.joined.now.items c.args.node floor low)

pub returns-clause-counted : goal.returns-clause-counted
returns-clause-counted g c = λ start others before.
    let items = c.args.joined.now.items in
    let other = c.index_mut-other.result.now in
    let there : c.in-Some.place < length items = omega (arith, c.in-Some.ensures.there, ap length c.deref.ensures.value) in
    let read = c.index_mut-other.ensures.value in
    let same : other.state ≡ c.args.node.state =
    ap (λ node. node.state) read ∙ ap (λ nodes. (get_or nodes c.in-Some.place other).state) (sym c.deref.ensures.value) ∙ c.in-Some.ensures.same other in
    counted_set (g.M.Machine.moves c.args.machine.now) (g.M.Machine.seats c.args.machine.now) start items others c.in-Some.place other c.args.node _ there read same refl
    (omega (arith, c.in-Some-checked_add.ensures.1)) before

pub returns-in_default-checked_add-clause-too_many_orders : goal.returns-in_default-checked_add-clause-too_many_orders
returns-in_default-checked_add-clause-too_many_orders g c = λ _ start others before.
    let items = c.args.joined.now.items in
    let other = c.index_mut-other.result.now in
    let there : c.in-Some.place < length items = omega (arith, c.in-Some.ensures.there, ap length c.deref.ensures.value) in
    let read = c.index_mut-other.ensures.value in
    let same : other.state ≡ c.args.node.state =
    ap (λ node. node.state) read ∙ ap (λ nodes. (get_or nodes c.in-Some.place other).state) (sym c.deref.ensures.value) ∙ c.in-Some.ensures.same other in
    let many : 2 ^ 128 ≤ other.orders + c.args.node.orders = omega (arith, c.in_default-checked_add.ensures) in
    many_at (g.M.Machine.moves c.args.machine.now) (g.M.Machine.seats c.args.machine.now) start items others c.in-Some.place other c.args.node there read same many before

pub returns-in_default-clause-counted : goal.returns-in_default-clause-counted
returns-in_default-clause-counted g c = λ start others before.
    let items = c.args.joined.now.items in
    rw c.in_ok-push.ensures.items
    (counted_permuted (g.M.Machine.moves c.args.machine.now) (g.M.Machine.seats c.args.machine.now) start (c.args.node ∷ (items ++ others)) ((items ++ c.args.node ∷ []) ++ others)
    (one_in c.args.node items others) before)
