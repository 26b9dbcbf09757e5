use Rattle.std.proofs.Common.{◌≡◌, ◌∷◌, ◌++◌, [], ℕ, List, ap, ◌∙◌, refl}
use Rattle.irp_explore.specs.declared.node.Node.{Node}
use Rattle.irp_explore.proofs.First.{first_held, first_matched, first_reached, first_weight}
use Rattle.irp_explore.proofs.Counting.{counted_first}
use Rattle.irp_explore.proofs.exploring.first_layer.Goals as goal

pub returns-clause-weight : goal.returns-clause-weight
returns-clause-weight g c = λ number.
    let node : Node g.row.M-State.Denot = record { state = c.args.start; mark = c.mark-mark.result; orders = 1; fewest = c.push.new.self } in
    let is : c.push-2.new.self.items ≡ node ∷ [] = c.in_ok-push-2.ensures.items ∙ ap (λ nodes. nodes ++ node ∷ []) c.new-layer.ensures.items in
    first_weight number c.push-2.new.self.items node is refl

pub returns-clause-reached : goal.returns-clause-reached
returns-clause-reached g c =
    let node : Node g.row.M-State.Denot = record { state = c.args.start; mark = c.mark-mark.result; orders = 1; fewest = c.push.new.self } in
    let is : c.push-2.new.self.items ≡ node ∷ [] = c.in_ok-push-2.ensures.items ∙ ap (λ nodes. nodes ++ node ∷ []) c.new-layer.ensures.items in
    let fewest : c.push.new.self.items ≡ [] ∷ [] =
    c.in_ok-push.ensures.items ∙ ap (λ paths. paths ++ c.new.result ∷ []) c.new-fewest.ensures.items ∙ ap (λ (path : List ℕ). path ∷ []) c.new.ensures in
    first_reached (g.M.Machine.moves c.args.machine.now) (g.M.Machine.seats c.args.machine.now) (g.M.Machine.mark c.args.machine.now) c.args.start c.push-2.new.self.items node is refl
    c.mark-mark.ensures fewest

pub returns-clause-held : goal.returns-clause-held
returns-clause-held g c =
    let node : Node g.row.M-State.Denot = record { state = c.args.start; mark = c.mark-mark.result; orders = 1; fewest = c.push.new.self } in
    let is : c.push-2.new.self.items ≡ node ∷ [] = c.in_ok-push-2.ensures.items ∙ ap (λ nodes. nodes ++ node ∷ []) c.new-layer.ensures.items in
    first_held c.args.start c.push-2.new.self.items node is refl

pub returns-clause-matched : goal.returns-clause-matched
returns-clause-matched g c =
    let node : Node g.row.M-State.Denot = record { state = c.args.start; mark = c.mark-mark.result; orders = 1; fewest = c.push.new.self } in
    let is : c.push-2.new.self.items ≡ node ∷ [] = c.in_ok-push-2.ensures.items ∙ ap (λ nodes. nodes ++ node ∷ []) c.new-layer.ensures.items in
    let fewest : c.push.new.self.items ≡ [] ∷ [] =
    c.in_ok-push.ensures.items ∙ ap (λ paths. paths ++ c.new.result ∷ []) c.new-fewest.ensures.items ∙ ap (λ (path : List ℕ). path ∷ []) c.new.ensures in
    first_matched c.args.start c.push-2.new.self.items node is refl fewest

pub returns-clause-counted : goal.returns-clause-counted
returns-clause-counted g c =
    let node : Node g.row.M-State.Denot = record { state = c.args.start; mark = c.mark-mark.result; orders = 1; fewest = c.push.new.self } in
    let is : c.push-2.new.self.items ≡ node ∷ [] = c.in_ok-push-2.ensures.items ∙ ap (λ nodes. nodes ++ node ∷ []) c.new-layer.ensures.items in
    counted_first (g.M.Machine.moves c.args.machine.now) (g.M.Machine.seats c.args.machine.now) c.args.start c.push-2.new.self.items node is refl refl
