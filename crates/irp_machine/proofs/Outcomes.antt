-- The states that were found, told as outcomes.
use Rattle.std.proofs.Common.{◌≡◌, ℕ, ◌+◌, ◌*◌, ◌<◌, ◌≤◌, ◌==◌, ◌≢◌, All, map, inl, inr, zero, suc, Bool, true, false, List, [], ◌∷◌, ◌++◌, Option, Some, None, length, get_or, Contains, nat_lt, refl, ap, sym, subst, ◌∙◌, arith}
use Rattle.std.specs.Option.{option_map, option_and_then}
use Rattle.std.specs.Prelude.{is_some, not, slice_get}
use Rattle.std.proofs.lemmas.List.Sums.{sum_by-cons}
use Rattle.std.proofs.Math.Seq.{get_or-append_seam}
use Rattle.std.proofs.lemmas.Bool.{and_from, cases_eq, cases_lt, eqb-true, lt-ltb, le-ltb, ltb-false, not_from_false}
use Rattle.std.proofs.lemmas.List.{append-nil, get_or_default, get_or-map, length-append, length-map}
use Rattle.std.proofs.lemmas.List.Elements.{All-contains, All-map}
use Rattle.std.proofs.lemmas.Option.{slice_get_within, same_Some, none-some}
use Rattle.irp_explore.specs.Orders.{Leads, HasEnded}
use Rattle.irp_explore.specs.Counted.{AreCounted, AreParted, IsCount}
use Rattle.irp_explore.specs.Nodes.{AreApart, IsFound, states_of, weigh}
use Rattle.irp_explore.specs.Paths.{changes_of, seam, HasAsGood}
use Rattle.irp_explore.proofs.Counting.{part_differs}
use Rattle.irp_explore.proofs.Permuting.{pairs_map}
use Rattle.irp_explore.proofs.Changing.{changes_append, last_in, seam_once}
use Rattle.irp_explore.specs.declared.node.Node.{Node}
use Rattle.irp_machine.specs.declared.outcome.End.{End}
use Rattle.irp_machine.specs.declared.outcome.Outcome.{Outcome}
use Rattle.irp_machine.specs.declared.parts.Planned.{Planned}
use Rattle.irp_machine.specs.declared.place.Place.{Place}
use Rattle.irp_machine.specs.declared.place.Place.TheVariants.{Running, Over}
use Rattle.irp_machine.specs.Conditions.{act_now}
use Rattle.irp_machine.specs.Machine.{RulesValue, PlaceSteps, RunningSteps, ClosesIf, ClosesTo, StepsTo, act_of, has_ended, has_ended_below}
use Rattle.irp_machine.specs.Openings.{MakesAll}
use Rattle.irp_machine.specs.Orders.{AreOrders, AreOutcomes, IsClosed, IsCounted, IsOrder, Tells, AllTell, ends_of, is_over, weigh_outcomes}
use Rattle.irp_plain.specs.Seats.{SeatValue}
use Rattle.irp_machine.specs.Standings.{StandingValue}

-- ---- places

-- a place that is over, as an end
abbrev end_in : Place → End → End
end_in (Over end) other = end
end_in (Running standing) other = other

same_over : (one other : End) → Over one ≡ Over other → one ≡ other
same_over one other same = ap (λ (place : Place). end_in place one) same

abbrev standing_in : Place → StandingValue → StandingValue
standing_in (Running standing) other = standing
standing_in (Over end) other = other

same_running : (one other : StandingValue) → Running one ≡ Running other → one ≡ other
same_running one other same = ap (λ (place : Place). standing_in place one) same

never_over : (standing : StandingValue) (end : End) → Running standing ≡ Over end → ⊥
never_over standing end same = let no : false ≡ true = ap is_over same in cc

-- ---- steps of a seat

-- a seat that has an act is below their number
acts_at : (rules : RulesValue) (acts : Option (List Planned)) (seat : ℕ) (own : SeatValue) (planned : Planned) → slice_get rules.acts seat ≡ acts
    → option_and_then (λ (acts : List Planned). act_now acts own) acts ≡ Some planned → seat < length rules.acts
acts_at rules None seat own planned at is = absurd (none-some planned is)
acts_at rules (Some acts) seat own planned at is = slice_get_within rules.acts seat acts at

acts_of : (rules : RulesValue) (own : Option SeatValue) (seat : ℕ) (planned : Planned)
    → option_and_then (λ (own : SeatValue). option_and_then (λ (acts : List Planned). act_now acts own) (slice_get rules.acts seat)) own ≡ Some planned
    → seat < length rules.acts
acts_of rules None seat planned is = absurd (none-some planned is)
acts_of rules (Some own) seat planned is = acts_at rules (slice_get rules.acts seat) seat own planned refl is

-- a seat that makes a step is below their number
step_within_by : (rules : RulesValue) (old new : StandingValue) (seat : ℕ) (act : Option Planned) → act_of rules old seat ≡ act
    → StepsTo rules old seat act (Some new) → seat < length rules.acts
step_within_by rules old new seat None at steps = absurd (none-some new (sym steps))
step_within_by rules old new seat (Some planned) at steps = acts_of rules (slice_get old.seats seat) seat planned at

step_within : (rules : RulesValue) (old new : StandingValue) (seat : ℕ) → StepsTo rules old seat (act_of rules old seat) (Some new) → seat < length rules.acts
step_within rules old new seat steps = step_within_by rules old new seat (act_of rules old seat) refl steps

-- what a step of a seat leads to
seat_step : (rules : RulesValue) (old : StandingValue) (seat : ℕ) (place : Place) (next : Option StandingValue) → StepsTo rules old seat (act_of rules old seat) next
    → Some place ≡ option_map (λ (one : StandingValue). Running one) next
    → (new : StandingValue) × (place ≡ Running new) × StepsTo rules old seat (act_of rules old seat) (Some new)
seat_step rules old seat place None steps is = absurd (none-some place (sym is))
seat_step rules old seat place (Some new) steps is = (new, same_Some place (Running new) is, steps)

-- what the closing step leads to
close_step : (rules : RulesValue) (old : StandingValue) (place : Place) (next : Option End) → ClosesTo rules old next
    → Some place ≡ option_map (λ (one : End). Over one) next
    → (end : End) × (place ≡ Over end) × ClosesTo rules old (Some end)
close_step rules old place None closes is = absurd (none-some place (sym is))
close_step rules old place (Some end) closes is = (end, same_Some place (Over end) is, closes)

-- ---- orders

-- nothing follows an end
over_stays : (rules : RulesValue) (path : List ℕ) (seat : ℕ) (end : End) (last : Place) → Leads (PlaceSteps rules) (length rules.acts + 1) (Over end) (path ++ seat ∷ []) last → ⊥
over_stays rules [] seat end last leads = none-some leads.0 (sym leads.2)
over_stays rules (first ∷ path) seat end last leads = none-some leads.0 (sym leads.2)

-- the last step closes
last_step : (rules : RulesValue) (start : StandingValue) (closing : ℕ) (end : End) (middle : Place) (below : Bool)
    → RunningSteps rules start closing below (Some middle) → middle ≡ Over end → IsOrder rules start [] end
last_step rules start closing end middle true steps is =
    let next = seat_step rules start closing middle steps.0 steps.1 steps.2 in
    absurd (never_over next.0 end (sym next.1 ∙ is))
last_step rules start closing end middle false steps is =
    let next = close_step rules start middle steps.0 steps.1 steps.2 in
    let same : next.0 ≡ end = same_over next.0 end (sym next.1 ∙ is) in
    (start, refl, subst (λ (end : End). ClosesTo rules start (Some end)) same next.2)

-- each other one is a seat's
next_step : (rules : RulesValue) (start : StandingValue) (seat : ℕ) (path : List ℕ) (closing : ℕ) (end : End) (middle : Place) (below : Bool)
    → RunningSteps rules start seat below (Some middle) → Leads (PlaceSteps rules) (length rules.acts + 1) middle (path ++ closing ∷ []) (Over end)
    → (new : StandingValue) × StepsTo rules start seat (act_of rules start seat) (Some new)
    × Leads (PlaceSteps rules) (length rules.acts + 1) (Running new) (path ++ closing ∷ []) (Over end)
next_step rules start seat path closing end middle true steps leads =
    let next = seat_step rules start seat middle steps.0 steps.1 steps.2 in
    (next.0, next.2, subst (λ (place : Place). Leads (PlaceSteps rules) (length rules.acts + 1) place (path ++ closing ∷ []) (Over end)) next.1 leads)
next_step rules start seat path closing end middle false steps leads =
    let next = close_step rules start middle steps.0 steps.1 steps.2 in
    absurd (over_stays rules path closing next.0 (Over end)
    (subst (λ (place : Place). Leads (PlaceSteps rules) (length rules.acts + 1) place (path ++ closing ∷ []) (Over end)) next.1 leads))

-- an order of places is one of the seats' steps, and the last step closes it
order_of : (rules : RulesValue) (start : StandingValue) (path : List ℕ) (closing : ℕ) (end : End)
    → Leads (PlaceSteps rules) (length rules.acts + 1) (Running start) (path ++ closing ∷ []) (Over end) → IsOrder rules start path end
order_of rules start [] closing end leads = last_step rules start closing end leads.0 (nat_lt closing (length rules.acts)) leads.2 leads.3
order_of rules start (seat ∷ path) closing end leads =
    let next = next_step rules start seat path closing end leads.0 (nat_lt seat (length rules.acts)) leads.2 leads.3 in
    let rest = order_of rules next.0 path closing end next.2 in
    (rest.0, (next.0, next.1, rest.1), rest.2)

-- and the other way round
steps_at : (rules : RulesValue) (old : StandingValue) (seat : ℕ) (new : StandingValue) → StepsTo rules old seat (act_of rules old seat) (Some new)
    → PlaceSteps rules (Running old) seat (Some (Running new))
steps_at rules old seat new steps =
    subst (λ (below : Bool). RunningSteps rules old seat below (Some (Running new)))
    (sym (lt-ltb seat (length rules.acts) (step_within rules old new seat steps))) (Some new, steps, refl)

closes_at : (rules : RulesValue) (old : StandingValue) (end : End) → ClosesTo rules old (Some end)
    → PlaceSteps rules (Running old) (length rules.acts) (Some (Over end))
closes_at rules old end closes =
    subst (λ (below : Bool). RunningSteps rules old (length rules.acts) below (Some (Over end)))
    (sym (le-ltb (length rules.acts) (length rules.acts) (omega arith))) (Some end, closes, refl)

leads_by : (rules : RulesValue) (start : StandingValue) (path : List ℕ) (last : StandingValue) (end : End) → MakesAll rules start path last → ClosesTo rules last (Some end)
    → Leads (PlaceSteps rules) (length rules.acts + 1) (Running start) (path ++ length rules.acts ∷ []) (Over end)
leads_by rules start [] last end makes closes =
    (Over end, omega arith, closes_at rules start end (subst (λ (standing : StandingValue). ClosesTo rules standing (Some end)) (sym makes) closes), refl)
leads_by rules start (seat ∷ path) last end makes closes =
    (Running makes.0, (let below = step_within rules start makes.0 seat makes.1 in omega (arith, below)), steps_at rules start seat makes.0 makes.1, leads_by rules makes.0 path last end makes.2 closes)

-- ---- changes of seat

-- the last step is no seat's
closing_past_by : (rules : RulesValue) (start : StandingValue) (closing : ℕ) (end : End) (middle : Place) (below : Bool) → nat_lt closing (length rules.acts) ≡ below
    → RunningSteps rules start closing below (Some middle) → middle ≡ Over end → length rules.acts ≤ closing
closing_past_by rules start closing end middle true at steps is =
    let next = seat_step rules start closing middle steps.0 steps.1 steps.2 in
    absurd (never_over next.0 end (sym next.1 ∙ is))
closing_past_by rules start closing end middle false at steps is = ltb-false closing (length rules.acts) at

apart_seam : (last closing : ℕ) (same : Bool) → (last == closing) ≡ same → last < closing → seam (Some last) (closing ∷ []) ≡ 1
apart_seam last closing true is below = let no = eqb-true last closing is in absurd (omega (arith, below, no))
apart_seam last closing false is below = rw is refl

-- so the seat changes before it
closing_turn : (rules : RulesValue) (start : StandingValue) (first : ℕ) (path : List ℕ) (closing : ℕ) (end : End) → first < length rules.acts
    → Leads (PlaceSteps rules) (length rules.acts + 1) (Running start) (path ++ closing ∷ []) (Over end)
    → seam (last_in (first ∷ path)) (closing ∷ []) ≡ 1
closing_turn rules start first [] closing end within leads =
    let past = closing_past_by rules start closing end leads.0 (nat_lt closing (length rules.acts)) refl leads.2 leads.3 in
    apart_seam first closing (first == closing) refl (omega (arith, within, past))
closing_turn rules start first (seat ∷ path) closing end within leads =
    let next = next_step rules start seat path closing end leads.0 (nat_lt seat (length rules.acts)) leads.2 leads.3 in
    closing_turn rules next.0 seat path closing end (step_within rules start next.0 seat next.1) next.2

-- an order without its last step has one change less, where it has a step left
opened_changes : (rules : RulesValue) (start : StandingValue) (path : List ℕ) (closing : ℕ) (end : End) (most : ℕ)
    → Leads (PlaceSteps rules) (length rules.acts + 1) (Running start) (path ++ closing ∷ []) (Over end)
    → changes_of (path ++ closing ∷ []) ≤ most + 1 → changes_of path ≤ most
opened_changes rules start [] closing end most leads few = omega arith
opened_changes rules start (seat ∷ path) closing end most leads few =
    let next = next_step rules start seat path closing end leads.0 (nat_lt seat (length rules.acts)) leads.2 leads.3 in
    let turn = closing_turn rules next.0 seat path closing end (step_within rules start next.0 seat next.1) next.2 in
    let whole = changes_append (seat ∷ path) (closing ∷ []) in
    omega (arith, few, turn, whole)

-- and one more at most
closed_changes : (path : List ℕ) (closing : ℕ) → changes_of (path ++ closing ∷ []) ≤ changes_of path + 1
closed_changes path closing =
    let whole = changes_append path (closing ∷ []) in
    let once = seam_once (last_in path) (closing ∷ []) in
    omega (arith, whole, once)

-- one state is one node's
same_node : (found : List (Node Place)) (k : ℕ) (node d : Node Place) → AreApart found → k < length found → Contains found node
    → node.state ≡ (get_or found k d).state → node ≡ get_or found k d
same_node found k node d apart below (i, within, is) same =
    elim (cases_eq i k) as (λ _. node ≡ get_or found k d) [
      | inl here ↦
          sym is ∙ ap (λ (i : ℕ). get_or found i node) here ∙ get_or_default found k node d below
      | inr elsewhere ↦ absurd (elim (cases_lt i k) as (λ _. ⊥) [
        | inl before ↦ apart i k node before below (ap (λ (node : Node Place). node.state) is ∙ same ∙ ap (λ (node : Node Place). node.state) (get_or_default found k d node below))
        | inr after ↦
            apart k i node (omega (arith, after, elsewhere)) within
            (ap (λ (node : Node Place). node.state) (get_or_default found k node d below) ∙ sym same ∙ sym (ap (λ (node : Node Place). node.state) is))
      ])
    ]

-- ---- where no seat has a step left

no_act : (rules : RulesValue) (standing : StandingValue) (seat : ℕ) (act : Option Planned) (next : Option StandingValue) → StepsTo rules standing seat act next
    → None ≡ option_map (λ (one : StandingValue). Running one) next → is_some act ≡ false
no_act rules standing seat None next steps is = refl
no_act rules standing seat (Some planned) None steps is = absurd (none-some steps.0 steps.1)
no_act rules standing seat (Some planned) (Some new) steps is = absurd (none-some (Running new) is)

seat_ended : (rules : RulesValue) (standing : StandingValue) (seat : ℕ) (below : Bool) → below ≡ true → RunningSteps rules standing seat below None
    → is_some (act_of rules standing seat) ≡ false
seat_ended rules standing seat true within steps = no_act rules standing seat (act_of rules standing seat) steps.0 steps.1 steps.2
seat_ended rules standing seat false within steps = (let bad : ⊥ = cc in absurd bad)

all_ended : (rules : RulesValue) (standing : StandingValue) → ((seat : ℕ) → seat < length rules.acts → is_some (act_of rules standing seat) ≡ false)
    → (seats : ℕ) → seats ≤ length rules.acts → has_ended_below rules standing seats ≡ true
all_ended rules standing each zero within = refl
all_ended rules standing each (suc seat) within =
    and_from (has_ended_below rules standing seat) (not (is_some (act_of rules standing seat)))
    (all_ended rules standing each seat (omega (arith, within)))
    (not_from_false (is_some (act_of rules standing seat)) (each seat (omega (arith, within))))

unclosed : (rules : RulesValue) (standing : StandingValue) (ended : Bool) (end : Option End) → ClosesIf rules standing ended end
    → None ≡ option_map (λ (one : End). Over one) end → ended ≡ false
unclosed rules standing true None closes is = absurd (none-some _ closes)
unclosed rules standing true (Some end) closes is = absurd (none-some (Over end) is)
unclosed rules standing false end closes is = refl

unclosed_by : (rules : RulesValue) (standing : StandingValue) (seat : ℕ) (below : Bool) → below ≡ false → RunningSteps rules standing seat below None → has_ended rules standing ≡ false
unclosed_by rules standing seat true within steps = (let bad : ⊥ = cc in absurd bad)
unclosed_by rules standing seat false within steps = unclosed rules standing (has_ended rules standing) steps.0 steps.1 steps.2

-- the place is over
ended_over : (rules : RulesValue) (place : Place) → HasEnded (PlaceSteps rules) (length rules.acts + 1) place → is_over place ≡ true
ended_over rules (Over end) ended = refl
ended_over rules (Running standing) ended =
    let seats = length rules.acts in
    let whole : has_ended rules standing ≡ true =
    all_ended rules standing
    (λ seat within. seat_ended rules standing seat (nat_lt seat seats) (lt-ltb seat seats within) (ended seat (omega (arith, within)))) seats (omega arith) in
    let not_yet = unclosed_by rules standing seats (nat_lt seats seats) (le-ltb seats seats (omega arith)) (ended seats (omega arith)) in
    let bad : ⊥ = cc in absurd bad

-- each order that leads there has a step
order_closed : (rules : RulesValue) (start : StandingValue) (place : Place) (path : List ℕ) → is_over place ≡ true
    → Leads (PlaceSteps rules) (length rules.acts + 1) (Running start) path place → 0 < length path
order_closed rules start place [] over leads = (let same = ap is_over leads in let bad : ⊥ = cc in absurd bad)
order_closed rules start place (seat ∷ path) over leads = omega arith

pub closed_of : (rules : RulesValue) (start : StandingValue) (node : Node Place) → IsFound (PlaceSteps rules) (length rules.acts + 1) (Running start) node → IsClosed node
closed_of rules start node found =
    let over = ended_over rules node.state found.ended in
    record {
      over = over;
      some = found.some;
      closed = λ k d low. order_closed rules start node.state (get_or node.fewest.items k d) over (found.fewest k d low);
    }

pub closed_node : (rest taken : List (Node Place)) (node : Node Place) → All IsClosed (rest ++ node ∷ taken) → IsClosed node
closed_node rest taken node all =
    let long = length-append rest (node ∷ taken) in
    subst IsClosed (get_or-append_seam rest node taken node) (all (length rest) node (omega (arith, long)))

-- ---- outcomes

over_ended : (rules : RulesValue) (end : End) → HasEnded (PlaceSteps rules) (length rules.acts + 1) (Over end)
over_ended rules end seat below = refl

-- as many outcomes as states, each of which tells the state at its place
pub tell_long : (found : List (Node Place)) (outcomes : List Outcome) → AllTell found outcomes → length found ≡ length outcomes
tell_long [] [] tell = refl
tell_long [] (outcome ∷ outcomes) tell = absurd tell
tell_long (node ∷ found) [] tell = absurd tell
tell_long (node ∷ found) (outcome ∷ outcomes) tell = ap suc (tell_long found outcomes tell.1)

tell_at : (found : List (Node Place)) (outcomes : List Outcome) (k : ℕ) (node : Node Place) (outcome : Outcome) → AllTell found outcomes → k < length outcomes
    → Tells (get_or found k node) (get_or outcomes k outcome)
tell_at [] [] k node outcome tell below = absurd (omega (arith, below))
tell_at [] (first ∷ outcomes) k node outcome tell below = absurd tell
tell_at (first ∷ found) [] k node outcome tell below = absurd tell
tell_at (first ∷ found) (told ∷ outcomes) zero node outcome tell below = tell.0
tell_at (first ∷ found) (told ∷ outcomes) (suc k) node outcome tell below = tell_at found outcomes k node outcome tell.1 (omega (arith, below))

-- a list with a place in it has an item
some_node : (found : List (Node Place)) (outcomes : List Outcome) (k : ℕ) → AllTell found outcomes → k < length outcomes → Node Place
some_node [] [] k tell below = absurd (omega (arith, below))
some_node [] (first ∷ outcomes) k tell below = absurd tell
some_node (node ∷ found) outcomes k tell below = node

contained : (found : List (Node Place)) (outcomes : List Outcome) (end : End) → AllTell found outcomes → Contains (states_of found) (Over end) → Contains (ends_of outcomes) end
contained [] [] end tell (zero, below, is) = absurd (omega (arith, below))
contained [] [] end tell (suc k, below, is) = absurd (omega (arith, below))
contained [] (outcome ∷ outcomes) end tell held = absurd tell
contained (node ∷ found) [] end tell held = absurd tell
contained (node ∷ found) (outcome ∷ outcomes) end tell (zero, below, is) =
    (zero, omega arith, same_over outcome.end end (sym tell.0.state ∙ is))
contained (node ∷ found) (outcome ∷ outcomes) end tell (suc k, below, is) =
    let rest = contained found outcomes end tell.1 (k, omega (arith, below), is) in
    (suc rest.0, (let within = rest.1 in omega (arith, within)), rest.2)

weighed : (number : Place → ℕ) (found : List (Node Place)) (outcomes : List Outcome) → AllTell found outcomes → weigh_outcomes number outcomes ≡ weigh number found
weighed number [] [] tell = refl
weighed number [] (outcome ∷ outcomes) tell = absurd tell
weighed number (node ∷ found) [] tell = absurd tell
weighed number (node ∷ found) (outcome ∷ outcomes) tell =
    let first = sum_by-cons (λ (outcome : Outcome). outcome.orders * number (Over outcome.end)) outcome outcomes in
    let second = sum_by-cons (λ (node : Node Place). node.orders * number node.state) node found in
    let one : node.orders * number node.state ≡ outcome.orders * number (Over outcome.end) =
    ap (λ orders. orders * number node.state) tell.0.orders ∙ ap (λ place. outcome.orders * number place) tell.0.state in
    let rest = weighed number found outcomes tell.1 in
    omega (arith, first, second, one, rest)

-- what an outcome tells is an order that was found
told_leads : (rules : RulesValue) (start : StandingValue) (node : Node Place) (outcome : Outcome) → (told : Tells node outcome)
    → All (λ path. Leads (PlaceSteps rules) (length rules.acts + 1) (Running start) path node.state) node.fewest.items
    → Leads (PlaceSteps rules) (length rules.acts + 1) (Running start) (outcome.path.items ++ told.path.closing ∷ []) (Over outcome.end)
told_leads rules start node outcome told all =
    let path = outcome.path.items ++ told.path.closing ∷ [] in
    subst (λ (place : Place). Leads (PlaceSteps rules) (length rules.acts + 1) (Running start) path place) told.state
    (All-contains (λ (path : List ℕ). Leads (PlaceSteps rules) (length rules.acts + 1) (Running start) path node.state) node.fewest.items path all told.path.held)

-- an order with the fewest changes of those that are kept has no more than any
fewest_of : (orders : List (List ℕ)) (opened path : List ℕ) (closing : ℕ) → All (λ other. changes_of opened ≤ changes_of other) orders
    → HasAsGood orders (path ++ closing ∷ []) → changes_of opened ≤ changes_of path + 1
fewest_of orders opened path closing fewest good =
    let least = All-contains (λ (other : List ℕ). changes_of opened ≤ changes_of other) orders good.0 fewest good.1 in
    let better = good.2 [] in
    let one = ap changes_of (append-nil good.0) in
    let other = ap changes_of (append-nil (path ++ closing ∷ [])) in
    let more = closed_changes path closing in
    omega (arith, least, better, one, other, more)

-- ---- counts

-- an order without its last step
abbrev front_of : List ℕ → List ℕ
front_of [] = []
front_of (seat ∷ []) = []
front_of (seat ∷ next ∷ path) = seat ∷ front_of (next ∷ path)

last_apart : (seat : ℕ) (path : List ℕ) → (closing : ℕ) × (seat ∷ path ≡ front_of (seat ∷ path) ++ closing ∷ [])
last_apart seat [] = (seat, refl)
last_apart seat (next ∷ path) =
    let rest = last_apart next path in
    (rest.0, ap (λ (path : List ℕ). seat ∷ path) rest.1)

closing_apart : (rules : RulesValue) (start : StandingValue) (order : List ℕ) (end : End)
    → Leads (PlaceSteps rules) (length rules.acts + 1) (Running start) order (Over end) → (closing : ℕ) × (order ≡ front_of order ++ closing ∷ [])
closing_apart rules start [] end leads = absurd (never_over start end leads)
closing_apart rules start (seat ∷ path) end leads = last_apart seat path

-- the last step is the one that closes
closing_is : (rules : RulesValue) (start : StandingValue) (path : List ℕ) (closing : ℕ) (end : End)
    → Leads (PlaceSteps rules) (length rules.acts + 1) (Running start) (path ++ closing ∷ []) (Over end) → closing ≡ length rules.acts
closing_is rules start [] closing end leads =
    let past = closing_past_by rules start closing end leads.0 (nat_lt closing (length rules.acts)) refl leads.2 leads.3 in
    let below = leads.1 in
    omega (arith, past, below)
closing_is rules start (seat ∷ path) closing end leads =
    let next = next_step rules start seat path closing end leads.0 (nat_lt seat (length rules.acts)) leads.2 leads.3 in
    closing_is rules next.0 path closing end next.2

closed_front : (rules : RulesValue) (start : StandingValue) (order : List ℕ) (end : End)
    → Leads (PlaceSteps rules) (length rules.acts + 1) (Running start) order (Over end) → order ≡ front_of order ++ length rules.acts ∷ []
closed_front rules start order end leads =
    let apart = closing_apart rules start order end leads in
    let led = subst (λ (order : List ℕ). Leads (PlaceSteps rules) (length rules.acts + 1) (Running start) order (Over end)) apart.1 leads in
    apart.1 ∙ ap (λ closing. front_of order ++ closing ∷ []) (closing_is rules start (front_of order) apart.0 end led)

front_order : (rules : RulesValue) (start : StandingValue) (order : List ℕ) (end : End)
    → Leads (PlaceSteps rules) (length rules.acts + 1) (Running start) order (Over end) → IsOrder rules start (front_of order) end
front_order rules start order end leads =
    order_of rules start (front_of order) (length rules.acts) end
    (subst (λ (order : List ℕ). Leads (PlaceSteps rules) (length rules.acts + 1) (Running start) order (Over end)) (closed_front rules start order end leads) leads)

-- different orders stay different without it
fronts_differ : (rules : RulesValue) (start : StandingValue) (one other : List ℕ) (end : End)
    → Leads (PlaceSteps rules) (length rules.acts + 1) (Running start) one (Over end)
    → Leads (PlaceSteps rules) (length rules.acts + 1) (Running start) other (Over end) → AreParted one other → front_of one ≢ front_of other
fronts_differ rules start one other end first second part same =
    part_differs one other part
    (closed_front rules start one end first ∙ ap (λ (path : List ℕ). path ++ length rules.acts ∷ []) same ∙ sym (closed_front rules start other end second))

counted_of : (rules : RulesValue) (start : StandingValue) (node : Node Place) (orders : List (List ℕ)) (outcome : Outcome)
    → IsCount (PlaceSteps rules) (length rules.acts + 1) (Running start) node orders → node.state ≡ Over outcome.end → node.orders ≡ outcome.orders
    → IsCounted rules start outcome
counted_of rules start node orders outcome count state many =
    let lead : All (λ order. Leads (PlaceSteps rules) (length rules.acts + 1) (Running start) order (Over outcome.end)) orders =
    subst (λ (place : Place). All (λ order. Leads (PlaceSteps rules) (length rules.acts + 1) (Running start) order place) orders) state count.lead in (
      map front_of orders,
      length-map orders front_of ∙ count.many ∙ many,
      All-map (λ (path : List ℕ). IsOrder rules start path outcome.end) front_of orders (λ k d below. front_order rules start (get_or orders k d) outcome.end (lead k d below)),
      pairs_map (λ (one other : List ℕ). one ≢ other) front_of orders
          (λ i j d before within.
          fronts_differ rules start (get_or orders i d) (get_or orders j d) outcome.end (lead i d (omega (arith, before, within))) (lead j d within) (count.part i j d before within)),
    )

-- what an outcome tells at its place
counted_at : (rules : RulesValue) (start : StandingValue) (found : List (Node Place)) (outcomes : List Outcome) (k : ℕ) (some : Node Place) (outcome : Outcome)
    → AreCounted (PlaceSteps rules) (length rules.acts + 1) (Running start) found → AllTell found outcomes → k < length outcomes
    → IsCounted rules start (get_or outcomes k outcome)
counted_at rules start found outcomes k some outcome counted tell below =
    let told = tell_at found outcomes k some outcome tell below in
    let long = tell_long found outcomes tell in
    let none : List (List ℕ) = [] in
    let many = sym (length-map counted.counts (λ (count : Node Place × List (List ℕ)). count.0)) ∙ ap length counted.nodes_are in
    let within : k < length counted.counts = omega (arith, below, long, many) in
    let count = get_or counted.counts k (some, none) in
    let node : count.0 ≡ get_or found k some =
    sym (get_or-map (λ (count : Node Place × List (List ℕ)). count.0) counted.counts k (some, none) some within)
    ∙ ap (λ (nodes : List (Node Place)). get_or nodes k some) counted.nodes_are in
    counted_of rules start count.0 count.1 (get_or outcomes k outcome) (counted.counted k (some, none) within)
    (ap (λ (node : Node Place). node.state) node ∙ told.state) (ap (λ (node : Node Place). node.orders) node ∙ told.orders)

-- what is found is told by the outcomes
pub outcomes_hold : (rules : RulesValue) (start : StandingValue) (found : List (Node Place)) (outcomes : List Outcome)
    → AreOrders (PlaceSteps rules) (length rules.acts + 1) (Running start) found → AllTell found outcomes → AreOutcomes rules start outcomes
outcomes_hold rules start found outcomes orders tell = record {
  sound = λ k outcome below.
      let some = some_node found outcomes k tell below in
      let told = tell_at found outcomes k some outcome tell below in
      let long = tell_long found outcomes tell in
      let all = (orders.sound k some (omega (arith, below, long))).fewest in
      order_of rules start (get_or outcomes k outcome).path.items told.path.closing (get_or outcomes k outcome).end
      (told_leads rules start (get_or found k some) (get_or outcomes k outcome) told all);
  fewest = λ k outcome below path order.
      let some = some_node found outcomes k tell below in
      let told = tell_at found outcomes k some outcome tell below in
      let long = tell_long found outcomes tell in
      let within : k < length found = omega (arith, below, long) in
      let all = (orders.sound k some within).fewest in
      let one = get_or outcomes k outcome in
      let matched =
      orders.fewest (path ++ length rules.acts ∷ []) (Over one.end) (leads_by rules start path order.0 one.end order.1 order.2)
      (over_ended rules one.end) in
      let same = same_node found k matched.0 some orders.once within matched.1 (matched.2 ∙ sym told.state) in
      let good = subst (λ (node : Node Place). HasAsGood node.fewest.items (path ++ length rules.acts ∷ [])) same matched.3 in
      opened_changes rules start one.path.items told.path.closing one.end (changes_of path)
      (told_leads rules start (get_or found k some) one told all)
      (fewest_of (get_or found k some).fewest.items (one.path.items ++ told.path.closing ∷ []) path (length rules.acts) told.path.fewest good);
  complete = λ path end order.
      contained found outcomes end tell
      (orders.complete (path ++ length rules.acts ∷ []) (Over end) (leads_by rules start path order.0 end order.1 order.2) (over_ended rules end));
  once = λ i j outcome before below.
      let some = some_node found outcomes j tell below in
      let long = tell_long found outcomes tell in
      let one = tell_at found outcomes i some outcome tell (omega (arith, before, below)) in
      let other = tell_at found outcomes j some outcome tell below in
      λ same. orders.once i j some before (omega (arith, below, long)) (one.state ∙ ap (λ (end : End). Over end) same ∙ sym other.state);
  counted = λ k outcome below. counted_at rules start found outcomes k (some_node found outcomes k tell below) outcome orders.counted tell below;
  orders = λ number shared. weighed number found outcomes tell ∙ orders.orders number shared;
}
