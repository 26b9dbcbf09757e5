-- One turn, and then the rest: an unwinding from the next location is one from here.
use Rattle.std.proofs.Common.{◌≡◌, ℕ, ◌+◌, ◌-◌, ◌<◌, ◌≤◌, Bool, true, false, cond, ◌||◌, is_some, List, [], ◌∷◌, ◌++◌, drop, replicate, refl, sym, ◌∙◌, ap, arith, Some, None}
use Rattle.std.specs.List.{list_any, find, AllByRecursion}
use Rattle.std.specs.Option.{option_map_or}
use Rattle.std.proofs.Math.Bool.{or-false}
use Rattle.std.proofs.lemmas.Bool.{cond-false, le-ltb}
use Rattle.irp_types.specs.Packet.{PacketValue, size_of, location_at, cleared}
use Rattle.irp_types.specs.Unwinding.{Asking, place_of, last_from, replaced_below, outcome_at, is_met_at, from_to, pending_returned_at, keeper_of, stop_of, device_above, shown_at, IsAskedRight, owner_from, unwound_packet}
use Rattle.irp_types.specs.declared.location.Owner.TheVariants.{Ended}
use Rattle.irp_types.specs.declared.location.Preparation.TheVariants.{Nothing}
use Rattle.irp_types.specs.declared.names.IrpRef.{IrpRef}
use Rattle.irp_types.specs.declared.routine.Setting.{Setting}
use Rattle.irp_types.specs.declared.answer.Replacement.{Replacement}
use Rattle.irp_unwind.specs.Turns.{is_met, outcome_of, shown_now, is_met_now, IsAskedNow}
use Rattle.irp_unwind.proofs.Lists.{from_to-cons, from_to-last, any_range_same, filter_map-none, all_map}

-- what one location's turn leaves of packet, with outcome in force from then on
pub record Turned (packet next : PacketValue) (outcome : Replacement) : Type 0 where
  pub size : size_of next ≡ size_of packet
  pub current : next.current ≡ packet.current + 1
  pub status : next.status ≡ outcome.status
  pub information : next.information ≡ outcome.information
  pub cancel : next.cancel ≡ packet.cancel
  pub cancel_routine : next.cancel_routine ≡ packet.cancel_routine
  pub slot_held : next.slot_held ≡ packet.slot_held
  pub device : (number : ℕ) → packet.current < number → (location_at next number).device ≡ (location_at packet number).device
  pub major : (number : ℕ) → packet.current < number → (location_at next number).major ≡ (location_at packet number).major
  pub word : (number : ℕ) → packet.current < number → (location_at next number).word ≡ (location_at packet number).word
  pub setting : (number : ℕ) → packet.current < number → (location_at next number).setting ≡ (location_at packet number).setting
  pub passed : (location_at next (packet.current + 1)).pending ≡ ((location_at packet (packet.current + 1)).pending || (location_at packet packet.current).pending)
  pub pending : (number : ℕ) → packet.current + 1 < number → (location_at next number).pending ≡ (location_at packet number).pending
  pub dropped : (n : ℕ) → packet.current < n → drop n next.locations ≡ drop n packet.locations

-- asked is all that is asked from packet on, and later what is asked from next on
pub record Later (packet next : PacketValue) (asked later : List Asking) : Type 0 where
  pub outcome : (number : ℕ) → packet.current < number → outcome_at packet asked number ≡ outcome_at next later number
  pub keeper : keeper_of asked ≡ keeper_of later

or_swap : (a b outcome : Bool) → (a || (b || outcome)) ≡ ((b || a) || outcome)
or_swap true true outcome = refl
or_swap true false outcome = refl
or_swap false true outcome = refl
or_swap false false outcome = refl

pub pending_later : (packet next : PacketValue) (outcome : Replacement) → Turned packet next outcome → (number : ℕ) → packet.current < number → pending_returned_at packet number ≡ pending_returned_at next number
pending_later packet next outcome turned number h =
    let here : packet.current ≤ number = omega arith in
    let above : packet.current + 1 ≤ number = omega arith in
    let f = λ (k : ℕ). (location_at packet k).pending in
    let g = λ (k : ℕ). (location_at next k).pending in
    let e1 : list_any f (from_to packet.current number) ≡ (f packet.current || (f (packet.current + 1) || list_any f (from_to (packet.current + 1 + 1) number))) =
    ap (list_any f) (from_to-cons packet.current number here ∙ ap (λ items. packet.current ∷ items) (from_to-cons (packet.current + 1) number above)) in
    let e2 : list_any g (from_to next.current number) ≡ (g (packet.current + 1) || list_any g (from_to (packet.current + 1 + 1) number)) =
    ap (λ n. list_any g (from_to n number)) turned.current ∙ ap (list_any g) (from_to-cons (packet.current + 1) number above) in
    let e3 : list_any f (from_to (packet.current + 1 + 1) number) ≡ list_any g (from_to (packet.current + 1 + 1) number) =
    any_range_same f g (packet.current + 1 + 1) ((number + 1) - (packet.current + 1 + 1)) (λ k a. sym (turned.pending k (omega arith))) in
    e1 ∙ ap (λ b. f packet.current || (f (packet.current + 1) || b)) e3
    ∙ or_swap (f packet.current) (f (packet.current + 1)) (list_any g (from_to (packet.current + 1 + 1) number))
    ∙ ap (λ b. b || list_any g (from_to (packet.current + 1 + 1) number)) (sym turned.passed) ∙ sym e2

pub met_later : (packet next : PacketValue) (outcome : Replacement) (asked later : List Asking) → Turned packet next outcome → Later packet next asked later → (number : ℕ) → packet.current < number → is_met_at packet asked number ≡ is_met_at next later number
met_later packet next outcome asked later turned agreed number h =
    let e1 : (location_at packet number).setting ≡ (location_at next number).setting = sym (turned.setting number h) in
    let e2 : packet.cancel ≡ next.cancel = sym turned.cancel in
    let e3 : (outcome_at packet asked number).status ≡ (outcome_at next later number).status = ap (λ (given : Replacement). given.status) (agreed.outcome number h) in
    λ i. is_met (e1 i) (e2 i) (e3 i)

pub stop_later : (packet next : PacketValue) (outcome : Replacement) (asked later : List Asking) → Turned packet next outcome → Later packet next asked later → stop_of next later ≡ stop_of packet asked
stop_later packet next outcome asked later turned agreed = λ i. option_map_or place_of (sym agreed.keeper i) (turned.size i)

pub find_above : (n size : ℕ) (later : List Asking) → AllByRecursion (λ asking. n ≤ place_of asking) later → n ≤ size → n ≤ option_map_or place_of (find (λ asking. asking.answer.keep) later) size
find_above n size [] all h = h
find_above n size (asking ∷ later) all h =
    elim (asking.answer.keep) as (λ b. n ≤ option_map_or place_of (cond b (Some asking) (find (λ other_asking. other_asking.answer.keep) later)) size) [
      | true ↦ all.0
      | false ↦ find_above n size later all.1 h
    ]

pub shown_later : (irp : IrpRef) (packet next : PacketValue) (outcome : Replacement) (asked later : List Asking) → Turned packet next outcome → Later packet next asked later → (number : ℕ) → packet.current < number → (setting : Setting) → shown_at irp next later number setting ≡ shown_at irp packet asked number setting
shown_later irp packet next outcome asked later turned agreed number h setting =
    let up : packet.current < number + 1 = omega arith in
    let o : outcome_at next later number ≡ outcome_at packet asked number = sym (agreed.outcome number h) in
    let q : pending_returned_at next number ≡ pending_returned_at packet number = sym (pending_later packet next outcome turned number h) in
    λ i. record {
      device = turned.device (number + 1) up i;
      irp = irp;
      major = turned.major number h i;
      location = number;
      word = turned.word number h i;
      status = (o i).status;
      information = (o i).information;
      pending_returned = q i;
      cancel = turned.cancel i;
      context = setting.context;
      has_lower = false;
    }

pub right_later : (irp : IrpRef) (packet next : PacketValue) (outcome : Replacement) (asked later : List Asking) → Turned packet next outcome → Later packet next asked later → (asking : Asking) → (packet.current + 1 ≤ place_of asking) × IsAskedRight irp next later asking → IsAskedRight irp packet asked asking
right_later irp packet next outcome asked later turned agreed asking w =
    let h : packet.current < place_of asking = omega (arith, w.0) in
    let a = w.1 in
    (a.0, sym (turned.setting (place_of asking) h) ∙ a.1, a.2, a.3 ∙ shown_later irp packet next outcome asked later turned agreed (place_of asking) h a.0, a.4)

pub unwound_later : (packet next : PacketValue) (outcome : Replacement) (asked later : List Asking) → Turned packet next outcome → Later packet next asked later → packet.current < stop_of next later → unwound_packet next later ≡ unwound_packet packet asked
unwound_later packet next outcome asked later turned agreed h =
    let up : packet.current < stop_of next later + 1 = omega arith in
    let st : stop_of next later ≡ stop_of packet asked = stop_later packet next outcome asked later turned agreed in
    let dr : drop (stop_of next later) next.locations ≡ drop (stop_of packet asked) packet.locations =
    turned.dropped (stop_of next later) h ∙ ap (λ n. drop n packet.locations) st in
    let o : outcome_at next later (stop_of next later + 1) ≡ outcome_at packet asked (stop_of packet asked + 1) =
    sym (agreed.outcome (stop_of next later + 1) up) ∙ ap (λ n. outcome_at packet asked (n + 1)) st in
    let q : pending_returned_at next (stop_of next later) ≡ pending_returned_at packet (stop_of packet asked) =
    sym (pending_later packet next outcome turned (stop_of next later) h) ∙ ap (λ n. pending_returned_at packet n) st in
    let d : device_above next (stop_of next later) ≡ device_above packet (stop_of packet asked) =
    turned.device (stop_of next later + 1) up ∙ ap (λ n. device_above packet n) st in
    λ i. record {
      locations = replicate (st i) cleared ++ dr i;
      current = st i + 1;
      status = (o i).status;
      information = (o i).information;
      pending_returned = q i;
      cancel = turned.cancel i;
      cancel_routine = turned.cancel_routine i;
      owner = cond (is_some (sym agreed.keeper i)) (owner_from (d i)) Ended;
      preparation = Nothing;
      slot_held = turned.slot_held i;
    }

-- the outcome at the start is the pair at the start
pub outcome_here : (packet : PacketValue) (asked : List Asking) → AllByRecursion (λ asking. packet.current ≤ place_of asking) asked → outcome_at packet asked packet.current ≡ outcome_of packet
outcome_here packet asked all =
    ap (last_from (outcome_of packet)) (filter_map-none (replaced_below packet.current) asked
    (all_map (λ asking. packet.current ≤ place_of asking) (λ asking. replaced_below packet.current asking ≡ None) (λ asking h. cond-false _ _ _ (le-ltb (place_of asking) packet.current h)) asked all))

pub met_here : (packet : PacketValue) (asked : List Asking) → AllByRecursion (λ asking. packet.current ≤ place_of asking) asked → is_met_at packet asked packet.current ≡ is_met_now packet
met_here packet asked all = ap (λ (given : Replacement). is_met (location_at packet packet.current).setting packet.cancel given.status) (outcome_here packet asked all)

pub pending_here : (packet : PacketValue) → pending_returned_at packet packet.current ≡ (location_at packet packet.current).pending
pending_here packet =
    let e : from_to packet.current packet.current ≡ packet.current ∷ [] = from_to-cons packet.current packet.current (omega arith) ∙ ap (λ items. packet.current ∷ items) (from_to-last packet.current) in
    let b = (location_at packet packet.current).pending in
    ap (list_any (λ k. (location_at packet k).pending)) e ∙ or-false b

pub place_now : (irp : IrpRef) (packet : PacketValue) (asking : Asking) → IsAskedNow irp packet asking → place_of asking ≡ packet.current
place_now irp packet asking a = λ i. (a.shown i).location

pub right_now : (irp : IrpRef) (packet : PacketValue) (asked : List Asking) (asking : Asking) → AllByRecursion (λ other_asking. packet.current ≤ place_of other_asking) asked → IsAskedNow irp packet asking → IsAskedRight irp packet asked asking
right_now irp packet asked asking all a =
    let at : place_of asking ≡ packet.current = place_now irp packet asking a in
    let o : outcome_of packet ≡ outcome_at packet asked packet.current = sym (outcome_here packet asked all) in
    let q : (location_at packet packet.current).pending ≡ pending_returned_at packet packet.current = sym (pending_here packet) in
    let e : shown_now irp packet a.setting ≡ shown_at irp packet asked packet.current a.setting = λ i. record {
      device = device_above packet packet.current;
      irp = irp;
      major = (location_at packet packet.current).major;
      location = packet.current;
      word = (location_at packet packet.current).word;
      status = (o i).status;
      information = (o i).information;
      pending_returned = q i;
      cancel = packet.cancel;
      context = a.setting.context;
      has_lower = false;
    } in
    (a.setting, ap (λ number. (location_at packet number).setting) at ∙ a.here, a.id, a.shown ∙ e ∙ ap (λ number. shown_at irp packet asked number a.setting) (sym at), a.allowed)
