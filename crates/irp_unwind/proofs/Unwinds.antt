-- An unwinding, location by location: what is left to show of one that goes on, and of one that ends here.
use Rattle.std.proofs.Common.{◌≡◌, ℕ, ◌+◌, ◌-◌, ◌<◌, ◌≤◌, zero, suc, true, false, cond, is_some, List, [], ◌∷◌, ◌++◌, map, filter, drop, set, replicate, refl, sym, ◌∙◌, ap, subst, arith, Some, None, unwrap_or}
use Rattle.std.specs.List.{filter_map, cons_option, AllByRecursion}
use Rattle.std.specs.Option.{option_map_or}
use Rattle.std.proofs.lemmas.Bool.{cond-true, cond-false, lt-ltb}
use Rattle.std.proofs.lemmas.List.{set_split}
use Rattle.irp_types.specs.Packet.{PacketValue, size_of, location_at, cleared}
use Rattle.irp_types.specs.Unwinding.{Asking, place_of, last_from, replaced_below, outcome_at, is_met_at, from_to, pending_returned_at, keeper_of, stop_of, device_above, IsAskedRight, owner_from, owner_after, unwound_packet, Unwound}
use Rattle.irp_types.specs.declared.location.Owner.{Owner}
use Rattle.irp_types.specs.declared.location.Owner.TheVariants.{Ended}
use Rattle.irp_types.specs.declared.location.Preparation.TheVariants.{Nothing}
use Rattle.irp_types.specs.declared.names.IrpRef.{IrpRef}
use Rattle.irp_types.specs.declared.answer.Replacement.{Replacement}
use Rattle.irp_unwind.specs.Turns.{outcome_of, is_met_now, IsAskedNow, IsBare, ended_packet}
use Rattle.irp_unwind.proofs.Lists.{from_to-cons, from_to-last, filter_range_same, above_start, last_from-cons_option, all_map}
use Rattle.irp_unwind.proofs.Turns.{Turned, Later, met_later, stop_later, find_above, unwound_later, right_later, met_here, pending_here, place_now, right_now}

replaced_above : (irp : IrpRef) (packet : PacketValue) (asking : Asking) → IsAskedNow irp packet asking → (number : ℕ) → packet.current < number → replaced_below number asking ≡ asking.answer.replacement
replaced_above irp packet asking a number h =
    let at : place_of asking ≡ packet.current = place_now irp packet asking a in
    let lt : place_of asking < number = omega (arith, at) in
    cond-true _ _ _ (lt-ltb (place_of asking) number lt)

-- what is common to both ways of going on
goes_on : (irp : IrpRef) (packet next new : PacketValue) (outcome : Replacement) (asked later : List Asking) → Turned packet next outcome → Later packet next asked later → packet.current < size_of packet
    → Unwound irp next later new
    → (map place_of asked ≡ filter (is_met_at packet asked) (packet.current ∷ from_to (packet.current + 1) (stop_of packet asked)))
    → AllByRecursion (IsAskedRight irp packet asked) asked
    → Unwound irp packet asked new
goes_on irp packet next new outcome asked later turned agreed h unwound places right =
    let all : AllByRecursion (λ other_asking. next.current ≤ place_of other_asking) later = above_start place_of (is_met_at next later) next.current _ later unwound.asked_right.places in
    let all1 : AllByRecursion (λ other_asking. packet.current + 1 ≤ place_of other_asking) later = subst (λ n. AllByRecursion (λ other_asking. n ≤ place_of other_asking) later) turned.current all in
    let st : stop_of next later ≡ stop_of packet asked = stop_later packet next outcome asked later turned agreed in
    let sz : packet.current + 1 ≤ size_of next = omega (arith, turned.size) in
    let up : packet.current + 1 ≤ stop_of next later = find_above (packet.current + 1) (size_of next) later all1 sz in
    let lt : packet.current < stop_of next later = omega (arith, up) in
    let le : packet.current ≤ stop_of packet asked = omega (arith, up, st) in
    record {
      asked_right = record {
        places = places ∙ ap (filter (is_met_at packet asked)) (sym (from_to-cons packet.current (stop_of packet asked) le));
        right = right;
      };
      left = unwound.left ∙ unwound_later packet next outcome asked later turned agreed lt;
    }

-- the places of what is asked later, as they are asked from here
places_later : (irp : IrpRef) (packet next new : PacketValue) (outcome : Replacement) (asked later : List Asking) → Turned packet next outcome → Later packet next asked later → Unwound irp next later new
    → map place_of later ≡ filter (is_met_at packet asked) (from_to (packet.current + 1) (stop_of packet asked))
places_later irp packet next new outcome asked later turned agreed unwound =
    let st : stop_of next later ≡ stop_of packet asked = stop_later packet next outcome asked later turned agreed in
    let e1 : filter (is_met_at next later) (from_to next.current (stop_of next later)) ≡ filter (is_met_at next later) (from_to (packet.current + 1) (stop_of packet asked)) =
    λ i. filter (is_met_at next later) (from_to (turned.current i) (st i)) in
    let e2 : filter (is_met_at packet asked) (from_to (packet.current + 1) (stop_of packet asked)) ≡ filter (is_met_at next later) (from_to (packet.current + 1) (stop_of packet asked)) =
    filter_range_same (is_met_at packet asked) (is_met_at next later) (packet.current + 1) _ (λ k a. met_later packet next outcome asked later turned agreed k (omega arith)) in
    unwound.asked_right.places ∙ e1 ∙ sym e2

above_here : (irp : IrpRef) (packet next new : PacketValue) (outcome : Replacement) (later : List Asking) → Turned packet next outcome → Unwound irp next later new → AllByRecursion (λ other_asking. packet.current + 1 ≤ place_of other_asking) later
above_here irp packet next new outcome later turned unwound =
    subst (λ n. AllByRecursion (λ other_asking. n ≤ place_of other_asking) later) turned.current (above_start place_of (is_met_at next later) next.current _ later unwound.asked_right.places)

rights : (irp : IrpRef) (packet next : PacketValue) (outcome : Replacement) (asked later : List Asking) → Turned packet next outcome → Later packet next asked later → (xs : List Asking)
    → AllByRecursion (λ other_asking. packet.current + 1 ≤ place_of other_asking) xs → AllByRecursion (IsAskedRight irp next later) xs → AllByRecursion (IsAskedRight irp packet asked) xs
rights irp packet next outcome asked later turned agreed [] above all = tt
rights irp packet next outcome asked later turned agreed (asking ∷ xs) above all = (right_later irp packet next outcome asked later turned agreed asking (above.0, all.0), rights irp packet next outcome asked later turned agreed xs above.1 all.1)

-- a routine was asked here and let it continue, and the rest is an unwinding from the next location
pub continue_asked : (irp : IrpRef) (packet next new : PacketValue) (asking : Asking) (later : List Asking)
    → Turned packet next (unwrap_or asking.answer.replacement (outcome_of packet)) → is_met_now packet ≡ true → IsAskedNow irp packet asking → asking.answer.keep ≡ false
    → packet.current < size_of packet → Unwound irp next later new → Unwound irp packet (asking ∷ later) new
continue_asked irp packet next new asking later turned met a keep h unwound =
    let outcome = unwrap_or asking.answer.replacement (outcome_of packet) in
    let at : place_of asking ≡ packet.current = place_now irp packet asking a in
    let above : AllByRecursion (λ other_asking. packet.current + 1 ≤ place_of other_asking) later = above_here irp packet next new outcome later turned unwound in
    let from_here : AllByRecursion (λ other_asking. packet.current ≤ place_of other_asking) (asking ∷ later) =
    (omega (arith, at), all_map (λ other_asking. packet.current + 1 ≤ place_of other_asking) (λ other_asking. packet.current ≤ place_of other_asking) (λ other_asking g. omega arith) later above) in
    let agreed : Later packet next (asking ∷ later) later = record {
      outcome = λ number g.
          ap (λ o. last_from (outcome_of packet) (cons_option o (filter_map (replaced_below number) later))) (replaced_above irp packet asking a number g)
          ∙ last_from-cons_option (outcome_of packet) asking.answer.replacement (filter_map (replaced_below number) later)
          ∙ (λ i. last_from (record { status = sym turned.status i; information = sym turned.information i }) (filter_map (replaced_below number) later));
      keeper = cond-false _ _ _ keep;
    } in
    let here : is_met_at packet (asking ∷ later) packet.current ≡ true = met_here packet (asking ∷ later) from_here ∙ met in
    goes_on irp packet next new outcome (asking ∷ later) later turned agreed h unwound
    (ap (λ n. n ∷ map place_of later) at
    ∙ ap (λ ns. packet.current ∷ ns) (places_later irp packet next new outcome (asking ∷ later) later turned agreed unwound)
    ∙ sym (cond-true _ _ _ here))
    (right_now irp packet (asking ∷ later) asking from_here a, rights irp packet next outcome (asking ∷ later) later turned agreed later above unwound.asked_right.right)

-- nobody was asked here, and the rest is an unwinding from the next location
pub continue_passed : (irp : IrpRef) (packet next new : PacketValue) (later : List Asking)
    → Turned packet next (outcome_of packet) → is_met_now packet ≡ false
    → packet.current < size_of packet → Unwound irp next later new → Unwound irp packet later new
continue_passed irp packet next new later turned met h unwound =
    let outcome = outcome_of packet in
    let above : AllByRecursion (λ other_asking. packet.current + 1 ≤ place_of other_asking) later = above_here irp packet next new outcome later turned unwound in
    let from_here : AllByRecursion (λ other_asking. packet.current ≤ place_of other_asking) later =
    all_map (λ other_asking. packet.current + 1 ≤ place_of other_asking) (λ other_asking. packet.current ≤ place_of other_asking) (λ other_asking g. omega arith) later above in
    let agreed : Later packet next later later = record {
      outcome = λ number g. (λ i. last_from (record { status = sym turned.status i; information = sym turned.information i }) (filter_map (replaced_below number) later));
      keeper = refl;
    } in
    let here : is_met_at packet later packet.current ≡ false = met_here packet later from_here ∙ met in
    goes_on irp packet next new outcome later later turned agreed h unwound
    (places_later irp packet next new outcome later later turned agreed unwound ∙ sym (cond-false _ _ _ here))
    (rights irp packet next outcome later later turned agreed later above unwound.asked_right.right)

pub replicate_then : {X : Type 0} (n : ℕ) (a : X) (ys : List X) → replicate n a ++ (a ∷ ys) ≡ a ∷ (replicate n a ++ ys)
replicate_then zero a ys = refl
replicate_then (suc n) a ys = ap (λ items. a ∷ items) (replicate_then n a ys)

cleared_here : (packet : PacketValue) → IsBare packet → packet.current ≤ size_of packet → set packet.locations (packet.current - 1) cleared ≡ replicate packet.current cleared ++ drop packet.current packet.locations
cleared_here packet b h =
    let lt : packet.current - 1 < size_of packet = omega (arith, b.placed) in
    let e : suc (packet.current - 1) ≡ packet.current = omega (arith, b.placed) in
    set_split packet.locations (packet.current - 1) cleared lt
    ∙ ap (λ items. items ++ cleared ∷ drop (suc (packet.current - 1)) packet.locations) b.below
    ∙ replicate_then (packet.current - 1) cleared (drop (suc (packet.current - 1)) packet.locations)
    ∙ ap (λ n. replicate n cleared ++ drop n packet.locations) e

ends_here : (packet : PacketValue) (asked : List Asking) (outcome : Replacement) (o : Owner) → IsBare packet → packet.current ≤ size_of packet
    → stop_of packet asked ≡ packet.current → outcome_at packet asked (packet.current + 1) ≡ outcome → owner_after packet asked ≡ o → ended_packet packet outcome o ≡ unwound_packet packet asked
ends_here packet asked outcome o b h st out own =
    let e1 : set packet.locations (packet.current - 1) cleared ≡ replicate (stop_of packet asked) cleared ++ drop (stop_of packet asked) packet.locations =
    cleared_here packet b h ∙ ap (λ n. replicate n cleared ++ drop n packet.locations) (sym st) in
    let e2 : outcome ≡ outcome_at packet asked (stop_of packet asked + 1) = sym out ∙ ap (λ n. outcome_at packet asked (n + 1)) (sym st) in
    let e3 : (location_at packet packet.current).pending ≡ pending_returned_at packet (stop_of packet asked) = sym (pending_here packet) ∙ ap (λ n. pending_returned_at packet n) (sym st) in
    λ i. record {
      locations = e1 i;
      current = sym st i + 1;
      status = (e2 i).status;
      information = (e2 i).information;
      pending_returned = e3 i;
      cancel = packet.cancel;
      cancel_routine = packet.cancel_routine;
      owner = sym own i;
      preparation = Nothing;
      slot_held = packet.slot_held;
    }

range_here : (packet : PacketValue) (asked : List Asking) → stop_of packet asked ≡ packet.current → from_to packet.current (stop_of packet asked) ≡ packet.current ∷ []
range_here packet asked st =
    ap (from_to packet.current) st ∙ from_to-cons packet.current packet.current (omega arith) ∙ ap (λ items. packet.current ∷ items) (from_to-last packet.current)

-- the routine that was asked here is the last one
last_asked : (irp : IrpRef) (packet : PacketValue) (asking : Asking) (o : Owner) → IsBare packet → packet.current ≤ size_of packet → is_met_now packet ≡ true → IsAskedNow irp packet asking
    → stop_of packet (asking ∷ []) ≡ packet.current → owner_after packet (asking ∷ []) ≡ o → Unwound irp packet (asking ∷ []) (ended_packet packet (unwrap_or asking.answer.replacement (outcome_of packet)) o)
last_asked irp packet asking o b h met a st own =
    let at : place_of asking ≡ packet.current = place_now irp packet asking a in
    let lt : packet.current < packet.current + 1 = omega arith in
    let from_here : AllByRecursion (λ other_asking. packet.current ≤ place_of other_asking) (asking ∷ []) = (omega (arith, at), tt) in
    let here : is_met_at packet (asking ∷ []) packet.current ≡ true = met_here packet (asking ∷ []) from_here ∙ met in
    let out : outcome_at packet (asking ∷ []) (packet.current + 1) ≡ unwrap_or asking.answer.replacement (outcome_of packet) =
    ap (λ q. last_from (outcome_of packet) (cons_option q [])) (replaced_above irp packet asking a (packet.current + 1) lt)
    ∙ last_from-cons_option (outcome_of packet) asking.answer.replacement [] in
    record {
      asked_right = record {
        places = ap (λ n. n ∷ []) at ∙ sym (ap (filter (is_met_at packet (asking ∷ []))) (range_here packet (asking ∷ []) st) ∙ cond-true _ _ _ here);
        right = (right_now irp packet (asking ∷ []) asking from_here a, tt);
      };
      left = ends_here packet (asking ∷ []) (unwrap_or asking.answer.replacement (outcome_of packet)) o b h st out own;
    }

pub ends_kept : (irp : IrpRef) (packet : PacketValue) (asking : Asking) → IsBare packet → packet.current ≤ size_of packet → is_met_now packet ≡ true → IsAskedNow irp packet asking
    → asking.answer.keep ≡ true → Unwound irp packet (asking ∷ []) (ended_packet packet (unwrap_or asking.answer.replacement (outcome_of packet)) (owner_from (device_above packet packet.current)))
ends_kept irp packet asking b h met a keep =
    let at : place_of asking ≡ packet.current = place_now irp packet asking a in
    let k : keeper_of (asking ∷ []) ≡ Some asking = cond-true _ _ _ keep in
    let st : stop_of packet (asking ∷ []) ≡ packet.current = ap (λ o. option_map_or place_of o (size_of packet)) k ∙ at in
    last_asked irp packet asking _ b h met a st
    (ap (λ o. cond (is_some o) (owner_from (device_above packet (stop_of packet (asking ∷ [])))) Ended) k ∙ ap (λ n. owner_from (device_above packet n)) st)

pub ends_asked : (irp : IrpRef) (packet : PacketValue) (asking : Asking) → IsBare packet → packet.current ≡ size_of packet → is_met_now packet ≡ true → IsAskedNow irp packet asking
    → asking.answer.keep ≡ false → Unwound irp packet (asking ∷ []) (ended_packet packet (unwrap_or asking.answer.replacement (outcome_of packet)) Ended)
ends_asked irp packet asking b h met a keep =
    let k : keeper_of (asking ∷ []) ≡ None = cond-false _ _ _ keep in
    let st : stop_of packet (asking ∷ []) ≡ packet.current = ap (λ o. option_map_or place_of o (size_of packet)) k ∙ sym h in
    let le : packet.current ≤ size_of packet = omega (arith, h) in
    last_asked irp packet asking _ b le met a st
    (ap (λ o. cond (is_some o) (owner_from (device_above packet (stop_of packet (asking ∷ [])))) Ended) k)

pub ends_passed : (irp : IrpRef) (packet : PacketValue) → IsBare packet → packet.current ≡ size_of packet → is_met_now packet ≡ false
    → Unwound irp packet [] (ended_packet packet (outcome_of packet) Ended)
ends_passed irp packet b h met =
    let le : packet.current ≤ size_of packet = omega (arith, h) in
    let here : is_met_at packet [] packet.current ≡ false = met in
    record {
      asked_right = record {
        places = sym (ap (filter (is_met_at packet [])) (range_here packet [] (sym h)) ∙ cond-false _ _ _ here);
        right = tt;
      };
      left = ends_here packet [] (outcome_of packet) Ended b le (sym h) refl refl;
    }
