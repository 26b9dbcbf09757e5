-- Where each closure has one answer to what it is shown, an unwinding settles what it asks.
use Rattle.std.proofs.Common.{◌≡◌, ℕ, ◌+◌, ◌-◌, ◌<◌, ◌≤◌, zero, suc, Bool, true, false, cond, List, [], ◌∷◌, map, filter, refl, sym, ◌∙◌, ap, subst, arith, Option, Some, None, unwrap_or, inl, inr}
use Rattle.std.specs.List.{filter_map, cons_option, AllByRecursion}
use Rattle.std.specs.Option.{option_map_or}
use Rattle.std.proofs.lemmas.Bool.{cond-true, cond-false, lt-ltb, cases_lt, cases_Bool}
use Rattle.std.proofs.lemmas.List.{get_or_past}
use Rattle.irp_types.specs.Packet.{PacketValue, size_of, location_at, cleared}
use Rattle.irp_types.specs.Unwinding.{Asking, place_of, last_from, replaced_below, outcome_at, is_met_at, from_to, pending_returned_at, keeper_of, stop_of, shown_at, IsAskedRight, unwound_packet, Unwound}
use Rattle.irp_types.specs.declared.location.Location.{Location}
use Rattle.irp_types.specs.declared.names.IrpRef.{IrpRef}
use Rattle.irp_types.specs.declared.routine.RoutineId.{RoutineId}
use Rattle.irp_types.specs.declared.routine.Setting.{Setting}
use Rattle.irp_types.specs.declared.shown.Shown.{Shown}
use Rattle.irp_types.specs.declared.answer.Answer.{Answer}
use Rattle.irp_types.specs.declared.answer.Replacement.{Replacement}
use Rattle.irp_unwind.specs.Turns.{outcome_of, shown_now, is_met_now, left_packet}
use Rattle.irp_unwind.proofs.Lists.{from_to-cons, from_to-last, filter_range_same, above_start, last_from-cons_option}
use Rattle.irp_unwind.proofs.Turns.{Turned, Later, met_later, stop_later, find_above, unwound_later, shown_later, outcome_here, met_here, pending_here}
use Rattle.irp_unwind.proofs.Left.{turned_left}

-- each location asked is at or above the start
from_start : (irp : IrpRef) (packet n : PacketValue) (later : List Asking) → Unwound irp packet later n → AllByRecursion (λ other_asking. packet.current ≤ place_of other_asking) later
from_start irp packet n later unwound = above_start place_of (is_met_at packet later) packet.current _ later unwound.asked_right.places

split_places : (irp : IrpRef) (packet n : PacketValue) (later : List Asking) → packet.current ≤ size_of packet → Unwound irp packet later n
    → map place_of later ≡ cond (is_met_at packet later packet.current) (packet.current ∷ filter (is_met_at packet later) (from_to (packet.current + 1) (stop_of packet later))) (filter (is_met_at packet later) (from_to (packet.current + 1) (stop_of packet later)))
split_places irp packet n later h unwound =
    let le : packet.current ≤ stop_of packet later = find_above packet.current (size_of packet) later (from_start irp packet n later unwound) h in
    unwound.asked_right.places ∙ ap (filter (is_met_at packet later)) (from_to-cons packet.current (stop_of packet later) le)

tail_places : (irp : IrpRef) (packet n : PacketValue) (later : List Asking) → packet.current ≤ size_of packet → is_met_now packet ≡ false → Unwound irp packet later n
    → map place_of later ≡ filter (is_met_at packet later) (from_to (packet.current + 1) (stop_of packet later))
tail_places irp packet n later h met unwound =
    split_places irp packet n later h unwound ∙ cond-false _ _ _ (met_here packet later (from_start irp packet n later unwound) ∙ met)

all_places : (irp : IrpRef) (packet n : PacketValue) (later : List Asking) → packet.current ≤ size_of packet → is_met_now packet ≡ true → Unwound irp packet later n
    → map place_of later ≡ packet.current ∷ filter (is_met_at packet later) (from_to (packet.current + 1) (stop_of packet later))
all_places irp packet n later h met unwound =
    split_places irp packet n later h unwound ∙ cond-true _ _ _ (met_here packet later (from_start irp packet n later unwound) ∙ met)

-- nothing stands above the top
no_more : (irp : IrpRef) (packet : PacketValue) (asked later : List Asking) → packet.current ≡ size_of packet → AllByRecursion (λ other_asking. packet.current + 1 ≤ place_of other_asking) later → AllByRecursion (IsAskedRight irp packet asked) later → later ≡ []
no_more irp packet asked [] top above right = refl
no_more irp packet asked (asking ∷ later) top above right =
    let past : size_of packet ≤ place_of asking - 1 = omega (arith, top, above.0) in
    let none : (location_at packet (place_of asking)).setting ≡ None = ap (λ (location : Location). location.setting) (get_or_past packet.locations (place_of asking - 1) cleared past) in
    let some : (location_at packet (place_of asking)).setting ≡ Some right.0.0 = right.0.1 in
    absurd (cc)

-- what was right from packet on is right from next on
right_earlier : (irp : IrpRef) (packet next : PacketValue) (outcome : Replacement) (asked later : List Asking) → Turned packet next outcome → Later packet next asked later → (xs : List Asking)
    → AllByRecursion (λ other_asking. packet.current + 1 ≤ place_of other_asking) xs → AllByRecursion (IsAskedRight irp packet asked) xs → AllByRecursion (IsAskedRight irp next later) xs
right_earlier irp packet next outcome asked later turned agreed [] above all = tt
right_earlier irp packet next outcome asked later turned agreed (asking ∷ xs) above all =
    let h : packet.current < place_of asking = omega (arith, above.0) in
    let a = all.0 in (
      (a.0, turned.setting (place_of asking) h ∙ a.1, a.2, a.3 ∙ sym (shown_later irp packet next outcome asked later turned agreed (place_of asking) h a.0), a.4),
      right_earlier irp packet next outcome asked later turned agreed xs above.1 all.1,
    )

-- the rest of an unwinding is one from the next location
earlier : (irp : IrpRef) (packet next n : PacketValue) (outcome : Replacement) (asked later : List Asking) → Turned packet next outcome → Later packet next asked later → packet.current < size_of packet
    → AllByRecursion (λ other_asking. packet.current + 1 ≤ place_of other_asking) later
    → map place_of later ≡ filter (is_met_at packet asked) (from_to (packet.current + 1) (stop_of packet asked))
    → AllByRecursion (IsAskedRight irp packet asked) later → n ≡ unwound_packet packet asked → Unwound irp next later n
earlier irp packet next n outcome asked later turned agreed h above places right left =
    let st : stop_of next later ≡ stop_of packet asked = stop_later packet next outcome asked later turned agreed in
    let sz : packet.current + 1 ≤ size_of next = omega (arith, turned.size) in
    let up : packet.current + 1 ≤ stop_of next later = find_above (packet.current + 1) (size_of next) later above sz in
    let lt : packet.current < stop_of next later = omega (arith, up) in
    let e1 : filter (is_met_at next later) (from_to next.current (stop_of next later)) ≡ filter (is_met_at next later) (from_to (packet.current + 1) (stop_of packet asked)) =
    λ i. filter (is_met_at next later) (from_to (turned.current i) (st i)) in
    let e2 : filter (is_met_at packet asked) (from_to (packet.current + 1) (stop_of packet asked)) ≡ filter (is_met_at next later) (from_to (packet.current + 1) (stop_of packet asked)) =
    filter_range_same (is_met_at packet asked) (is_met_at next later) (packet.current + 1) _ (λ k a. met_later packet next outcome asked later turned agreed k (omega arith)) in
    record {
      asked_right = record { places = places ∙ e2 ∙ sym e1; right = right_earlier irp packet next outcome asked later turned agreed later above right };
      left = left ∙ sym (unwound_later packet next outcome asked later turned agreed lt);
    }

later_passed : (packet next : PacketValue) (later : List Asking) → Turned packet next (outcome_of packet) → Later packet next later later
later_passed packet next later turned = record {
  outcome = λ number g. (λ i. last_from (record { status = sym turned.status i; information = sym turned.information i }) (filter_map (replaced_below number) later));
  keeper = refl;
}

later_asked : (packet next : PacketValue) (asking : Asking) (later : List Asking) → place_of asking ≡ packet.current → asking.answer.keep ≡ false → Turned packet next (unwrap_or asking.answer.replacement (outcome_of packet)) → Later packet next (asking ∷ later) later
later_asked packet next asking later at keep turned = record {
  outcome = λ number g.
      let lt : place_of asking < number = omega (arith, at) in
      let e : replaced_below number asking ≡ asking.answer.replacement = cond-true _ _ _ (lt-ltb (place_of asking) number lt) in
      ap (λ o. last_from (outcome_of packet) (cons_option o (filter_map (replaced_below number) later))) e
      ∙ last_from-cons_option (outcome_of packet) asking.answer.replacement (filter_map (replaced_below number) later)
      ∙ (λ i. last_from (record { status = sym turned.status i; information = sym turned.information i }) (filter_map (replaced_below number) later));
  keeper = cond-false _ _ _ keep;
}

-- the mark is the one of the location
passing : PacketValue → Option Replacement → Answer
passing packet outcome = record { keep = false; mark = (location_at packet packet.current).pending; replacement = outcome }

abbrev next_packet : PacketValue → Option Replacement → PacketValue
next_packet packet outcome = left_packet packet (record { keep = false; mark = (location_at packet packet.current).pending; replacement = outcome })

next_turned : (packet : PacketValue) (outcome : Option Replacement) → 1 ≤ packet.current → packet.current < size_of packet → Turned packet (next_packet packet outcome) (unwrap_or outcome (outcome_of packet))
next_turned packet outcome some h = turned_left packet (record { keep = false; mark = (location_at packet packet.current).pending; replacement = outcome }) some h refl

-- the first routine is the one of the current location, and was shown what stands there
pub record IsFirst (irp : IrpRef) (packet : PacketValue) (asking : Asking) : Type 0 where
  pub setting : Setting
  pub at : (location_at packet packet.current).setting ≡ Some setting
  pub id : asking.id ≡ setting.routine
  pub shown : asking.shown ≡ shown_now irp packet setting

first_is : (irp : IrpRef) (packet : PacketValue) (asked : List Asking) (asking : Asking) → AllByRecursion (λ other_asking. packet.current ≤ place_of other_asking) asked → place_of asking ≡ packet.current → IsAskedRight irp packet asked asking → IsFirst irp packet asking
first_is irp packet asked asking above at right =
    let o : outcome_at packet asked packet.current ≡ outcome_of packet = outcome_here packet asked above in
    let q : pending_returned_at packet packet.current ≡ (location_at packet packet.current).pending = pending_here packet in
    let setting = right.0 in
    let e : shown_at irp packet asked packet.current setting ≡ shown_now irp packet setting = λ i. record {
      device = (location_at packet (packet.current + 1)).device;
      irp = irp;
      major = (location_at packet packet.current).major;
      location = packet.current;
      word = (location_at packet packet.current).word;
      status = (o i).status;
      information = (o i).information;
      pending_returned = q i;
      cancel = packet.cancel;
      context = setting.context;
      has_lower = false;
    } in
    record {
      setting = setting;
      at = sym (ap (λ number. (location_at packet number).setting) at) ∙ right.1;
      id = right.2;
      shown = right.3 ∙ ap (λ number. shown_at irp packet asked number setting) at ∙ e;
    }

module _ (may : RoutineId → Shown → Answer → Type 0) (one : (id : RoutineId) (shown : Shown) (a b : Answer) → may id shown a → may id shown b → a ≡ b) (irp : IrpRef) where
  -- two first routines are one
  same_first : (packet : PacketValue) (asking other_asking : Asking) → IsFirst irp packet asking → IsFirst irp packet other_asking → may asking.id asking.shown asking.answer → may other_asking.id other_asking.shown other_asking.answer → asking ≡ other_asking
  same_first packet asking other_asking f g mx my =
      let both : Some f.setting ≡ Some g.setting = sym f.at ∙ g.at in
      let setting : f.setting ≡ g.setting = cc in
      let e1 : asking.id ≡ other_asking.id = f.id ∙ ap (λ (given : Setting). given.routine) setting ∙ sym g.id in
      let e2 : asking.shown ≡ other_asking.shown = f.shown ∙ ap (shown_now irp packet) setting ∙ sym g.shown in
      let mx' : may other_asking.id other_asking.shown asking.answer = subst (λ (z : RoutineId × Shown). may z.0 z.1 asking.answer) (λ i. (e1 i, e2 i)) mx in
      let e3 : asking.answer ≡ other_asking.answer = one other_asking.id other_asking.shown asking.answer other_asking.answer mx' my in
      λ i. record { id = e1 i; shown = e2 i; answer = e3 i }

  nothing_placed : (later : List Asking) → map place_of later ≡ [] → later ≡ []
  nothing_placed [] e = refl
  nothing_placed (asking ∷ later) e = absurd (cc)

  -- after one that keeps, nobody is asked
  kept_alone : (packet n : PacketValue) (asking : Asking) (later : List Asking) → packet.current ≤ size_of packet → is_met_now packet ≡ true → Unwound irp packet (asking ∷ later) n → asking.answer.keep ≡ true → later ≡ []
  kept_alone packet n asking later h met unwound keep =
      let all : place_of asking ∷ map place_of later ≡ packet.current ∷ filter (is_met_at packet (asking ∷ later)) (from_to (packet.current + 1) (stop_of packet (asking ∷ later))) = all_places irp packet n (asking ∷ later) h met unwound in
      let at : place_of asking ≡ packet.current = cc in
      let tail : map place_of later ≡ filter (is_met_at packet (asking ∷ later)) (from_to (packet.current + 1) (stop_of packet (asking ∷ later))) = cc in
      let k : keeper_of (asking ∷ later) ≡ Some asking = cond-true _ _ _ keep in
      let st : stop_of packet (asking ∷ later) ≡ packet.current = ap (λ o. option_map_or place_of o (size_of packet)) k ∙ at in
      nothing_placed later (tail ∙ ap (filter (is_met_at packet (asking ∷ later))) (ap (from_to (packet.current + 1)) st ∙ from_to-last packet.current))

  -- both lists go on from the current location, and what comes later agrees
  step_same : (packet n m : PacketValue) (later asked : List Asking) (b : Bool) → is_met_now packet ≡ b → 1 ≤ packet.current → packet.current ≤ size_of packet
      → Unwound irp packet later n → Unwound irp packet asked m
      → AllByRecursion (λ asking. may asking.id asking.shown asking.answer) later → AllByRecursion (λ asking. may asking.id asking.shown asking.answer) asked
      → ((next : PacketValue) (outcome : Replacement) → Turned packet next outcome → packet.current < size_of packet → (A' B' : List Asking) → Unwound irp next A' n → Unwound irp next B' m
      → AllByRecursion (λ asking. may asking.id asking.shown asking.answer) A' → AllByRecursion (λ asking. may asking.id asking.shown asking.answer) B' → A' ≡ B')
      → later ≡ asked
  step_same packet n m later asked false met some h unwound other ma mb rec =
      let ta = tail_places irp packet n later h met unwound in
      let tb = tail_places irp packet m asked h met other in
      let ab : AllByRecursion (λ other_asking. packet.current + 1 ≤ place_of other_asking) later = above_start place_of (is_met_at packet later) (packet.current + 1) _ later ta in
      let bb : AllByRecursion (λ other_asking. packet.current + 1 ≤ place_of other_asking) asked = above_start place_of (is_met_at packet asked) (packet.current + 1) _ asked tb in
      elim (cases_lt packet.current (size_of packet)) as (λ _. later ≡ asked) [
        | inl lt ↦
            let turned = next_turned packet None some lt in
            rec (next_packet packet None) (outcome_of packet) turned lt later asked
            (earlier irp packet (next_packet packet None) n (outcome_of packet) later later turned (later_passed packet (next_packet packet None) later turned) lt ab ta unwound.asked_right.right unwound.left)
            (earlier irp packet (next_packet packet None) m (outcome_of packet) asked asked turned (later_passed packet (next_packet packet None) asked turned) lt bb tb other.asked_right.right other.left)
            ma mb
        | inr ge ↦
            let top : packet.current ≡ size_of packet = omega arith in
            no_more irp packet later later top ab unwound.asked_right.right ∙ sym (no_more irp packet asked asked top bb other.asked_right.right)
      ]
  step_same packet n m [] asked true met some h unwound other ma mb rec =
      let e : ◌≡◌ {A = List ℕ} [] (packet.current ∷ filter (is_met_at packet []) (from_to (packet.current + 1) (stop_of packet []))) = all_places irp packet n [] h met unwound in
      absurd (cc)
  step_same packet n m (asking ∷ later) [] true met some h unwound other ma mb rec =
      let e : ◌≡◌ {A = List ℕ} [] (packet.current ∷ filter (is_met_at packet []) (from_to (packet.current + 1) (stop_of packet []))) = all_places irp packet m [] h met other in
      absurd (cc)
  step_same packet n m (asking ∷ later) (other_asking ∷ asked) true met some h unwound other ma mb rec =
      let ea : place_of asking ∷ map place_of later ≡ packet.current ∷ filter (is_met_at packet (asking ∷ later)) (from_to (packet.current + 1) (stop_of packet (asking ∷ later))) = all_places irp packet n (asking ∷ later) h met unwound in
      let eb : place_of other_asking ∷ map place_of asked ≡ packet.current ∷ filter (is_met_at packet (other_asking ∷ asked)) (from_to (packet.current + 1) (stop_of packet (other_asking ∷ asked))) = all_places irp packet m (other_asking ∷ asked) h met other in
      let ax : place_of asking ≡ packet.current = head_is ea in
      let ay : place_of other_asking ≡ packet.current = head_is eb in
      let ta : map place_of later ≡ filter (is_met_at packet (asking ∷ later)) (from_to (packet.current + 1) (stop_of packet (asking ∷ later))) = tail_is ea in
      let tb : map place_of asked ≡ filter (is_met_at packet (other_asking ∷ asked)) (from_to (packet.current + 1) (stop_of packet (other_asking ∷ asked))) = tail_is eb in
      let ab : AllByRecursion (λ z. packet.current + 1 ≤ place_of z) later = above_start place_of (is_met_at packet (asking ∷ later)) (packet.current + 1) _ later ta in
      let bb : AllByRecursion (λ z. packet.current + 1 ≤ place_of z) asked = above_start place_of (is_met_at packet (other_asking ∷ asked)) (packet.current + 1) _ asked tb in
      let f = first_is irp packet (asking ∷ later) asking (from_start irp packet n (asking ∷ later) unwound) ax unwound.asked_right.right.0 in
      let g = first_is irp packet (other_asking ∷ asked) other_asking (from_start irp packet m (other_asking ∷ asked) other) ay other.asked_right.right.0 in
      let xy : asking ≡ other_asking = same_first packet asking other_asking f g ma.0 mb.0 in
      let rest : later ≡ asked = elim (cases_Bool asking.answer.keep) as (λ _. later ≡ asked) [
        | inl kept ↦
            let kept_y : other_asking.answer.keep ≡ true = ap (λ (one : Asking). one.answer.keep) (sym xy) ∙ kept in
            kept_alone packet n asking later h met unwound kept ∙ sym (kept_alone packet m other_asking asked h met other kept_y)
        | inr on ↦
            let on_y : other_asking.answer.keep ≡ false = ap (λ (one : Asking). one.answer.keep) (sym xy) ∙ on in
            elim (cases_lt packet.current (size_of packet)) as (λ _. later ≡ asked) [
              | inl lt ↦
                  let q = asking.answer.replacement in
                  let same : asking.answer.replacement ≡ other_asking.answer.replacement = ap (λ (one : Asking). one.answer.replacement) xy in
                  let turned = next_turned packet q some lt in
                  let ty : Turned packet (next_packet packet q) (unwrap_or other_asking.answer.replacement (outcome_of packet)) =
                  subst (λ o. Turned packet (next_packet packet q) (unwrap_or o (outcome_of packet))) same turned in
                  rec (next_packet packet q) (unwrap_or q (outcome_of packet)) turned lt later asked
                  (earlier irp packet (next_packet packet q) n (unwrap_or q (outcome_of packet)) (asking ∷ later) later turned (later_asked packet (next_packet packet q) asking later ax on turned) lt ab ta unwound.asked_right.right.1 unwound.left)
                  (earlier irp packet (next_packet packet q) m (unwrap_or other_asking.answer.replacement (outcome_of packet)) (other_asking ∷ asked) asked ty (later_asked packet (next_packet packet q) other_asking asked ay on_y ty) lt bb tb other.asked_right.right.1 other.left)
                  ma.1 mb.1
              | inr ge ↦
                  let top : packet.current ≡ size_of packet = omega arith in
                  no_more irp packet (asking ∷ later) later top ab unwound.asked_right.right.1 ∙ sym (no_more irp packet (other_asking ∷ asked) asked top bb other.asked_right.right.1)
            ]
      ] in
      λ i. xy i ∷ rest i
    where
      head_is : {a b : ℕ} {xs ys : List ℕ} → a ∷ xs ≡ b ∷ ys → a ≡ b
      head_is e = cc

      tail_is : {a b : ℕ} {xs ys : List ℕ} → a ∷ xs ≡ b ∷ ys → xs ≡ ys
      tail_is e = cc

  -- what is asked is settled
  pub same_asking : (fuel : ℕ) (packet n m : PacketValue) (later asked : List Asking) → 1 ≤ packet.current → packet.current ≤ size_of packet → size_of packet ≤ packet.current + fuel
      → Unwound irp packet later n → Unwound irp packet asked m
      → AllByRecursion (λ asking. may asking.id asking.shown asking.answer) later → AllByRecursion (λ asking. may asking.id asking.shown asking.answer) asked → later ≡ asked
  same_asking zero packet n m later asked some h f unwound other ma mb =
      step_same packet n m later asked (is_met_now packet) refl some h unwound other ma mb (λ next outcome turned lt A' B' u' v' ma' mb'. absurd (omega arith))
  same_asking (suc fuel) packet n m later asked some h f unwound other ma mb =
      step_same packet n m later asked (is_met_now packet) refl some h unwound other ma mb (λ next outcome turned lt A' B' u' v' ma' mb'.
      let c : next.current ≡ packet.current + 1 = turned.current in
      let setting : size_of next ≡ size_of packet = turned.size in
      same_asking fuel next n m A' B' (omega arith) (omega arith) (omega arith) u' v' ma' mb')
