-- What stands below the current location is no part of an unwinding.
use Rattle.std.proofs.Common.{◌≡◌, ℕ, ◌+◌, ◌-◌, ◌<◌, ◌≤◌, zero, suc, false, cond, is_some, List, [], ◌∷◌, ◌++◌, filter, length, drop, take, set, get_or, replicate, refl, sym, ◌∙◌, ap, arith}
use Rattle.std.specs.List.{AllByRecursion}
use Rattle.std.specs.Option.{option_map_or}
use Rattle.irp_types.specs.Packet.{PacketValue, size_of, location_at, cleared}
use Rattle.irp_types.specs.Unwinding.{Asking, place_of, outcome_at, is_met_at, from_to, pending_returned_at, keeper_of, stop_of, device_above, shown_at, IsAskedRight, owner_from, owner_after, unwound_packet, Unwound}
use Rattle.irp_types.specs.declared.location.Owner.TheVariants.{Ended}
use Rattle.irp_types.specs.declared.location.Location.{Location}
use Rattle.irp_types.specs.declared.location.Preparation.TheVariants.{Nothing}
use Rattle.irp_types.specs.declared.names.IrpRef.{IrpRef}
use Rattle.irp_types.specs.declared.routine.RoutineId.{RoutineId}
use Rattle.irp_types.specs.declared.routine.Known.{Known}
use Rattle.irp_types.specs.declared.routine.Setting.{Setting}
use Rattle.irp_types.specs.declared.shown.Shown.{Shown}
use Rattle.irp_types.specs.declared.answer.Answer.{Answer}
use Rattle.irp_types.specs.declared.asked.Asked.{Asked}
use Rattle.irp_unwind.specs.declared.ending.Ending.{Ending}
use Rattle.irp_unwind.specs.declared.ending.Ending.TheVariants.{Kept, Ended as HasEnded}
use Rattle.irp_unwind.specs.Turns.{is_met, IsBare, bared}
use Rattle.irp_unwind.specs.Conditions.{HasDevices, HasRoutines}
use Rattle.irp_unwind.specs.Endings.{Unwinds}
use Rattle.irp_unwind.proofs.Lists.{filter_range_same, any_range_same, above_start}
use Rattle.irp_unwind.proofs.Turns.{find_above}

pub cleared_more : {X : Type 0} (n : ℕ) (a : X) (l : List X) → n < length l → set (replicate n a ++ drop n l) n a ≡ replicate (suc n) a ++ drop (suc n) l
cleared_more n a [] h = absurd (omega arith)
cleared_more zero a (asking ∷ xs) h = refl
cleared_more (suc n) a (asking ∷ xs) h = ap (λ items. a ∷ items) (cleared_more n a xs (omega arith))

pub get_or_bared : {X : Type 0} (n : ℕ) (a : X) (l : List X) (k : ℕ) (d : X) → n ≤ k → n ≤ length l → get_or (replicate n a ++ drop n l) k d ≡ get_or l k d
get_or_bared zero a l k d h g = refl
get_or_bared (suc n) a [] k d h g = absurd (omega arith)
get_or_bared (suc n) a (asking ∷ xs) zero d h g = absurd (omega arith)
get_or_bared (suc n) a (asking ∷ xs) (suc k) d h g = get_or_bared n a xs k d (omega arith) (omega arith)

drop_bared : {X : Type 0} (n : ℕ) (a : X) (l : List X) (m : ℕ) → n ≤ m → n ≤ length l → drop m (replicate n a ++ drop n l) ≡ drop m l
drop_bared zero a l m h g = refl
drop_bared (suc n) a [] m h g = absurd (omega arith)
drop_bared (suc n) a (asking ∷ xs) zero h g = absurd (omega arith)
drop_bared (suc n) a (asking ∷ xs) (suc m) h g = drop_bared n a xs m (omega arith) (omega arith)

pub length_bared : {X : Type 0} (n : ℕ) (a : X) (l : List X) → n ≤ length l → length (replicate n a ++ drop n l) ≡ length l
length_bared zero a l g = refl
length_bared (suc n) a [] g = absurd (omega arith)
length_bared (suc n) a (asking ∷ xs) g = ap suc (length_bared n a xs (omega arith))

take_bared : {X : Type 0} (n : ℕ) (a : X) (ys : List X) → take n (replicate n a ++ ys) ≡ replicate n a
take_bared zero a ys = refl
take_bared (suc n) a ys = ap (λ items. a ∷ items) (take_bared n a ys)

pub is_bare : (packet : PacketValue) → 1 ≤ packet.current → IsBare (bared packet)
is_bare packet some = record { placed = some; below = take_bared (packet.current - 1) cleared (drop (packet.current - 1) packet.locations) }

module _ (packet : PacketValue) (some : 1 ≤ packet.current) (h : packet.current ≤ size_of packet) where
  here : (number : ℕ) → packet.current ≤ number → location_at (bared packet) number ≡ location_at packet number
  here number a = get_or_bared (packet.current - 1) cleared packet.locations (number - 1) cleared (omega arith) (omega arith)

  pub size_bared : size_of (bared packet) ≡ size_of packet
  size_bared = length_bared (packet.current - 1) cleared packet.locations (omega arith)

  met_bared : (later : List Asking) (number : ℕ) → packet.current ≤ number → is_met_at (bared packet) later number ≡ is_met_at packet later number
  met_bared later number a = ap (λ (location : Location). is_met location.setting packet.cancel (outcome_at packet later number).status) (here number a)

  pending_bared : (number : ℕ) → pending_returned_at (bared packet) number ≡ pending_returned_at packet number
  pending_bared number = any_range_same (λ k. (location_at (bared packet) k).pending) (λ k. (location_at packet k).pending) packet.current ((number + 1) - packet.current) (λ k a. ap (λ (location : Location). location.pending) (here k a))

  stop_bared : (later : List Asking) → stop_of (bared packet) later ≡ stop_of packet later
  stop_bared later = ap (option_map_or place_of (keeper_of later)) size_bared

  shown_bared : (irp : IrpRef) (later : List Asking) (number : ℕ) → packet.current ≤ number → (setting : Setting) → shown_at irp (bared packet) later number setting ≡ shown_at irp packet later number setting
  shown_bared irp later number a setting =
      let up : packet.current ≤ number + 1 = omega arith in
      λ i. record {
        device = (here (number + 1) up i).device;
        irp = irp;
        major = (here number a i).major;
        location = number;
        word = (here number a i).word;
        status = (outcome_at packet later number).status;
        information = (outcome_at packet later number).information;
        pending_returned = pending_bared number i;
        cancel = packet.cancel;
        context = setting.context;
        has_lower = false;
      }

  rights_bared : (irp : IrpRef) (later xs : List Asking) → AllByRecursion (λ other_asking. packet.current ≤ place_of other_asking) xs → AllByRecursion (IsAskedRight irp (bared packet) later) xs → AllByRecursion (IsAskedRight irp packet later) xs
  rights_bared irp later [] above all = tt
  rights_bared irp later (asking ∷ xs) above all =
      let a = all.0 in (
        (a.0, sym (ap (λ (location : Location). location.setting) (here (place_of asking) above.0)) ∙ a.1, a.2, a.3 ∙ shown_bared irp later (place_of asking) above.0 a.0, a.4),
        rights_bared irp later xs above.1 all.1,
      )

  left_bared : (later : List Asking) → packet.current ≤ stop_of (bared packet) later → unwound_packet (bared packet) later ≡ unwound_packet packet later
  left_bared later a =
      let st : stop_of (bared packet) later ≡ stop_of packet later = stop_bared later in
      let up : packet.current ≤ stop_of (bared packet) later + 1 = omega arith in
      let dr : drop (stop_of (bared packet) later) (bared packet).locations ≡ drop (stop_of packet later) packet.locations =
      drop_bared (packet.current - 1) cleared packet.locations (stop_of (bared packet) later) (omega arith) (omega arith) ∙ ap (λ n. drop n packet.locations) st in
      let q : pending_returned_at (bared packet) (stop_of (bared packet) later) ≡ pending_returned_at packet (stop_of packet later) = pending_bared (stop_of (bared packet) later) ∙ ap (pending_returned_at packet) st in
      let d : device_above (bared packet) (stop_of (bared packet) later) ≡ device_above packet (stop_of packet later) =
      ap (λ (location : Location). location.device) (here (stop_of (bared packet) later + 1) up) ∙ ap (device_above packet) st in
      λ i. record {
        locations = replicate (st i) cleared ++ dr i;
        current = st i + 1;
        status = (outcome_at packet later (st i + 1)).status;
        information = (outcome_at packet later (st i + 1)).information;
        pending_returned = q i;
        cancel = packet.cancel;
        cancel_routine = packet.cancel_routine;
        owner = cond (is_some (keeper_of later)) (owner_from (d i)) Ended;
        preparation = Nothing;
        slot_held = packet.slot_held;
      }

  pub unwound_bared : (irp : IrpRef) (later : List Asking) (new : PacketValue) → Unwound irp (bared packet) later new → Unwound irp packet later new
  unwound_bared irp later new unwound =
      let above : AllByRecursion (λ other_asking. packet.current ≤ place_of other_asking) later = above_start place_of (is_met_at (bared packet) later) packet.current _ later unwound.asked_right.places in
      let sz : packet.current ≤ size_of (bared packet) = omega (arith, size_bared) in
      let stop : packet.current ≤ stop_of (bared packet) later = find_above packet.current (size_of (bared packet)) later above sz in
      record {
        asked_right = record {
          places = unwound.asked_right.places ∙ ap (λ n. filter (is_met_at (bared packet) later) (from_to packet.current n)) (stop_bared later)
              ∙ filter_range_same (is_met_at (bared packet) later) (is_met_at packet later) packet.current _ (λ k a. met_bared later k a);
          right = rights_bared irp later later above unwound.asked_right.right;
        };
        left = unwound.left ∙ left_bared later stop;
      }

  pub unwinds_bared : (may : RoutineId → Shown → Answer → Type 0) (irp : IrpRef) (new : PacketValue) (before after : List Asked) (end : Ending)
      → Unwinds may irp (bared packet) new before after end → Unwinds may irp packet new before after end
  unwinds_bared may irp new before after end unwound =
      let other : Unwound irp packet unwound.asked new = unwound_bared irp unwound.asked new unwound.unwound in
      let own : owner_after (bared packet) unwound.asked ≡ owner_after packet unwound.asked = ap (λ (q : PacketValue). q.owner) (sym unwound.unwound.left ∙ other.left) in
      record {
        asked = unwound.asked;
        unwound = other;
        listed = unwound.listed;
        given = unwound.given;
        ended = unwound.ended ∙ ap (λ o. cond (is_some (keeper_of unwound.asked)) (Kept o) HasEnded) own;
      }

  pub devices_bared : HasDevices packet (packet.current + 1) → HasDevices (bared packet) (packet.current + 1)
  devices_bared d = record {
    there = λ number from to.
        let top : number ≤ size_of packet = omega (arith, size_bared) in
        ap (λ (location : Location). is_some location.device) (here number (omega arith)) ∙ d.there number from top;
  }

  pub routines_bared : (known : Known) → HasRoutines known packet packet.current → HasRoutines known (bared packet) packet.current
  routines_bared known d = record {
    there = λ number setting from to e.
        let top : number ≤ size_of packet = omega (arith, size_bared) in
        d.there number setting from top (sym (ap (λ (location : Location). location.setting) (here number from)) ∙ e);
  }
