-- What each way through one turn of the code shows.
use Rattle.std.proofs.Common.{◌≡◌, ◌+◌, ◌-◌, ◌<◌, ◌≤◌, Bool, true, false, cond, not, ◌&&◌, is_some, List, [], ◌∷◌, ◌++◌, map, refl, sym, ◌∙◌, ap, subst, arith, append_assoc, Some, None, unwrap_or, inl, inr}
use Rattle.std.proofs.Math.Bool.{and-false, and-true}
use Rattle.std.proofs.lemmas.Bool.{cond-false}
use Rattle.std.proofs.lemmas.List.{get_or_past, append-nil}
use Rattle.irp_types.specs.Packet.{PacketValue, size_of, location_at, cleared}
use Rattle.irp_types.specs.Unwinding.{as_asked, keeper_of, device_above, owner_from, owner_after, Unwound}
use Rattle.irp_types.specs.declared.location.Owner.{Owner}
use Rattle.irp_types.specs.declared.location.Owner.TheVariants.{Ended as OwnerEnded}
use Rattle.irp_types.specs.declared.location.Location.{Location}
use Rattle.irp_types.specs.declared.location.Preparation.TheVariants.{Nothing}
use Rattle.irp_types.specs.declared.names.IrpRef.{IrpRef}
use Rattle.irp_types.specs.declared.routine.RoutineId.{RoutineId}
use Rattle.irp_types.specs.declared.shown.Shown.{Shown}
use Rattle.irp_types.specs.declared.answer.Answer.{Answer}
use Rattle.irp_types.specs.declared.routine.Known.{Known}
use Rattle.irp_types.specs.declared.asked.Asked.{Asked}
use Rattle.irp_unwind.specs.declared.ending.Ending.{Ending}
use Rattle.irp_unwind.specs.declared.ending.Ending.TheVariants.{Kept, Ended}
use Rattle.irp_unwind.specs.Turns.{outcome_of, IsConsulted, left_locations, left_packet, IsBare, ended_packet, IsMark}
use Rattle.irp_unwind.specs.Conditions.{HasDevices, HasRoutines}
use Rattle.irp_unwind.specs.Endings.{Unwinds}
use Rattle.irp_unwind.proofs.Turns.{Turned}
use Rattle.irp_unwind.proofs.Unwinds.{continue_asked, continue_passed, ends_kept, ends_asked, ends_passed}
use Rattle.irp_unwind.proofs.Left.{turned_left}

pub mark_kept : (packet : PacketValue) (answer : Answer) → IsMark packet answer → answer.keep ≡ true → answer.mark ≡ false
mark_kept packet answer m keep = m ∙ ap (λ b. not b && ((location_at packet packet.current).pending && is_some (device_above packet packet.current))) keep

none_above : (packet : PacketValue) → packet.current ≡ size_of packet → is_some (device_above packet packet.current) ≡ false
none_above packet h =
    let past : size_of packet ≤ (packet.current + 1) - 1 = omega (arith, h) in
    ap (λ (location : Location). is_some location.device) (get_or_past packet.locations ((packet.current + 1) - 1) cleared past)

pub mark_top : (packet : PacketValue) (answer : Answer) → IsMark packet answer → packet.current ≡ size_of packet → answer.mark ≡ false
mark_top packet answer m h =
    m ∙ ap (λ b. not answer.keep && ((location_at packet packet.current).pending && b)) (none_above packet h)
    ∙ ap (λ b. not answer.keep && b) (and-false (location_at packet packet.current).pending) ∙ and-false (not answer.keep)

pub mark_on : (packet : PacketValue) (answer : Answer) → IsMark packet answer → answer.keep ≡ false → is_some (device_above packet packet.current) ≡ true → answer.mark ≡ (location_at packet packet.current).pending
mark_on packet answer m keep d =
    m ∙ ap (λ b. not b && ((location_at packet packet.current).pending && is_some (device_above packet packet.current))) keep
    ∙ ap (λ b. (location_at packet packet.current).pending && b) d ∙ and-true (location_at packet packet.current).pending

left_ended : (packet : PacketValue) (answer : Answer) (o : Owner) → answer.mark ≡ false
    → record (left_packet packet answer) { owner = o } ≡ ended_packet packet (unwrap_or answer.replacement (outcome_of packet)) o
left_ended packet answer o m = λ i. record {
  locations = left_locations packet (m i);
  current = packet.current + 1;
  status = (unwrap_or answer.replacement (outcome_of packet)).status;
  information = (unwrap_or answer.replacement (outcome_of packet)).information;
  pending_returned = (location_at packet packet.current).pending;
  cancel = packet.cancel;
  cancel_routine = packet.cancel_routine;
  owner = o;
  preparation = Nothing;
  slot_held = packet.slot_held;
}

module _ (may : RoutineId → Shown → Answer → Type 0) (irp : IrpRef) (packet : PacketValue) (before : List Asked) where
  -- it was kept here
  pub finish_kept : (after : List Asked) (answer : Answer) → IsBare packet → packet.current ≤ size_of packet → IsConsulted may irp packet before after answer → IsMark packet answer
      → answer.keep ≡ true
      → Unwinds may irp packet (record (left_packet packet answer) { owner = owner_from (device_above packet packet.current) }) before after (Kept (owner_from (device_above packet packet.current)))
  finish_kept after answer b h consulted m keep =
      let Goal : Type 0 = Unwinds may irp packet (record (left_packet packet answer) { owner = owner_from (device_above packet packet.current) }) before after (Kept (owner_from (device_above packet packet.current))) in
      elim consulted as (λ _. Goal) [
        | inl w ↦ let f : answer.keep ≡ false = ap (λ (answer : Answer). answer.keep) w.answered in absurd (cc)
        | inr w ↦
            let asking = w.asking in
            let k : asking.answer.keep ≡ true = sym (ap (λ (answer : Answer). answer.keep) w.answered) ∙ keep in
            let e : record (left_packet packet answer) { owner = owner_from (device_above packet packet.current) } ≡ ended_packet packet (unwrap_or asking.answer.replacement (outcome_of packet)) (owner_from (device_above packet packet.current)) =
            left_ended packet answer (owner_from (device_above packet packet.current)) (mark_kept packet answer m keep)
            ∙ ap (λ (answer : Answer). ended_packet packet (unwrap_or answer.replacement (outcome_of packet)) (owner_from (device_above packet packet.current))) w.answered in
            let unwound : Unwound irp packet (asking ∷ []) (ended_packet packet (unwrap_or asking.answer.replacement (outcome_of packet)) (owner_from (device_above packet packet.current))) = ends_kept irp packet asking b h w.met w.asked k in
            let own : owner_from (device_above packet packet.current) ≡ owner_after packet (asking ∷ []) = ap (λ (q : PacketValue). q.owner) unwound.left in
            record {
              asked = asking ∷ [];
              unwound = subst (λ n. Unwound irp packet (asking ∷ []) n) (sym e) unwound;
              listed = w.listed;
              given = (w.given, tt);
              ended = ap Kept own ∙ sym (ap (λ (q : Bool). cond (is_some (cond q (Some asking) None)) (Kept (owner_after packet (asking ∷ []))) Ended) k);
            }
      ]

  -- it ended here
  pub finish_top : (after : List Asked) (answer : Answer) → IsBare packet → packet.current ≡ size_of packet → IsConsulted may irp packet before after answer → IsMark packet answer
      → answer.keep ≡ false
      → Unwinds may irp packet (record (left_packet packet answer) { owner = OwnerEnded }) before after Ended
  finish_top after answer b h consulted m keep =
      let mark : answer.mark ≡ false = mark_top packet answer m h in
      elim consulted as (λ _. Unwinds may irp packet (record (left_packet packet answer) { owner = OwnerEnded }) before after Ended) [
        | inl w ↦
            let e : record (left_packet packet answer) { owner = OwnerEnded } ≡ ended_packet packet (outcome_of packet) OwnerEnded =
            left_ended packet answer OwnerEnded mark ∙ ap (λ (answer : Answer). ended_packet packet (unwrap_or answer.replacement (outcome_of packet)) OwnerEnded) w.answered in
            record {
              asked = [];
              unwound = subst (λ n. Unwound irp packet [] n) (sym e) (ends_passed irp packet b h w.unmet);
              listed = w.listed ∙ sym (append-nil before);
              given = tt;
              ended = refl;
            }
        | inr w ↦
            let asking = w.asking in
            let k : asking.answer.keep ≡ false = sym (ap (λ (answer : Answer). answer.keep) w.answered) ∙ keep in
            let e : record (left_packet packet answer) { owner = OwnerEnded } ≡ ended_packet packet (unwrap_or asking.answer.replacement (outcome_of packet)) OwnerEnded =
            left_ended packet answer OwnerEnded mark ∙ ap (λ (answer : Answer). ended_packet packet (unwrap_or answer.replacement (outcome_of packet)) OwnerEnded) w.answered in
            record {
              asked = asking ∷ [];
              unwound = subst (λ n. Unwound irp packet (asking ∷ []) n) (sym e) (ends_asked irp packet asking b h w.met w.asked k);
              listed = w.listed;
              given = (w.given, tt);
              ended = sym (ap (λ (q : Bool). cond (is_some (cond q (Some asking) None)) (Kept (owner_after packet (asking ∷ []))) Ended) k);
            }
      ]

  -- it goes on from the next location
  pub continues : (between after : List Asked) (answer : Answer) (new : PacketValue) (end : Ending) → IsBare packet → HasDevices packet (packet.current + 1) → packet.current < size_of packet
      → IsConsulted may irp packet before between answer → IsMark packet answer → answer.keep ≡ false
      → Unwinds may irp (left_packet packet answer) new between after end → Unwinds may irp packet new before after end
  continues between after answer new end b d h consulted m keep unwound =
      let above : is_some (device_above packet packet.current) ≡ true = d.there (packet.current + 1) (omega arith) (omega arith) in
      let mark : answer.mark ≡ (location_at packet packet.current).pending = mark_on packet answer m keep above in
      let turned : Turned packet (left_packet packet answer) (unwrap_or answer.replacement (outcome_of packet)) = turned_left packet answer b.placed h mark in
      let next = left_packet packet answer in
      let later = unwound.asked in
      elim consulted as (λ _. Unwinds may irp packet new before after end) [
        | inl w ↦
            let t' : Turned packet next (outcome_of packet) = subst (λ (answer : Answer). Turned packet next (unwrap_or answer.replacement (outcome_of packet))) w.answered turned in
            let other : Unwound irp packet later new = continue_passed irp packet next new later t' w.unmet h unwound.unwound in
            let own : owner_after next later ≡ owner_after packet later = ap (λ (q : PacketValue). q.owner) (sym unwound.unwound.left ∙ other.left) in
            record {
              asked = later;
              unwound = other;
              listed = unwound.listed ∙ ap (λ items. items ++ map as_asked later) w.listed;
              given = unwound.given;
              ended = unwound.ended ∙ ap (λ o. cond (is_some (keeper_of later)) (Kept o) Ended) own;
            }
        | inr w ↦
            let asking = w.asking in
            let k : asking.answer.keep ≡ false = sym (ap (λ (answer : Answer). answer.keep) w.answered) ∙ keep in
            let t' : Turned packet next (unwrap_or asking.answer.replacement (outcome_of packet)) = subst (λ (answer : Answer). Turned packet next (unwrap_or answer.replacement (outcome_of packet))) w.answered turned in
            let other : Unwound irp packet (asking ∷ later) new = continue_asked irp packet next new asking later t' w.met w.asked k h unwound.unwound in
            let own : owner_after next later ≡ owner_after packet (asking ∷ later) = ap (λ (q : PacketValue). q.owner) (sym unwound.unwound.left ∙ other.left) in
            let kept : keeper_of (asking ∷ later) ≡ keeper_of later = cond-false _ _ _ k in
            record {
              asked = asking ∷ later;
              unwound = other;
              listed = unwound.listed ∙ ap (λ items. items ++ map as_asked later) w.listed ∙ append_assoc before (as_asked asking ∷ []) (map as_asked later);
              given = (w.given, unwound.given);
              ended = unwound.ended ∙ (λ i. cond (is_some (sym kept i)) (Kept (own i)) Ended);
            }
      ]

-- what the next turn needs
pub devices_left : (packet : PacketValue) (answer : Answer) → IsBare packet → packet.current < size_of packet → answer.mark ≡ (location_at packet packet.current).pending → HasDevices packet (packet.current + 1) → HasDevices (left_packet packet answer) (packet.current + 1 + 1)
devices_left packet answer b h mark d =
    let turned : Turned packet (left_packet packet answer) (unwrap_or answer.replacement (outcome_of packet)) = turned_left packet answer b.placed h mark in
    record {
      there = λ number from to.
          let lt : packet.current < number = omega arith in
          let top : number ≤ size_of packet = omega (arith, turned.size) in
          ap is_some (turned.device number lt) ∙ d.there number (omega arith) top;
    }

pub routines_left : (known : Known) (packet : PacketValue) (answer : Answer) → IsBare packet → packet.current < size_of packet → answer.mark ≡ (location_at packet packet.current).pending → HasRoutines known packet packet.current → HasRoutines known (left_packet packet answer) (packet.current + 1)
routines_left known packet answer b h mark d =
    let turned : Turned packet (left_packet packet answer) (unwrap_or answer.replacement (outcome_of packet)) = turned_left packet answer b.placed h mark in
    record {
      there = λ number setting from to e.
          let lt : packet.current < number = omega arith in
          let top : number ≤ size_of packet = omega (arith, turned.size) in
          d.there number setting (omega arith) top (sym (turned.setting number lt) ∙ e);
    }
