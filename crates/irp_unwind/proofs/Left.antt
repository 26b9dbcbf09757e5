-- What leaving a location does.
use Rattle.std.proofs.Common.{◌≡◌, ℕ, ◌+◌, ◌-◌, ◌<◌, ◌≤◌, ◌≢◌, suc, Bool, true, false, ◌||◌, [], ◌∷◌, ◌++◌, length, drop, take, set, get_or, replicate, refl, sym, ◌∙◌, ap, arith, unwrap_or, inl, inr}
use Rattle.std.proofs.Math.Bool.{or-false, or-true}
use Rattle.std.proofs.lemmas.Bool.{cases_eq}
use Rattle.std.proofs.lemmas.List.{get_or-set_same, get_or-set_other, drop-set-lt, take-set-le, length-set, append-nil}
use Rattle.std.proofs.lemmas.Grind.{take-set_at}
use Rattle.irp_types.specs.Packet.{PacketValue, size_of, location_at, cleared}
use Rattle.irp_types.specs.declared.location.Location.{Location}
use Rattle.irp_types.specs.declared.answer.Answer.{Answer}
use Rattle.irp_unwind.specs.Turns.{outcome_of, marked, left_locations, left_packet, IsBare}
use Rattle.irp_unwind.proofs.Turns.{Turned}
use Rattle.irp_unwind.proofs.Unwinds.{replicate_then}

pub length_left : (packet : PacketValue) (m : Bool) → length (left_locations packet m) ≡ size_of packet
length_left packet true = length-set _ _ _ ∙ length-set _ _ _
length_left packet false = length-set _ _ _

far_left : (packet : PacketValue) (m : Bool) (k : ℕ) → 1 ≤ packet.current → packet.current < k → get_or (left_locations packet m) k cleared ≡ get_or packet.locations k cleared
far_left packet true k some h =
    let n1 : k ≢ packet.current = omega arith in
    let n2 : k ≢ packet.current - 1 = omega arith in
    let bare = set packet.locations (packet.current - 1) cleared in
    get_or-set_other bare packet.current k (marked (get_or bare packet.current cleared)) cleared n1
    ∙ get_or-set_other packet.locations (packet.current - 1) k cleared cleared n2
far_left packet false k some h =
    let n2 : k ≢ packet.current - 1 = omega arith in
    get_or-set_other packet.locations (packet.current - 1) k cleared cleared n2

near_left : (packet : PacketValue) (m : Bool) → 1 ≤ packet.current → packet.current < size_of packet
    → get_or (left_locations packet m) packet.current cleared ≡ record (get_or packet.locations packet.current cleared) { pending = (get_or packet.locations packet.current cleared).pending || m }
near_left packet true some h =
    let bare = set packet.locations (packet.current - 1) cleared in
    let n2 : packet.current ≢ packet.current - 1 = omega arith in
    let lt : packet.current < length bare = omega (arith, length-set packet.locations (packet.current - 1) cleared) in
    get_or-set_same bare packet.current (marked (get_or bare packet.current cleared)) cleared lt
    ∙ ap marked (get_or-set_other packet.locations (packet.current - 1) packet.current cleared cleared n2)
    ∙ ap (λ b. record (get_or packet.locations packet.current cleared) { pending = b }) (sym (or-true (get_or packet.locations packet.current cleared).pending))
near_left packet false some h =
    let n2 : packet.current ≢ packet.current - 1 = omega arith in
    get_or-set_other packet.locations (packet.current - 1) packet.current cleared cleared n2
    ∙ ap (λ b. record (get_or packet.locations packet.current cleared) { pending = b }) (sym (or-false (get_or packet.locations packet.current cleared).pending))

drop_left : (packet : PacketValue) (m : Bool) (n : ℕ) → packet.current < n → drop n (left_locations packet m) ≡ drop n packet.locations
drop_left packet true n h =
    let l2 : packet.current - 1 < n = omega arith in
    drop-set-lt _ _ _ _ h ∙ drop-set-lt _ _ _ _ l2
drop_left packet false n h = let l2 : packet.current - 1 < n = omega arith in drop-set-lt _ _ _ _ l2

same_field : {X : Type 0} (f : Location → X) → ((l : Location) (b : Bool) → f (record l { pending = b }) ≡ f l)
    → (packet : PacketValue) (m : Bool) → 1 ≤ packet.current → packet.current < size_of packet → (number : ℕ) → packet.current < number
    → f (get_or (left_locations packet m) (number - 1) cleared) ≡ f (get_or packet.locations (number - 1) cleared)
same_field {X} f inv packet m some h number above =
    elim (cases_eq (number - 1) packet.current) as (λ _. f (get_or (left_locations packet m) (number - 1) cleared) ≡ f (get_or packet.locations (number - 1) cleared)) [
      | inl e ↦
          ap (λ k. f (get_or (left_locations packet m) k cleared)) e
          ∙ ap f (near_left packet m some h)
          ∙ inv (get_or packet.locations packet.current cleared) ((get_or packet.locations packet.current cleared).pending || m)
          ∙ ap (λ k. f (get_or packet.locations k cleared)) (sym e)
      | inr ne ↦
          let lt : packet.current < number - 1 = omega (arith, ne) in
          ap f (far_left packet m (number - 1) some lt)
    ]

-- a turn that goes on: the mark is the current location's pending bit
pub turned_left : (packet : PacketValue) (answer : Answer) → 1 ≤ packet.current → packet.current < size_of packet
    → answer.mark ≡ (location_at packet packet.current).pending → Turned packet (left_packet packet answer) (unwrap_or answer.replacement (outcome_of packet))
turned_left packet answer some h mark =
    let one : (packet.current + 1) - 1 ≡ packet.current = omega arith in
    record {
      size = length_left packet answer.mark;
      current = refl;
      status = refl;
      information = refl;
      cancel = refl;
      cancel_routine = refl;
      slot_held = refl;
      device = λ number a. same_field (λ items. items.device) (λ l b. refl) packet answer.mark some h number a;
      major = λ number a. same_field (λ items. items.major) (λ l b. refl) packet answer.mark some h number a;
      word = λ number a. same_field (λ items. items.word) (λ l b. refl) packet answer.mark some h number a;
      setting = λ number a. same_field (λ items. items.setting) (λ l b. refl) packet answer.mark some h number a;
      passed =
          ap (λ k. (get_or (left_locations packet answer.mark) k cleared).pending) one
          ∙ ap (λ (location : Location). location.pending) (near_left packet answer.mark some h)
          ∙ ap (λ b. (get_or packet.locations packet.current cleared).pending || b) mark
          ∙ ap (λ k. (get_or packet.locations k cleared).pending || (location_at packet packet.current).pending) (sym one);
      pending = λ number a.
          let lt : packet.current < number - 1 = omega arith in
          ap (λ (location : Location). location.pending) (far_left packet answer.mark (number - 1) some lt);
      dropped = λ n a. drop_left packet answer.mark n a;
    }

bare_take : (packet : PacketValue) → IsBare packet → packet.current ≤ size_of packet → take packet.current (set packet.locations (packet.current - 1) cleared) ≡ replicate packet.current cleared
bare_take packet b h =
    let e : suc (packet.current - 1) ≡ packet.current = omega (arith, b.placed) in
    let e1 : packet.current ≡ packet.current - 1 + 1 = omega (arith, b.placed) in
    let lt : packet.current - 1 < size_of packet = omega (arith, b.placed) in
    take-set_at packet.locations (packet.current - 1) packet.current cleared e1 lt
    ∙ ap (λ items. items ++ cleared ∷ []) b.below
    ∙ replicate_then (packet.current - 1) cleared []
    ∙ ap (λ items. cleared ∷ items) (append-nil (replicate (packet.current - 1) cleared))
    ∙ ap (λ n. replicate n cleared) e

left_take : (packet : PacketValue) (m : Bool) → IsBare packet → packet.current ≤ size_of packet → take packet.current (left_locations packet m) ≡ replicate packet.current cleared
left_take packet true b h = let le : packet.current ≤ packet.current = omega arith in take-set-le _ _ _ _ le ∙ bare_take packet b h
left_take packet false b h = bare_take packet b h

pub bare_left : (packet : PacketValue) (answer : Answer) → IsBare packet → packet.current ≤ size_of packet → IsBare (left_packet packet answer)
bare_left packet answer b h =
    let one : (packet.current + 1) - 1 ≡ packet.current = omega arith in
    record {
      placed = omega arith;
      below =
          ap (λ n. take n (left_locations packet answer.mark)) one ∙ left_take packet answer.mark b h ∙ ap (λ n. replicate n cleared) (sym one);
    }
