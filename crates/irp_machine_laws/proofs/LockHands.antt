-- A hand moves a reference between seats, and the table stays.
use Rattle.std.proofs.Common.{◌≡◌, ℕ, ◌+◌, ◌<◌, ◌≤◌, Bool, true, List, [], ◌∷◌, length, get_or, set, Option, Some, None, if◌then◌else◌, refl, sym, ap, ◌∙◌, subst, arith, length-set, get_or-set_same, get_or-set_other, length-append}
use Rattle.std.specs.Prelude.{nat_le, position}
use Rattle.std.specs.List.{remove}
use Rattle.std.specs.Option.{option_map_or}
use Rattle.std.proofs.lemmas.Bool.{leb-false, lt-ltb}
use Rattle.std.proofs.lemmas.List.Edits.{length-remove}
use Rattle.std.proofs.lemmas.List.Quantifiers.{position-Some}
use Rattle.std.proofs.lemmas.Option.{slice_get-get_or}
use mathlib.Core.Logic.{dite}
use native.Mathlib.Decide.{ℕ_discrete}
use Rattle.irp_types.specs.declared.seat_act.Hand.{Hand}
use Rattle.irp_transcript.specs.declared.word_line.WordReply.TheVariants as reply
use Rattle.irp_remove.specs.declared.views.Parties.{Parties}
use Rattle.irp_plain.specs.declared.parts.Change.{Change}
use Rattle.irp_plain.specs.declared.parts.Held.{Held as Reference}
use Rattle.irp_plain.specs.declared.parts.ActPlace.{ActPlace}
use Rattle.irp_machine.specs.declared.parts.Planned.{Planned}
use Rattle.irp_plain.specs.Changes as change
use Rattle.irp_plain.specs.Lists.{with_item}
use Rattle.irp_machine.specs.Machine.{RulesValue, seat_at}
use Rattle.irp_plain.specs.Seats.{SeatValue, new_seat, is_held, after_step, with_held}
use Rattle.irp_machine.specs.Standings.{StandingValue, after_change}
use Rattle.irp_machine_laws.specs.Seats.{one_if, over_seats}
use Rattle.irp_machine_laws.specs.LockTables.{LockTable, StandsFor, references, holds, tried, tries, keeps_busy}
use Rattle.irp_machine_laws.specs.LockSteps.{Stays}
use Rattle.irp_machine_laws.proofs.Sums.{over_set}
use Rattle.irp_machine_laws.proofs.LockShift.{item_set, same_learned}
use Rattle.irp_machine_laws.proofs.LockActs.{After, by_test, by_found, leaves, quiet_tries, none_tried, references_more, references_less, counts_as}

module _ (rules : RulesValue) (standing : StandingValue) (key : Parties) (table : LockTable) (r : StandsFor rules standing key table) (seat : ℕ) (below : seat < length standing.seats)
    (which : ActPlace) (before : tried (get_or rules.acts seat []) (get_or standing.seats seat new_seat) ≡ None) (given : Hand) (taker : given.to < length standing.seats) where
  abbrev own : SeatValue
  own = get_or standing.seats seat new_seat

  abbrev acts : List Planned
  acts = get_or rules.acts seat []

  abbrev moved_one : Reference
  moved_one = record { lock = given.lock.0; tag = given.tag }

  module _ (place : ℕ) (here : position (is_held given.lock.0 given.tag) own.held ≡ Some place) (room : change.count_held standing.seats given.to < 64) where
    abbrev hand_step : Change
    hand_step = record (change.told reply.Done) { drops = Some place; gives = Some (record { seat = given.to; held = moved_one }) }

    abbrev after : SeatValue
    after = after_step hand_step which rules.tells own

    abbrev middle : List SeatValue
    middle = set standing.seats seat after

    abbrev taker_before : SeatValue
    taker_before = get_or middle given.to new_seat

    abbrev taker_after : SeatValue
    taker_after = with_held moved_one taker_before

    abbrev last : List SeatValue
    last = set middle given.to taker_after

    taker_middle : given.to < length middle
    taker_middle = let long = length-set standing.seats seat after in omega arith

    seats_are : (after_change seat hand_step which rules.tells standing).seats ≡ last
    seats_are =
        ap (λ (seats : List SeatValue). with_item given.to (with_held moved_one (get_or seats given.to new_seat)) seats) (item_set seat after standing.seats below)
        ∙ item_set given.to taker_after middle taker_middle

    is : (place < length own.held) × (is_held given.lock.0 given.tag (get_or own.held place moved_one) ≡ true)
    is = let found = position-Some (is_held given.lock.0 given.tag) own.held place moved_one here in (found.0, found.1)

    held_now : after.held ≡ remove own.held place
    held_now = ap (λ (b : Bool). if b then remove own.held place else own.held) (lt-ltb place (length own.held) is.0)

    shorter : length after.held + 1 ≡ length own.held
    shorter = ap (λ held. length held + 1) held_now ∙ length-remove own.held place is.0

    -- sums over the seats, where what the giver has less the taker has more
    moves_over : (f : List Planned → SeatValue → ℕ) (part : ℕ) → f acts after + part ≡ f acts own
        → f (get_or rules.acts given.to []) taker_after ≡ f (get_or rules.acts given.to []) taker_before + part
        → over_seats f rules.acts last ≡ over_seats f rules.acts standing.seats
    moves_over f part fewer more =
        let one = over_set f rules.acts standing.seats seat after below in
        let two = over_set f rules.acts middle given.to taker_after taker_middle in
        omega arith

    -- nobody learns a thing
    learned_same : (other : ℕ) → (get_or last other new_seat).learned ≡ (get_or standing.seats other new_seat).learned
    learned_same other =
        let first : (get_or middle other new_seat).learned ≡ (get_or standing.seats other new_seat).learned =
        dite (ℕ_discrete other seat)
        (λ e. ap (λ (k : ℕ). (get_or middle k new_seat).learned) e ∙ (ap (λ (s : SeatValue). s.learned) (get_or-set_same standing.seats seat after new_seat below) ∙ ap (λ (k : ℕ). (get_or standing.seats k new_seat).learned) (sym e)))
        (λ ne. ap (λ (s : SeatValue). s.learned) (get_or-set_other standing.seats seat other after new_seat ne)) in
        dite (ℕ_discrete other given.to)
        (λ e. ap (λ (k : ℕ). (get_or last k new_seat).learned) e ∙ (ap (λ (s : SeatValue). s.learned) (get_or-set_same middle given.to taker_after new_seat taker_middle) ∙ (ap (λ (k : ℕ). (get_or middle k new_seat).learned) (sym e) ∙ first)))
        (λ ne. ap (λ (s : SeatValue). s.learned) (get_or-set_other middle given.to other taker_after new_seat ne) ∙ first)

    few_middle : (other : ℕ) → length (get_or middle other new_seat).held ≤ 64
    few_middle other = dite (ℕ_discrete other seat)
        (λ e.
        let same : length (get_or middle other new_seat).held ≡ length after.held = ap (λ (k : ℕ). length (get_or middle k new_seat).held) e ∙ ap (λ (s : SeatValue). length s.held) (get_or-set_same standing.seats seat after new_seat below) in
        let few = r.few_held seat in
        let less = shorter in
        omega arith)
        (λ ne. subst (λ (s : SeatValue). length s.held ≤ 64) (sym (get_or-set_other standing.seats seat other after new_seat ne)) (r.few_held other))

    taker_room : length taker_before.held < 64
    taker_room = dite (ℕ_discrete given.to seat)
        (λ e.
        let same : length taker_before.held ≡ length after.held = ap (λ (k : ℕ). length (get_or middle k new_seat).held) e ∙ ap (λ (s : SeatValue). length s.held) (get_or-set_same standing.seats seat after new_seat below) in
        let few = r.few_held seat in
        let less = shorter in
        omega arith)
        (λ ne.
        let same : length taker_before.held ≡ length (get_or standing.seats given.to new_seat).held = ap (λ (s : SeatValue). length s.held) (get_or-set_other standing.seats seat given.to after new_seat ne) in
        let count : change.count_held standing.seats given.to ≡ length (get_or standing.seats given.to new_seat).held =
        ap (λ (o : Option SeatValue). option_map_or (λ (own : SeatValue). length own.held) o 0) (slice_get-get_or standing.seats given.to new_seat taker) in
        omega arith)

    few_last : (other : ℕ) → length (get_or last other new_seat).held ≤ 64
    few_last other = dite (ℕ_discrete other given.to)
        (λ e.
        let same : length (get_or last other new_seat).held ≡ length taker_after.held = ap (λ (k : ℕ). length (get_or last k new_seat).held) e ∙ ap (λ (s : SeatValue). length s.held) (get_or-set_same middle given.to taker_after new_seat taker_middle) in
        let more = length-append taker_before.held (moved_one ∷ []) in
        let less = taker_room in
        omega arith)
        (λ ne. subst (λ (s : SeatValue). length s.held ≤ 64) (sym (get_or-set_other middle given.to other taker_after new_seat ne)) (few_middle other))

    hands_over : StandsFor rules (after_change seat hand_step which rules.tells standing) key table
    hands_over =
        let seats = seats_are in
        let new : StandingValue = after_change seat hand_step which rules.tells standing in
        let long : length new.seats ≡ length standing.seats = ap length seats ∙ (length-set middle given.to taker_after ∙ length-set standing.seats seat after) in
        record {
          kept = r.kept;
          words = r.words;
          homes = r.homes;
          observers = λ other less.
              let watches = r.observers other (subst (λ (n : ℕ). other < n) long less) in
              let same : (seat_at new other).learned ≡ (seat_at standing other).learned = ap (λ (s : List SeatValue). (get_or s other new_seat).learned) seats ∙ learned_same other in
              (watches.0, watches.1, same_learned key.locks (seat_at standing other) (seat_at new other) watches.0 same watches.2);
          held_is = λ lock tag. r.held_is lock tag ∙ sym (ap (over_seats (holds lock tag) rules.acts) seats ∙ moves_over (holds lock tag) (one_if (is_held lock tag moved_one))
              (let fewer = references_less lock tag own.held place moved_one is.0 in
              let same = counts_as given.lock.0 given.tag (get_or own.held place moved_one) is.1 lock tag in
              let now = ap (references lock tag) held_now in
              omega arith)
              (references_more lock tag taker_before.held moved_one));
          tried_is = λ lock. r.tried_is lock ∙ sym (ap (over_seats (tries lock) rules.acts) seats ∙ moves_over (tries lock) 0
              (let same = quiet_tries rules standing key table r seat below which after before refl lock in omega arith)
              (omega arith));
          busy_is = r.busy_is ∙ sym (ap (over_seats keeps_busy rules.acts) seats ∙ moves_over keeps_busy 1
              (let none = none_tried (tried acts own) before in let less = shorter in omega arith)
              (let more = length-append taker_before.held (moved_one ∷ []) in omega arith));
          inside = r.inside;
          few_held = λ other. subst (λ (s : List SeatValue). length (get_or s other new_seat).held ≤ 64) (sym seats) (few_last other);
          few_locks = r.few_locks;
          few_seats = subst (λ (n : ℕ). n < 64) (sym long) r.few_seats;
          all_made = r.all_made;
        }

  refused : (answer : Rattle.irp_transcript.specs.declared.word_line.WordReply.WordReply) → After rules standing key table r seat below which Stays (change.told answer)
  refused answer = (table, (refl, refl), leaves rules standing key table r seat below which (change.told answer) (refl, refl, refl, refl, refl, refl) before)

  -- each hand
  pub hand_step_keeps : After rules standing key table r seat below which Stays (change.hand standing.words standing.seats own given)
  hand_step_keeps =
      let P = After rules standing key table r seat below which Stays in
      by_test P (nat_le (length standing.words) given.lock.0) _ _
      (λ nowhere. refused reply.NoLock)
      (λ there. by_found P (position (is_held given.lock.0 given.tag) own.held) (λ place. change.handing given place (change.count_held standing.seats given.to)) (change.told reply.NotHeld)
      (λ place here. by_test P (nat_le change.most_held (change.count_held standing.seats given.to)) _ _
      (λ full. refused reply.SeatFull)
      (λ room. (table, (refl, refl), hands_over place here (leb-false 64 (change.count_held standing.seats given.to) room))))
      (λ none. refused reply.NotHeld))
