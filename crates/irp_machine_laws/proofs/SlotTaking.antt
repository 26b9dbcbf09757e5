-- A use that is taken out of a slot, by its owner or by the party that asks for a seat.
use Rattle.std.proofs.Common.{◌≡◌, ◌≢◌, ◌⊎◌, ℕ, ◌+◌, ◌*◌, ◌%◌, ◌<◌, Bool, true, false, not, ◌&&◌, ◌||◌, eqb, List, [], ◌∷◌, length, get_or, set, bit_or, Some, None, if◌then◌else◌, refl, sym, ap, ◌∙◌, subst, arith, length-set, get_or-set_same}
use Rattle.std.specs.Prelude.{◌==◌}
use mathlib.Core.Option.{some}
use lib.ListN.{get_elem?}
use Rattle.irp_transcript.specs.declared.word_line.WordReply.TheVariants as reply
use Rattle.irp_slots.specs.declared.views.Stage.{Stage as OwnerStage}
use Rattle.irp_slots.specs.declared.views.Stage.TheVariants.{Standing, Done}
use Rattle.irp_slots.specs.declared.views.Owning.{Owning}
use Rattle.irp_slots.specs.declared.views.Asking.{Asking}
use Rattle.irp_slots.specs.declared.views.View.TheVariants.{Owner, Canceller}
use Rattle.irp_slots.specs.declared.views.Parties.{Parties}
use Rattle.irp_slots.specs.Core.{Kept, content_of, flag, flag_of, is_begun, is_standing, may_take_back, out_of}
use Rattle.irp_slots.proofs.Steps.{take_back_keeps, flag_keeps, take_out_keeps}
use Rattle.irp_remove.proofs.Observing.{or_one}
use Rattle.irp_plain.specs.declared.parts.After.TheVariants.{In, Told}
use Rattle.irp_plain.specs.declared.parts.Change.{Change}
use Rattle.irp_plain.specs.declared.parts.ActPlace.{ActPlace}
use Rattle.irp_machine.specs.Conditions.{act_now}
use Rattle.irp_machine.specs.declared.parts.Planned.{Planned}
use Rattle.irp_plain.specs.declared.parts.Slot.{Slot}
use Rattle.irp_plain.specs.declared.parts.Stage.TheVariants as stages
use Rattle.irp_plain.specs.declared.answered.Answered.TheVariants.{Word}
use Rattle.irp_plain.specs.Changes as change
use Rattle.irp_machine.specs.Machine.{RulesValue}
use Rattle.irp_plain.specs.Seats.{SeatValue, new_seat, after_step}
use Rattle.irp_machine.specs.Standings.{StandingValue}
use Rattle.irp_machine_laws.specs.Seats.{one_if, over_seats}
use Rattle.irp_machine_laws.specs.SlotSteps.{moved, IsFlag, IsTakeBack, IsTakeOut, taken_or}
use Rattle.irp_machine_laws.specs.SlotTables.{SlotTable, StandsFor, IsOwned, IsAsking, asker_no, owner_no, asked, asked_at, finds, found, is_published, put, puts}
use Rattle.irp_machine_laws.proofs.LockActs.{by_test}
use Rattle.irp_machine_laws.proofs.Sums.{part_of_seats}
use Rattle.irp_machine_laws.proofs.SlotMoves.{asks_less, asker_moves, content_else, content_here, content_same, flag_else, flag_here, flag_same, own_found, owner_moves, wrote}
use Rattle.irp_machine_laws.proofs.SlotShift.{else_at, none_at, one_at, over_finds, over_puts, slot_at}
use Rattle.irp_machine_laws.proofs.SlotActs.{Leads, found_if, standing_if}

module _ (rules : RulesValue) (standing : StandingValue) (key : Parties) (table : SlotTable) (r : StandsFor rules standing key table) (seat : ℕ) (below : seat < length standing.seats)
    (which : ActPlace) (k : ℕ) (inside : k < key.slots) where
  abbrev own : SeatValue
  own = get_or standing.seats seat new_seat

  abbrev acts : List Planned
  acts = get_or rules.acts seat []

  abbrev slot : Slot
  slot = slot_at standing k

  abbrev Goes : (Change → SlotTable → SlotTable → Type 0) → Change → Type 0
  Goes kind step = Leads rules standing key table r seat below which k inside kind step

  is : IsOwned table k slot (over_seats (puts k) rules.acts standing.seats) (over_seats (finds k) rules.acts standing.seats)
  is = r.owned k inside

  abbrev o : Owning
  o = is.owning

  at : get_elem? table.views (owner_no k) ≡ some (Owner o)
  at = is.at

  inside_o : o.slot < key.slots
  inside_o = subst (λ (n : ℕ). n < key.slots) (sym is.own) inside

  less : k < length standing.slots
  less = let same = r.slots in omega arith

  content_room : 2 * k + 1 < length table.words
  content_room = let wide = r.kept.wide in omega arith

  flag_room : 2 * k < length table.words
  flag_room = let wide = r.kept.wide in omega arith

  abbrev there : ℕ
  there = content_of table.words k

  -- ---- the owner takes its use out
  module _ (slot_1 : Slot) (content_1 : slot_1.content ≡ slot.content) (flag_1 : slot_1.flag ≡ slot.flag) (used_1 : slot_1.used ≡ slot.used) (stands_1 : slot_1.stands ≡ false)
      (may : may_take_back o ≡ true) (begun : is_begun o.stage ≡ true) (no_put : put acts own ≡ None) (finds_else : (j : ℕ) → j ≢ k → finds j acts own ≡ 0)
      (none_puts : one_if (is_published o.stage && not o.found_set) ≡ 0) (own_finds : one_if (is_published o.stage && o.found_set) ≡ finds k acts own) where
    abbrev o_done : Owning
    o_done = record o { stage = Done; taken = out_of there o.taken }

    abbrev slot_2 : Slot
    slot_2 = record slot_1 { content = 0 }

    kept_back : Kept key (moved table (2 * k + 1) 0 (owner_no k) (Owner o_done))
    kept_back = subst (λ (n : ℕ). Kept key (moved table (2 * n + 1) 0 (owner_no k) (Owner (record o { stage = Done; taken = out_of (content_of table.words n) o.taken })))) is.own
        (take_back_keeps key table r.kept (owner_no k) o may at inside_o)

    own_or_none : (there ≡ 0) ⊎ (there ≡ o.published)
    own_or_none = subst (λ (n : ℕ). (content_of table.words n ≡ 0) ⊎ (content_of table.words n ≡ o.published)) is.own (own_found key table r.kept (owner_no k) o at inside_o)

    takes_so : (step : Change) → step.slot ≡ Some (record { number = k; slot = slot_2 }) → put acts (after_step step which rules.tells own) ≡ None
        → found acts (after_step step which rules.tells own) ≡ None → asked acts (after_step step which rules.tells own) ≡ None
        → step.after ≡ Told (Word (taken_or reply.Lost there)) → Goes (IsTakeBack k) step
    takes_so step writes put_none found_none asked_none answers =
        let after : SeatValue = after_step step which rules.tells own in
        let before_puts = none_at k (put acts own) no_put in
        let after_puts = none_at k (put acts after) put_none in
        let after_finds = none_at k (found acts after) found_none in
        let sum_puts = over_puts rules standing key table r seat below which step k in
        let sum_finds = over_finds rules standing key table r seat below which step k in
        let puts_is = is.puts_is in
        let finds_is = is.finds_is in
        let stands = owner_moves rules standing key table r seat below which step k inside (2 * k + 1) 0 slot_2 o_done kept_back
        (record { flags_else = λ j ne. flag_same table.words k 0 j; contents_else = λ j ne. content_else table.words k 0 j ne })
        (wrote rules standing key table r seat below which step k slot_2 less writes)
        (record { puts_else = λ j ne. none_at j (put acts after) put_none ∙ sym (none_at j (put acts own) no_put); finds_else = λ j ne. none_at j (found acts after) found_none ∙ sym (finds_else j ne) })
        is.own (ap (λ (w : ℕ). w % 2) (flag_same table.words k 0 k) ∙ (is.flag_is ∙ ap one_if (sym flag_1))) (content_here table.words k 0 content_room)
        (used_1 ∙ (is.used_is ∙ begun)) stands_1 (omega arith) (omega arith)
        (asks_less key.slots acts own after _ asked_none (λ j e. absurd (let bad : ⊥ = cc in bad)) (λ j e. absurd (let bad : ⊥ = cc in bad)) (r.askers seat below)) in (
          moved table (2 * k + 1) 0 (owner_no k) (Owner o_done),
          record {
            owning = o;
            takes = (at, refl, (key, table, owner_no k, r.kept, omega arith, at, refl, kept_back));
            finds = own_or_none;
            slot = slot_2;
            writes = writes;
            empties = refl;
            after = answers;
          },
          stands,
        )

    takes_back : Goes (IsTakeBack k) (change.take_out k slot_1 reply.Lost)
    takes_back =
        let same : there ≡ slot_1.content = is.content_is ∙ sym content_1 in
        by_test (Goes (IsTakeBack k)) (slot_1.content == 0)
        (record (change.told reply.Lost) { slot = Some (record { number = k; slot = slot_2 }) })
        (record (change.told (reply.Taken slot_1.content)) { slot = Some (record { number = k; slot = slot_2 }); takes = Some (record { slot = k; use_no = slot_1.content }) })
        (λ test. takes_so _ refl refl refl refl (sym (ap (λ (n : ℕ). Told (Word (taken_or reply.Lost n))) same ∙ ap (λ (b : Bool). Told (Word (if b then reply.Lost else reply.Taken slot_1.content))) test)))
        (λ test. takes_so _ refl refl refl refl (sym (ap (λ (n : ℕ). Told (Word (taken_or reply.Lost n))) same ∙ ap (λ (b : Bool). Told (Word (if b then reply.Lost else reply.Taken slot_1.content))) test)))

  -- a publication that found the flag set
  pub loses : put acts own ≡ None → found acts own ≡ Some k → Goes (IsTakeBack k) (change.take_out k slot reply.Lost)
  loses no_put now =
      let part = part_of_seats (finds k) rules.acts standing.seats seat below in
      let mine : finds k acts own ≡ 1 = one_at k (found acts own) now in
      let finds_is = is.finds_is in
      let finding = found_if o.stage o.found_set (omega arith) in
      takes_back slot refl refl refl (is.stands_is ∙ ap is_standing finding.0) (ap (λ (b : Bool). is_standing o.stage || b) finding.1 ∙ or_so (is_standing o.stage)) (ap is_begun finding.0)
      no_put (λ j ne. else_at k j (found acts own) now ne) (λ i. one_if (is_published (finding.0 i) && not (finding.1 i))) ((λ i. one_if (is_published (finding.0 i) && finding.1 i)) ∙ sym mine)
    where
      or_so : (b : Bool) → (b || true) ≡ true
      or_so true = refl
      or_so false = refl

  -- a withdrawal of what stands
  pub withdraws : put acts own ≡ None → found acts own ≡ None → slot.stands ≡ true → Goes (IsTakeBack k) (change.take_out k (record slot { stands = false }) reply.Lost)
  withdraws no_put no_found stood =
      let at_stand : o.stage ≡ Standing = standing_if o.stage (sym is.stands_is ∙ stood) in
      takes_back (record slot { stands = false }) refl refl refl refl (ap (λ (s : OwnerStage). is_standing s || o.found_set) at_stand) (ap is_begun at_stand)
      no_put (λ j ne. none_at j (found acts own) no_found) (ap (λ (s : OwnerStage). one_if (is_published s && not o.found_set)) at_stand)
      (ap (λ (s : OwnerStage). one_if (is_published s && o.found_set)) at_stand ∙ sym (none_at k (found acts own) no_found))

  -- ---- a request
  module _ (no_put : put acts own ≡ None) (no_found : found acts own ≡ None) where
    asker : IsAsking key.slots acts own (get_elem? table.views (asker_no key.slots seat))
    asker = r.askers seat below

    abbrev a : Asking
    a = asker.asking

    few : k < 64
    few = let most = r.kept.few_slots in omega arith

    abbrev flag_slot : Slot
    flag_slot = record slot { flag = true }

    abbrev flag_step : Change
    flag_step = record (change.only (In stages.Flagged)) { slot = Some (record { number = k; slot = flag_slot }) }

    abbrev word : ℕ
    word = flag_of table.words k

    abbrev a_flagged : Asking
    a_flagged = record a { flagged = set a.flagged k true }

    pub flags_it : asked_at stages.Flagged (act_now acts own) ≡ Some k → Goes (IsFlag (asker_no key.slots seat) k) flag_step
    flags_it behind =
        let after : SeatValue = after_step flag_step which rules.tells own in
        let room : k < length a.flagged = let long = asker.flagged_long in let in_it = few in omega arith in
        let kept = flag_keeps key table r.kept (asker_no key.slots seat) k a asker.at inside room in
        let ored = or_one word in
        let odd : bit_or word 1 % 2 ≡ 1 = omega arith in
        let stands = asker_moves rules standing key table r seat below which flag_step k inside (2 * k) (bit_or word 1) flag_slot a_flagged kept
        (record { flags_else = λ j ne. flag_else table.words k (bit_or word 1) j ne; contents_else = λ j ne. content_same table.words k (bit_or word 1) j })
        (wrote rules standing key table r seat below which flag_step k flag_slot less refl)
        (λ j. sym (none_at j (put acts own) no_put)) (λ j. sym (none_at j (found acts own) no_found))
        (ap (λ (w : ℕ). w % 2) (flag_here table.words k (bit_or word 1) flag_room) ∙ odd) (content_same table.words k (bit_or word 1) k ∙ is.content_is) refl refl
        (record {
          asking = a_flagged;
          at = refl;
          flagged_long = length-set a.flagged k true ∙ asker.flagged_long;
          ended_long = asker.ended_long;
          has_flagged = λ j e.
              let same : k ≡ j = let one : Some k ≡ Some j = sym behind ∙ e in cc in
              (subst (λ (n : ℕ). n < key.slots) same inside, ap (flag (set a.flagged k true)) (sym same) ∙ get_or-set_same a.flagged k true false room);
          put_inside = λ j e. absurd (let bad : ⊥ = cc in bad);
          found_inside = λ j e. absurd (let bad : ⊥ = cc in bad);
        }) in (
          moved table (2 * k) (bit_or word 1) (asker_no key.slots seat) (Canceller a_flagged),
          record {
            asking = a;
            takes = (asker.at, refl, (key, table, asker_no key.slots seat, r.kept, omega arith, asker.at, refl, kept));
            slot = flag_slot;
            writes = refl;
            flags = refl;
            after = refl;
          },
          stands,
        )

    abbrev out_slot : Slot
    out_slot = record slot { content = 0 }

    abbrev a_ended : Asking
    a_ended = record a { ended = set a.ended k true; taken = if eqb there 0 then a.taken else (k, there) ∷ a.taken }

    out_so : asked acts own ≡ Some k → (step : Change) → step.slot ≡ Some (record { number = k; slot = out_slot }) → put acts (after_step step which rules.tells own) ≡ None
        → found acts (after_step step which rules.tells own) ≡ None → asked acts (after_step step which rules.tells own) ≡ None
        → step.after ≡ Told (Word (taken_or reply.Nothing there)) → Goes (IsTakeOut (asker_no key.slots seat) k) step
    out_so now step writes put_none found_none asked_none answers =
        let after : SeatValue = after_step step which rules.tells own in
        let room : k < length a.ended = let long = asker.ended_long in let in_it = few in omega arith in
        let kept = take_out_keeps key table r.kept (asker_no key.slots seat) k a asker.at inside room (asker.has_flagged k now).1 in
        let stands = asker_moves rules standing key table r seat below which step k inside (2 * k + 1) 0 out_slot a_ended kept
        (record { flags_else = λ j ne. flag_same table.words k 0 j; contents_else = λ j ne. content_else table.words k 0 j ne })
        (wrote rules standing key table r seat below which step k out_slot less writes)
        (λ j. none_at j (put acts after) put_none ∙ sym (none_at j (put acts own) no_put)) (λ j. none_at j (found acts after) found_none ∙ sym (none_at j (found acts own) no_found))
        (ap (λ (w : ℕ). w % 2) (flag_same table.words k 0 k) ∙ is.flag_is) (content_here table.words k 0 content_room) refl refl
        (record {
          asking = a_ended;
          at = refl;
          flagged_long = asker.flagged_long;
          ended_long = length-set a.ended k true ∙ asker.ended_long;
          has_flagged = λ j e. absurd (let bad : ⊥ = cc in bad);
          put_inside = λ j e. absurd (let bad : ⊥ = cc in bad);
          found_inside = λ j e. absurd (let bad : ⊥ = cc in bad);
        }) in (
          moved table (2 * k + 1) 0 (asker_no key.slots seat) (Canceller a_ended),
          record {
            asking = a;
            takes = (asker.at, refl, (key, table, asker_no key.slots seat, r.kept, omega arith, asker.at, refl, kept));
            slot = out_slot;
            writes = writes;
            empties = refl;
            after = answers;
          },
          stands,
        )

    pub takes_out : asked acts own ≡ Some k → Goes (IsTakeOut (asker_no key.slots seat) k) (change.take_out k slot reply.Nothing)
    takes_out now =
        by_test (Goes (IsTakeOut (asker_no key.slots seat) k)) (slot.content == 0)
        (record (change.told reply.Nothing) { slot = Some (record { number = k; slot = out_slot }) })
        (record (change.told (reply.Taken slot.content)) { slot = Some (record { number = k; slot = out_slot }); takes = Some (record { slot = k; use_no = slot.content }) })
        (λ test. out_so now _ refl refl refl refl (sym (ap (λ (n : ℕ). Told (Word (taken_or reply.Nothing n))) is.content_is ∙ ap (λ (b : Bool). Told (Word (if b then reply.Nothing else reply.Taken slot.content))) test)))
        (λ test. out_so now _ refl refl refl refl (sym (ap (λ (n : ℕ). Told (Word (taken_or reply.Nothing n))) is.content_is ∙ ap (λ (b : Bool). Told (Word (if b then reply.Nothing else reply.Taken slot.content))) test)))
