-- Every step of a seat at the cancel slots, whatever the act and how far the seat is in it.
use Rattle.std.proofs.Common.{◌≡◌, ◌⊎◌, inl, inr, ℕ, ◌<◌, Bool, true, false, List, [], length, get_or, Option, Some, None, if◌then◌else◌, refl, sym, ap, ◌∙◌, subst, arith}
use Rattle.std.specs.Prelude.{slice_get}
use Rattle.std.specs.Option.{option_map_or, option_and_then}
use Rattle.std.proofs.lemmas.Option.{get_or_from_slice_get, slice_get_within, slice_get-get_or}
use Rattle.irp_types.specs.declared.names.IrpRef.{IrpRef}
use Rattle.irp_transcript.specs.declared.word_line.WordReply.{WordReply}
use Rattle.irp_transcript.specs.declared.word_line.WordReply.TheVariants as reply
use Rattle.irp_script_reader.specs.declared.act.Named.{Named}
use Rattle.irp_script_reader.specs.declared.act.StepAct.{StepAct}
use Rattle.irp_script_reader.specs.declared.act.StepAct.TheVariants as does
use Rattle.irp_slots.specs.declared.views.Parties.{Parties}
use Rattle.irp_plain.specs.declared.parts.After.TheVariants.{In}
use Rattle.irp_plain.specs.declared.parts.Change.{Change}
use Rattle.irp_machine.specs.Conditions.{act_now}
use Rattle.irp_machine.specs.declared.parts.Next.TheVariants.{Changes}
use Rattle.irp_machine.specs.declared.parts.Planned.{Planned}
use Rattle.irp_plain.specs.declared.parts.Slot.{Slot}
use Rattle.irp_plain.specs.declared.parts.Stage.{Stage}
use Rattle.irp_plain.specs.declared.parts.Stage.TheVariants as stages
use Rattle.irp_plain.specs.Changes as change
use Rattle.irp_machine.specs.Machine.{RulesValue, IsNext}
use Rattle.irp_steps.specs.Labels.{packet_of}
use Rattle.irp_machine.specs.Next.{is_tokenless, naming_at, next_by, with_packet}
use Rattle.irp_machine.specs.Openings.{empty_slot}
use Rattle.irp_plain.specs.Seats.{SeatValue, new_seat, after_step}
use Rattle.irp_machine.specs.Standings.{StandingValue, after_change}
use Rattle.irp_machine_laws.specs.SlotSteps.{IsCheck, IsFlag, IsPublish, IsRefused, IsTakeBack, IsTakeOut, Publishes, Requests, Stays, is_refusal}
use Rattle.irp_machine_laws.specs.SlotTables.{SlotTable, StandsFor, asker_no, asked, asked_at, found, found_at, published_by, put, put_at, requested_by}
use Rattle.irp_machine_laws.proofs.LockActs.{by_test, by_found}
use Rattle.irp_machine_laws.proofs.SlotActs.{checks, swapped_in}
use Rattle.irp_machine_laws.proofs.SlotLeaves.{LeavesSlots, is_at_slot, left}
use Rattle.irp_machine_laws.proofs.SlotMoves.{asks_less, nothing_moves}
use Rattle.irp_machine_laws.proofs.SlotShift.{none_at, slot_at}
use Rattle.irp_machine_laws.proofs.SlotTaking.{flags_it, loses, takes_out, withdraws}

-- a seat at no slot has put, found and asked nothing
quiet_put : (stage : Stage) (act : Option Planned) → is_at_slot stage ≡ false → put_at stage act ≡ None
quiet_put stages.Published act away = absurd (let bad : ⊥ = cc in bad)
quiet_put other act away = refl

quiet_found : (stage : Stage) (act : Option Planned) → is_at_slot stage ≡ false → found_at stage act ≡ None
quiet_found stages.FoundSet act away = absurd (let bad : ⊥ = cc in bad)
quiet_found other act away = refl

quiet_asked : (stage : Stage) (act : Option Planned) → is_at_slot stage ≡ false → asked_at stage act ≡ None
quiet_asked stages.Flagged act away = absurd (let bad : ⊥ = cc in bad)
quiet_asked other act away = refl

-- nor has one in an act that publishes nothing put or found a thing
else_put : (stage : Stage) (act : Option Planned) (planned : Planned) → act ≡ Some planned → published_by planned.act ≡ None → put_at stage act ≡ None
else_put stages.Published act planned is none = ap (option_and_then (λ (planned : Planned). published_by planned.act)) is ∙ none
else_put other act planned is none = refl

else_found : (stage : Stage) (act : Option Planned) (planned : Planned) → act ≡ Some planned → published_by planned.act ≡ None → found_at stage act ≡ None
else_found stages.FoundSet act planned is none = ap (option_and_then (λ (planned : Planned). published_by planned.act)) is ∙ none
else_found other act planned is none = refl

module _ (rules : RulesValue) (standing : StandingValue) (key : Parties) (table : SlotTable) (r : StandsFor rules standing key table) (seat : ℕ) (below : seat < length standing.seats)
    (planned : Planned) (planned_is : act_now (get_or rules.acts seat []) (get_or standing.seats seat new_seat) ≡ Some planned) where
  abbrev own : SeatValue
  own = get_or standing.seats seat new_seat

  abbrev acts : List Planned
  acts = get_or rules.acts seat []

  abbrev pub Leads : (Change → SlotTable → SlotTable → Type 0) → Change → Type 0
  Leads kind step = (new : SlotTable) × kind step table new × StandsFor rules (after_change seat step planned.place rules.tells standing) key new

  -- a step that leaves the slots leaves the table
  stays : (step : Change) → LeavesSlots step → put acts own ≡ None → found acts own ≡ None → Leads Stays step
  stays step leaves no_put no_found =
      let after : SeatValue = after_step step planned.place rules.tells own in
      let put_none : put acts after ≡ None = quiet_put after.stage (act_now acts after) leaves.1 in
      let found_none : found acts after ≡ None = quiet_found after.stage (act_now acts after) leaves.1 in
      let asked_none : asked acts after ≡ None = quiet_asked after.stage (act_now acts after) leaves.1 in (
        table,
        (leaves.0, refl),
        nothing_moves rules standing key table r seat below planned.place step leaves.0
            (λ j. none_at j (put acts after) put_none ∙ sym (none_at j (put acts own) no_put)) (λ j. none_at j (found acts after) found_none ∙ sym (none_at j (found acts own) no_found))
            (asks_less key.slots acts own after _ asked_none (λ j e. absurd (let bad : ⊥ = cc in bad)) (λ j e. absurd (let bad : ⊥ = cc in bad)) (r.askers seat below)),
      )

  abbrev Or : (Change → SlotTable → SlotTable → Type 0) → Change → SlotTable → SlotTable → Type 0
  Or kind step one new = IsRefused step one new ⊎ kind step one new

  refused : (kind : Change → SlotTable → SlotTable → Type 0) (answer : WordReply) → is_refusal answer ≡ true → put acts own ≡ None → found acts own ≡ None → Leads (Or kind) (change.told answer)
  refused kind answer plain no_put no_found =
      let done = stays (change.told answer) (refl, refl) no_put no_found in (done.0, inl (answer, plain, refl, done.1), done.2)

  goes : (kind : Change → SlotTable → SlotTable → Type 0) (step : Change) → Leads kind step → Leads (Or kind) step
  goes kind step done = (done.0, inr done.1, done.2)

  -- ---- a slot that is there
  inside_of : (number : ℕ) (slot : Slot) → slice_get standing.slots number ≡ Some slot → number < key.slots
  inside_of number slot there = let within = slice_get_within standing.slots number slot there in let same = r.slots in omega arith

  slot_is : (number : ℕ) (slot : Slot) → slice_get standing.slots number ≡ Some slot → slot_at standing number ≡ slot
  slot_is number slot there = get_or_from_slice_get standing.slots number slot empty_slot there

  there_is : (number : ℕ) → number < key.slots → slice_get standing.slots number ≡ Some (slot_at standing number)
  there_is number inside = slice_get-get_or standing.slots number empty_slot (let same = r.slots in omega arith)

  -- ---- a publication
  module _ (number : ℕ) (irp : Named) (act_is : planned.act ≡ does.Publish number irp) where
    published_now : option_and_then (λ (planned : Planned). published_by planned.act) (act_now acts own) ≡ Some number
    published_now = ap (option_and_then (λ (planned : Planned). published_by planned.act)) planned_is ∙ ap published_by act_is

    abbrev May : Change → SlotTable → SlotTable → Type 0
    May step one new = Stays step one new ⊎ IsPublish number step one new

    stays_or : (step : Change) → LeavesSlots step → put acts own ≡ None → found acts own ≡ None → Leads May step
    stays_or step leaves no_put no_found = let done = stays step leaves no_put no_found in (done.0, inl done.1, done.2)

    -- the use is swapped in
    swap : (use_no : ℕ) → put acts own ≡ None → found acts own ≡ None → ((slot : Slot) → change.publishing number slot own.stage use_no ≡ change.swap_in number slot use_no)
        → Leads May (change.publish standing.slots number own.stage use_no)
    swap use_no no_put no_found plain =
        by_found (Leads May) (slice_get standing.slots number) (λ (slot : Slot). change.publishing number slot own.stage use_no) (change.told reply.NoSlot)
        (λ slot there.
        subst (Leads May) (sym (plain slot))
        (subst (λ (slot : Slot). Leads May (change.swap_in number slot use_no)) (slot_is number slot there)
        (by_test (Leads May) (slot_at standing number).used _ _
        (λ used. stays_or (change.told reply.Used) (refl, refl) no_put no_found)
        (λ unused. let done = swapped_in rules standing key table r seat below planned.place number (inside_of number slot there) use_no unused no_put no_found published_now in (done.0, inr done.1, done.2)))))
        (λ none. stays_or (change.told reply.NoSlot) (refl, refl) no_put no_found)

    checking : (use_no : ℕ) → own.stage ≡ stages.Published → Leads (IsCheck number) (change.publish standing.slots number own.stage use_no)
    checking use_no at =
        let now : put acts own ≡ Some number = ap (λ stage. put_at stage (act_now acts own)) at ∙ published_now in
        let no_found : found acts own ≡ None = ap (λ stage. found_at stage (act_now acts own)) at in
        let inside = (r.askers seat below).put_inside number now in
        let done = checks rules standing key table r seat below planned.place number inside now no_found published_now in
        let is : change.publish standing.slots number own.stage use_no ≡ change.check number (slot_at standing number) =
        ap (λ (o : Option Slot). option_map_or (λ (slot : Slot). change.publishing number slot own.stage use_no) o (change.told reply.NoSlot)) (there_is number inside)
        ∙ ap (λ stage. change.publishing number (slot_at standing number) stage use_no) at in
        subst (Leads (IsCheck number)) (sym is) done

    losing : (use_no : ℕ) → own.stage ≡ stages.FoundSet → Leads (IsTakeBack number) (change.publish standing.slots number own.stage use_no)
    losing use_no at =
        let no_put : put acts own ≡ None = ap (λ stage. put_at stage (act_now acts own)) at in
        let now : found acts own ≡ Some number = ap (λ stage. found_at stage (act_now acts own)) at ∙ published_now in
        let inside = (r.askers seat below).found_inside number now in
        let done = loses rules standing key table r seat below planned.place number inside no_put now in
        let is : change.publish standing.slots number own.stage use_no ≡ change.take_out number (slot_at standing number) reply.Lost =
        ap (λ (o : Option Slot). option_map_or (λ (slot : Slot). change.publishing number slot own.stage use_no) o (change.told reply.NoSlot)) (there_is number inside)
        ∙ ap (λ stage. change.publishing number (slot_at standing number) stage use_no) at in
        subst (Leads (IsTakeBack number)) (sym is) done

    -- the step of an act that names this packet
    abbrev Packet : (Change → SlotTable → SlotTable → Type 0) → IrpRef → Type 0
    Packet kind named = (step : Change) → IsNext rules standing seat planned (with_packet standing own planned.act named) step → Leads kind step

    packet : (kind : Change → SlotTable → SlotTable → Type 0) (named : IrpRef) → Leads kind (change.publish standing.slots number own.stage named.use_no) → Packet kind named
    packet kind named done step next =
        let is : step ≡ change.publish standing.slots number own.stage named.use_no = subst (λ (act : StepAct). IsNext rules standing seat planned (with_packet standing own act named) step) act_is next in
        subst (Leads kind) (sym is) done

    swap_at : (named : IrpRef) (away : is_at_slot own.stage ≡ false) → ((slot : Slot) → change.publishing number slot own.stage named.use_no ≡ change.swap_in number slot named.use_no) → Packet May named
    swap_at named away plain = packet May named (swap named.use_no (quiet_put own.stage (act_now acts own) away) (quiet_found own.stage (act_now acts own) away) plain)

    reading : (alone : Bool) (named : IrpRef) → is_at_slot own.stage ≡ false → Packet May named → (step : Change)
        → IsNext rules standing seat planned (if alone then Changes (change.only (In (stages.Read named))) else with_packet standing own planned.act named) step → Leads May step
    reading true named away go step next = stays_or step (left rules standing seat planned _ (refl, refl) step next) (quiet_put own.stage (act_now acts own) away) (quiet_found own.stage (act_now acts own) away)
    reading false named away go step next = go step next

    abbrev named_now : IrpRef
    named_now = packet_of standing.labels planned.act

    naming : (stage : Stage) → own.stage ≡ stage → (step : Change) → IsNext rules standing seat planned (naming_at stage standing own planned) step → Leads (Publishes number stage) step
    naming (stages.Answered named) at step next =
        stays_or step (left rules standing seat planned _ (refl, refl) step next) (quiet_put own.stage (act_now acts own) (ap is_at_slot at)) (quiet_found own.stage (act_now acts own) (ap is_at_slot at))
    naming (stages.Read named) at step next = swap_at named (ap is_at_slot at) (λ slot. ap (λ stage. change.publishing number slot stage named.use_no) at) step next
    naming stages.Between at step next =
        reading planned.reads_alone named_now (ap is_at_slot at) (swap_at named_now (ap is_at_slot at) (λ slot. ap (λ stage. change.publishing number slot stage named_now.use_no) at)) step next
    naming stages.Published at step next = packet (IsCheck number) named_now (checking named_now.use_no at) step next
    naming stages.FoundSet at step next = packet (IsTakeBack number) named_now (losing named_now.use_no at) step next
    naming stages.Tried at step next = swap_at named_now (ap is_at_slot at) (λ slot. ap (λ stage. change.publishing number slot stage named_now.use_no) at) step next
    naming stages.Begun at step next = swap_at named_now (ap is_at_slot at) (λ slot. ap (λ stage. change.publishing number slot stage named_now.use_no) at) step next
    naming stages.Flagged at step next =
        packet May named_now
        (swap named_now.use_no (ap (λ stage. put_at stage (act_now acts own)) at) (ap (λ stage. found_at stage (act_now acts own)) at) (λ slot. ap (λ stage. change.publishing number slot stage named_now.use_no) at)) step next

    pub publishes : (step : Change) → IsNext rules standing seat planned (next_by (does.Publish number irp) standing own planned) step → Leads (Publishes number own.stage) step
    publishes step next =
        let plain : is_tokenless own.taken planned.act ≡ false = ap (is_tokenless own.taken) act_is in
        naming own.stage refl step (subst (λ (b : Bool). IsNext rules standing seat planned (if b then Changes (change.told reply.NoToken) else naming_at own.stage standing own planned) step) plain next)

  -- ---- a withdrawal and a request
  module _ (other : published_by planned.act ≡ None) where
    no_put : put acts own ≡ None
    no_put = else_put own.stage (act_now acts own) planned planned_is other

    no_found : found acts own ≡ None
    no_found = else_found own.stage (act_now acts own) planned planned_is other

    pub leaves_slots : (step : Change) → LeavesSlots step → Leads Stays step
    leaves_slots step leaves = stays step leaves no_put no_found

    pub withdraws_it : (number : ℕ) → Leads (Or (IsTakeBack number)) (change.withdraw standing.slots number)
    withdraws_it number =
        by_found (Leads (Or (IsTakeBack number))) (slice_get standing.slots number)
        (λ (slot : Slot). if slot.stands then change.take_out number (record slot { stands = false }) reply.Lost else change.told reply.NotStanding) (change.told reply.NotStanding)
        (λ slot there.
        subst (λ (slot : Slot). Leads (Or (IsTakeBack number)) (if slot.stands then change.take_out number (record slot { stands = false }) reply.Lost else change.told reply.NotStanding)) (slot_is number slot there)
        (by_test (Leads (Or (IsTakeBack number))) (slot_at standing number).stands _ _
        (λ stood. goes (IsTakeBack number) _ (withdraws rules standing key table r seat below planned.place number (inside_of number slot there) no_put no_found stood))
        (λ down. refused (IsTakeBack number) reply.NotStanding refl no_put no_found)))
        (λ none. refused (IsTakeBack number) reply.NotStanding refl no_put no_found)

    module _ (number : ℕ) (act_is : planned.act ≡ does.Request number) where
      requested_now : option_and_then (λ (planned : Planned). requested_by planned.act) (act_now acts own) ≡ Some number
      requested_now = ap (option_and_then (λ (planned : Planned). requested_by planned.act)) planned_is ∙ ap requested_by act_is

      abbrev Flags : Change → SlotTable → SlotTable → Type 0
      Flags step one new = IsRefused step one new ⊎ IsFlag (asker_no key.slots seat) number step one new

      flagging : ((slot : Slot) → change.requesting number slot own.stage ≡ change.requesting number slot stages.Between) → Leads Flags (change.request standing.slots number own.stage)
      flagging plain =
          by_found (Leads Flags) (slice_get standing.slots number) (λ (slot : Slot). change.requesting number slot own.stage) (change.told reply.NoSlot)
          (λ slot there.
          subst (Leads Flags) (sym (plain slot))
          (subst (λ (slot : Slot). Leads Flags (change.requesting number slot stages.Between)) (slot_is number slot there)
          (goes (IsFlag (asker_no key.slots seat) number) _ (flags_it rules standing key table r seat below planned.place number (inside_of number slot there) no_put no_found requested_now))))
          (λ none. refused (IsFlag (asker_no key.slots seat) number) reply.NoSlot refl no_put no_found)

      requests : (stage : Stage) → own.stage ≡ stage → Leads (Requests (asker_no key.slots seat) number stage) (change.request standing.slots number own.stage)
      requests stages.Flagged at =
          let now : asked acts own ≡ Some number = ap (λ stage. asked_at stage (act_now acts own)) at ∙ requested_now in
          let inside = ((r.askers seat below).has_flagged number now).0 in
          let done = takes_out rules standing key table r seat below planned.place number inside no_put no_found now in
          let is : change.request standing.slots number own.stage ≡ change.take_out number (slot_at standing number) reply.Nothing =
          ap (λ (o : Option Slot). option_map_or (λ (slot : Slot). change.requesting number slot own.stage) o (change.told reply.NoSlot)) (there_is number inside)
          ∙ ap (λ stage. change.requesting number (slot_at standing number) stage) at in
          subst (Leads (IsTakeOut (asker_no key.slots seat) number)) (sym is) done
      requests other at = flagging (λ slot. ap (λ stage. change.requesting number slot stage) at)

      pub requests_it : Leads (Requests (asker_no key.slots seat) number own.stage) (change.request standing.slots number own.stage)
      requests_it = requests own.stage refl
