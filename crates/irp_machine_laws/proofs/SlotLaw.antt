-- The laws of slots.
use Rattle.std.proofs.Common.{◌≡◌, ℕ, ◌<◌, [], length, get_or, Some, refl, sym, ap, subst}
use Rattle.irp_script_reader.specs.declared.act.StepAct.{StepAct}
use Rattle.irp_script_reader.specs.declared.act.StepAct.TheVariants as does
use Rattle.irp_slots.specs.declared.views.Parties.{Parties}
use Rattle.irp_plain.specs.declared.parts.Change.{Change}
use Rattle.irp_machine.specs.Conditions.{act_now}
use Rattle.irp_machine.specs.declared.parts.Planned.{Planned}
use Rattle.irp_plain.specs.Changes as change
use Rattle.irp_machine.specs.Machine.{RulesValue, IsNext, seat_at, manager_behind}
use Rattle.irp_machine.specs.Next.{next_by, next_of, with_packet}
use Rattle.irp_plain.specs.Seats.{SeatValue, new_seat}
use Rattle.irp_machine.specs.Standings.{ManagerValue, StandingValue, after_change, with_manager}
use Rattle.irp_machine_laws.specs.SlotLaws.{SlotStepLaw}
use Rattle.irp_machine_laws.specs.SlotSteps.{IsStepAt}
use Rattle.irp_machine_laws.specs.SlotTables.{SlotTable, StandsFor, published_by}
use Rattle.irp_machine_laws.proofs.LockLaw.{act_found}
use Rattle.irp_machine_laws.proofs.SlotChoice.{Leads, leaves_slots, publishes, requests_it, withdraws_it}
use Rattle.irp_machine_laws.proofs.SlotLeaves.{LeavesSlots, NextIs, call_next, hand_leaves, left, lock_leaves, token_next}

-- ---- each step

module _ (rules : RulesValue) (standing : StandingValue) (key : Parties) (table : SlotTable) (r : StandsFor rules standing key table) (seat : ℕ) (below : seat < length standing.seats)
    (planned : Planned) (planned_is : act_now (get_or rules.acts seat []) (get_or standing.seats seat new_seat) ≡ Some planned) where
  abbrev own : SeatValue
  own = get_or standing.seats seat new_seat

  by_act : (act : StepAct) → planned.act ≡ act → (step : Change) → IsNext rules standing seat planned (next_by act standing own planned) step
      → Leads rules standing key table r seat below planned planned_is (IsStepAt key.slots seat act own.stage) step
  by_act (does.OnLock on) act_is step next =
      leaves_slots rules standing key table r seat below planned planned_is (ap published_by act_is) step (left rules standing seat planned (change.on_lock standing.words own on) (lock_leaves standing.words own on) step next)
  by_act (does.Hand given) act_is step next =
      leaves_slots rules standing key table r seat below planned planned_is (ap published_by act_is) step (left rules standing seat planned (change.hand standing.words standing.seats own given) (hand_leaves standing.words standing.seats own given) step next)
  by_act (does.Withdraw slot) act_is step next =
      subst (Leads rules standing key table r seat below planned planned_is (IsStepAt key.slots seat (does.Withdraw slot) own.stage)) (sym next)
      (withdraws_it rules standing key table r seat below planned planned_is (ap published_by act_is) slot)
  by_act (does.Request slot) act_is step next =
      subst (Leads rules standing key table r seat below planned planned_is (IsStepAt key.slots seat (does.Request slot) own.stage)) (sym next)
      (requests_it rules standing key table r seat below planned planned_is (ap published_by act_is) slot act_is)
  by_act (does.Publish slot irp) act_is step next = publishes rules standing key table r seat below planned planned_is slot irp act_is step next
  by_act (does.Call call) act_is step next =
      leaves_slots rules standing key table r seat below planned planned_is (ap published_by act_is) step
      (token_next rules standing seat planned own
      (λ irp. subst (λ (act : StepAct). NextIs rules standing seat planned LeavesSlots (with_packet standing own act irp)) (sym act_is)
      (call_next rules standing seat planned own (does.Call call) irp)) step next)
  by_act (does.Allocate size label) act_is step next =
      leaves_slots rules standing key table r seat below planned planned_is (ap published_by act_is) step
      (token_next rules standing seat planned own
      (λ irp. subst (λ (act : StepAct). NextIs rules standing seat planned LeavesSlots (with_packet standing own act irp)) (sym act_is)
      (call_next rules standing seat planned own (does.Allocate size label) irp)) step next)

-- no table hangs on the manager
beside : (rules : RulesValue) (standing : StandingValue) (key : Parties) (table : SlotTable) (manager : ManagerValue) → StandsFor rules standing key table
    → StandsFor rules (with_manager standing manager) key table
beside rules standing key table manager r = record {
  kept = r.kept;
  homes = r.homes;
  slots = r.slots;
  owned = r.owned;
  askers = r.askers;
}

pub slot_step_law : SlotStepLaw
slot_step_law rules standing key table seat planned step r is next =
    let found = act_found rules.acts standing.seats seat planned is in
    let done = by_act rules standing key table r seat found.0 planned found.1 planned.act refl step next in
    let manager = manager_behind rules standing seat planned (next_of standing (seat_at standing seat) planned) step next in
    (done.0, done.1, beside rules (after_change seat step planned.place rules.tells standing) key done.0 manager done.2)
