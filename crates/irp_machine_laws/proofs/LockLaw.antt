-- The laws of locks.
use Rattle.std.proofs.Common.{◌≡◌, ℕ, zero, suc, ◌<◌, List, [], ◌∷◌, length, get_or, Some, None, refl, sym, ap, subst, arith}
use Rattle.std.specs.Prelude.{slice_get}
use Rattle.std.specs.Option.{option_and_then}
use Rattle.irp_script_reader.specs.declared.act.StepAct.{StepAct}
use Rattle.irp_script_reader.specs.declared.act.StepAct.TheVariants as does
use Rattle.irp_remove.specs.declared.views.Parties.{Parties}
use Rattle.irp_plain.specs.declared.parts.Change.{Change}
use Rattle.irp_machine_laws.proofs.Now.{place_now, stands_at}
use Rattle.irp_machine.specs.Conditions.{act_now}
use Rattle.irp_machine.specs.declared.parts.Planned.{Planned}
use Rattle.irp_plain.specs.Changes as change
use Rattle.irp_machine.specs.Machine.{RulesValue, IsNext, seat_at, manager_behind}
use Rattle.irp_machine.specs.Next.{next_by, next_of}
use Rattle.irp_plain.specs.Seats.{SeatValue, new_seat}
use Rattle.irp_machine.specs.Standings.{ManagerValue, StandingValue, after_change, with_manager}
use Rattle.irp_machine_laws.specs.Hands.{HandsLand}
use Rattle.irp_machine_laws.specs.LockLaws.{LockStepLaw}
use Rattle.irp_machine_laws.specs.LockSteps.{IsStepAt, Stays}
use Rattle.irp_machine_laws.specs.LockTables.{LockTable, StandsFor, acquired_by}
use Rattle.irp_machine_laws.proofs.LockActs.{After, leaves}
use Rattle.irp_machine_laws.proofs.LockChoice.{lock_step, none_else}
use Rattle.irp_machine_laws.proofs.LockHands.{hand_step_keeps}
use Rattle.irp_machine_laws.proofs.Leaves.{Leaves, changes_leave, request_leaves, token_next, withdraw_leaves}

-- the act of a seat is one of its acts, and the seat is there
pub act_found : (acts : List (List Planned)) (seats : List SeatValue) (seat : ℕ) (planned : Planned)
    → option_and_then (λ (own : SeatValue). option_and_then (λ (acts : List Planned). act_now acts own) (slice_get acts seat)) (slice_get seats seat) ≡ Some planned
    → (seat < length seats) × (act_now (get_or acts seat []) (get_or seats seat new_seat) ≡ Some planned)
act_found acts [] seat planned is = absurd (let bad : ⊥ = cc in bad)
act_found [] (own ∷ seats) zero planned is = absurd (let bad : ⊥ = cc in bad)
act_found [] (own ∷ seats) (suc seat) planned is = let rest = act_found [] seats seat planned is in (omega (arith, rest.0), rest.1)
act_found (one ∷ acts) (own ∷ seats) zero planned is = (omega arith, is)
act_found (one ∷ acts) (own ∷ seats) (suc seat) planned is = let rest = act_found acts seats seat planned is in (omega (arith, rest.0), rest.1)

module _ (rules : RulesValue) (standing : StandingValue) (key : Parties) (table : LockTable) (r : StandsFor rules standing key table) (seat : ℕ) (below : seat < length standing.seats)
    (planned : Planned) (planned_is : act_now (get_or rules.acts seat []) (get_or standing.seats seat new_seat) ≡ Some planned) (lands : HandsLand rules.acts (length standing.seats)) where
  abbrev own : SeatValue
  own = get_or standing.seats seat new_seat

  abbrev Leads : (Change → LockTable → LockTable → Type 0) → Change → Type 0
  Leads kind step = After rules standing key table r seat below planned.place kind step

  stays : (step : Change) → acquired_by planned.act ≡ None → Leaves step → Leads Stays step
  stays step other gone =
      (table, (gone.0, refl), leaves rules standing key table r seat below planned.place step gone (none_else own.stage (act_now (get_or rules.acts seat []) own) planned planned_is other))

  by_act : (act : StepAct) → planned.act ≡ act → (step : Change) → IsNext rules standing seat planned (next_by act standing own planned) step → Leads (IsStepAt seat act own.stage) step
  by_act (does.OnLock on) act_is step next = subst (Leads (IsStepAt seat (does.OnLock on) own.stage)) (sym next) (lock_step rules standing key table r seat below planned.place planned planned_is on act_is)
  by_act (does.Hand given) act_is step next =
      let before = none_else own.stage (act_now (get_or rules.acts seat []) own) planned planned_is (ap acquired_by act_is) in
      subst (Leads (IsStepAt seat (does.Hand given) own.stage)) (sym next)
      (hand_step_keeps rules standing key table r seat below planned.place before given (lands seat (place_now (get_or rules.acts seat []) own) planned (stands_at (get_or rules.acts seat []) own planned planned_is) given act_is))
  by_act (does.Withdraw slot) act_is step next = stays step (ap acquired_by act_is) (changes_leave rules standing seat planned (change.withdraw standing.slots slot) (withdraw_leaves standing.slots slot) step next)
  by_act (does.Request slot) act_is step next = stays step (ap acquired_by act_is) (changes_leave rules standing seat planned (change.request standing.slots slot own.stage) (request_leaves standing.slots slot own.stage) step next)
  by_act (does.Publish slot irp) act_is step next = stays step (ap acquired_by act_is) (token_next rules standing seat planned own step next)
  by_act (does.Call call) act_is step next = stays step (ap acquired_by act_is) (token_next rules standing seat planned own step next)
  by_act (does.Allocate size label) act_is step next = stays step (ap acquired_by act_is) (token_next rules standing seat planned own step next)

-- no table hangs on the manager
beside : (rules : RulesValue) (standing : StandingValue) (key : Parties) (table : LockTable) (manager : ManagerValue) → StandsFor rules standing key table
    → StandsFor rules (with_manager standing manager) key table
beside rules standing key table manager r = record {
  kept = r.kept;
  words = r.words;
  homes = r.homes;
  observers = r.observers;
  held_is = r.held_is;
  tried_is = r.tried_is;
  busy_is = r.busy_is;
  inside = r.inside;
  few_held = r.few_held;
  few_locks = r.few_locks;
  few_seats = r.few_seats;
  all_made = r.all_made;
}

pub lock_step_law : LockStepLaw
lock_step_law rules standing key table seat planned step lands r is next =
    let found = act_found rules.acts standing.seats seat planned is in
    let done = by_act rules standing key table r seat found.0 planned found.1 lands planned.act refl step next in
    let manager = manager_behind rules standing seat planned (next_of standing (seat_at standing seat) planned) step next in
    (done.0, done.1, beside rules (after_change seat step planned.place rules.tells standing) key done.0 manager done.2)
