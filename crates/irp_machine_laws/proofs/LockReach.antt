-- What holds of each lock behind each order.
use Rattle.std.proofs.Common.{◌≡◌, ℕ, ◌<◌, ◌≤◌, Bool, true, false, ◌&&◌, eqb, get_or, sym, ap, ◌∙◌, subst, arith}
use Rattle.irp_types.specs.declared.names.LockNo.{LockNo}
use Rattle.irp_remove.specs.declared.views.Stage.{Stage}
use Rattle.irp_remove.specs.declared.views.Stage.TheVariants.{Idle, Trying, Held}
use Rattle.irp_remove.specs.declared.views.View.{View}
use Rattle.irp_remove.specs.declared.views.View.TheVariants.{First, Observer, Stake}
use Rattle.irp_remove.specs.declared.views.Parties.{Parties}
use Rattle.irp_remove.specs.Core.{held, held_at, knows_drained, one_if as as_one}
use Rattle.irp_remove.proofs.Steps.{word_facts}
use Rattle.irp_remove.proofs.Totals.{part_of_total, total_le}
use Rattle.irp_machine.specs.Machine.{RulesValue}
use Rattle.irp_machine.specs.Openings.{rules_of}
use Rattle.irp_machine.specs.Standings.{StandingValue}
use Rattle.irp_machine_laws.specs.LockLaws.{IsSoundAt, LockReachLaw}
use Rattle.irp_machine_laws.specs.LockTables.{LockTable, StandsFor, holding_at, holds, of_stake}
use Rattle.irp_machine_laws.specs.Seats.{one_if}
use Rattle.irp_machine_laws.proofs.LockOpening.{lock_order_law}
use Rattle.irp_machine_laws.proofs.Sums.{part_of_seats}

-- a stake that holds a lock under a tag holds the lock
part : (a b : Bool) → one_if (a && b) ≤ as_one a
part true true = omega arith
part true false = omega arith
part false b = omega arith

held_stage : (lock tag : ℕ) (stage : Stage) → holding_at lock tag stage ≤ held_at lock stage
held_stage lock tag Idle = omega arith
held_stage lock tag (Trying one) = omega arith
held_stage lock tag (Held one under) = part (eqb one lock) (eqb under tag)

held_view : (lock tag : ℕ) (view : View) → of_stake (holding_at lock tag) view ≤ held lock view
held_view lock tag (First observers_left stakes_left) = omega arith
held_view lock tag (Observer watch) = omega arith
held_view lock tag (Stake stage seen) = held_stage lock tag stage

sound_at : (rules : RulesValue) (standing : StandingValue) (key : Parties) (table : LockTable) → StandsFor rules standing key table → (lock : LockNo) → lock.0 < key.locks → IsSoundAt standing lock
sound_at rules standing key table r lock inside =
    let facts = word_facts key table r.kept lock.0 inside in
    let word_is : get_or standing.words lock.0 0 ≡ get_or table.words lock.0 0 = ap (λ ws. get_or ws lock.0 0) (sym r.words) in
    record {
      small = omega (arith, facts.0, facts.1, facts.2);
      drained = λ seat below knows.
          let watches = r.observers seat below in
          let flagged = sym (watches.2.drained lock.0 inside) ∙ knows in
          let one : knows_drained lock.0 (Observer watches.0) ≡ 1 = ap as_one flagged in
          let mine = part_of_total (knows_drained lock.0) table.views seat (Observer watches.0) watches.1 in
          let drained = r.kept.drained lock.0 (omega arith) in
          let begun = drained.0 in
          let none = drained.1 in (
            omega (arith, facts.0, begun),
            λ other tag there.
                let most = total_le (of_stake (holding_at lock.0 tag)) (held lock.0) (held_view lock.0 tag) table.views in
                let all = r.held_is lock.0 tag in
                let theirs = part_of_seats (holds lock.0 tag) rules.acts standing.seats other there in
                omega arith,
          );
    }

pub lock_reach_law : LockReachLaw
lock_reach_law header script rivals steps tells start path new order lock less =
    let done = lock_order_law header script rivals steps tells start path new order in
    sound_at (rules_of header script rivals steps tells) new done.0 done.2 done.6 lock (subst (λ (n : ℕ). lock.0 < n) (sym done.3) less)
