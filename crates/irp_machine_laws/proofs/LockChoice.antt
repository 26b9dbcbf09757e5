-- Every step of a seat at a remove lock, whatever the act and how far the seat is in it.
use Rattle.std.proofs.Common.{◌≡◌, ◌⊎◌, inl, inr, ℕ, ◌<◌, true, false, eq-eqb, List, [], length, get_or, Option, Some, None, if◌then◌else◌, refl, ap, ◌∙◌, subst, arith}
use Rattle.std.specs.Prelude.{slice_get, nat_eq, nat_le, position, is_some}
use Rattle.std.specs.List.{list_any}
use Rattle.std.specs.Option.{option_map_or, option_and_then}
use Rattle.std.proofs.lemmas.Bool.{leb-false}
use Rattle.std.proofs.lemmas.Option.{get_or_from_slice_get, slice_get_within, slice_get-get_or}
use Rattle.irp_types.specs.declared.names.LockNo.{LockNo}
use Rattle.irp_types.specs.declared.seat_act.LockAct.{LockAct}
use Rattle.irp_types.specs.declared.seat_act.LockAct.TheVariants.{Acquire, Release, BeginRemove, Drained as AsksDrained}
use Rattle.irp_transcript.specs.declared.word_line.WordReply.{WordReply}
use Rattle.irp_transcript.specs.declared.word_line.WordReply.TheVariants as reply
use Rattle.irp_script_reader.specs.declared.act.StepAct.TheVariants as does
use Rattle.irp_remove.specs.declared.views.Stage.TheVariants.{Trying, Held}
use Rattle.irp_remove.specs.declared.views.Parties.{Parties}
use Rattle.irp_plain.specs.declared.parts.Change.{Change}
use Rattle.irp_plain.specs.declared.parts.ActPlace.{ActPlace}
use Rattle.irp_machine.specs.Conditions.{act_now}
use Rattle.irp_machine.specs.declared.parts.Planned.{Planned}
use Rattle.irp_plain.specs.declared.parts.Stage.{Stage}
use Rattle.irp_plain.specs.declared.parts.Stage.TheVariants as stages
use Rattle.irp_plain.specs.Changes as change
use Rattle.irp_machine.specs.Machine.{RulesValue}
use Rattle.irp_plain.specs.Seats.{SeatValue, new_seat, is_held, is_removed}
use Rattle.irp_machine.specs.Standings.{StandingValue}
use Rattle.irp_machine_laws.specs.Seats.{one_if}
use Rattle.irp_machine_laws.specs.LockTables.{LockTable, StandsFor, tried, tried_at, tries, acquired_by}
use Rattle.irp_machine_laws.specs.LockSteps.{IsRefused, IsAcquire, IsGivenBack, IsBegin, IsLook, AtLock, is_refusal}
use Rattle.irp_machine_laws.proofs.Sums.{part_of_seats}
use Rattle.irp_machine_laws.proofs.LockActs.{After, by_test, by_found, not_tried, refuses, acquires, missed, releases}
use Rattle.irp_machine_laws.proofs.LockObserving.{begins, looks}
use Rattle.irp_machine_laws.proofs.Leaves.{is_trying}

-- a seat in an act that acquires nothing tries nothing
pub none_else : (stage : Stage) (found : Option Planned) (planned : Planned) → found ≡ Some planned → acquired_by planned.act ≡ None → tried_at stage found ≡ None
none_else stages.Tried found planned is other = ap (option_and_then (λ (planned : Planned). acquired_by planned.act)) is ∙ other
none_else other found planned is none = refl

module _ (rules : RulesValue) (standing : StandingValue) (key : Parties) (table : LockTable) (r : StandsFor rules standing key table) (seat : ℕ) (below : seat < length standing.seats)
    (which : ActPlace) (planned : Planned) (planned_is : act_now (get_or rules.acts seat []) (get_or standing.seats seat new_seat) ≡ Some planned) where
  abbrev own : SeatValue
  own = get_or standing.seats seat new_seat

  abbrev acts : List Planned
  acts = get_or rules.acts seat []

  abbrev Leads : (Change → LockTable → LockTable → Type 0) → Change → Type 0
  Leads kind step = After rules standing key table r seat below which kind step

  -- refusals, and the other way that an act may go
  abbrev Or : (Change → LockTable → LockTable → Type 0) → Change → LockTable → LockTable → Type 0
  Or kind step one new = IsRefused step one new ⊎ kind step one new

  refused : (kind : Change → LockTable → LockTable → Type 0) (answer : WordReply) → is_refusal answer ≡ true → tried acts own ≡ None → Leads (Or kind) (change.told answer)
  refused kind answer plain before = let done = refuses rules standing key table r seat below which answer plain before in (done.0, inl done.1, done.2)

  goes : (kind : Change → LockTable → LockTable → Type 0) (step : Change) → Leads kind step → Leads (Or kind) step
  goes kind step done = (done.0, inr done.1, done.2)

  module _ (lock word : ℕ) (there : slice_get standing.words lock ≡ Some word) where
    less : lock < length standing.words
    less = slice_get_within standing.words lock word there

    word_is : get_or table.words lock 0 ≡ word
    word_is = ap (λ (ws : List ℕ). get_or ws lock 0) r.words ∙ get_or_from_slice_get standing.words lock word 0 there

    acquire_anew : (tag : ℕ) → acquired_by planned.act ≡ Some lock → is_trying own.stage ≡ false → Leads (Or (IsAcquire lock tag)) (change.acquiring_anew word own lock tag)
    acquire_anew tag act_is still =
        let before : tried acts own ≡ None = not_tried own.stage (act_now acts own) still in
        let behind : tried_at stages.Tried (act_now acts own) ≡ Some lock = ap (option_and_then (λ (planned : Planned). acquired_by planned.act)) planned_is ∙ act_is in
        subst (λ (word : ℕ). Leads (Or (IsAcquire lock tag)) (change.acquiring_anew word own lock tag)) word_is
        (by_test (Leads (Or (IsAcquire lock tag))) (nat_le change.most_held (length own.held)) _ _
        (λ full. refused (IsAcquire lock tag) reply.SeatFull refl before)
        (λ room. by_test (Leads (Or (IsAcquire lock tag))) (list_any (is_removed lock) own.learned) _ _
        (λ removed. refused (IsAcquire lock tag) reply.DeletePending refl before)
        (λ unknown. goes (IsAcquire lock tag) _ (acquires rules standing key table r seat below which lock less tag before (leb-false 64 (length own.held) room) behind))))

    release : (tag : ℕ) → acquired_by planned.act ≡ None → Leads (Or (IsGivenBack lock (Held lock tag) reply.Done)) (change.releasing word own lock tag)
    release tag other =
        subst (λ (word : ℕ). Leads (Or (IsGivenBack lock (Held lock tag) reply.Done)) (change.releasing word own lock tag)) word_is
        (releases rules standing key table r seat below which lock less tag (none_else own.stage (act_now acts own) planned planned_is other))

    begin_anew : (tag : ℕ) → acquired_by planned.act ≡ None
        → Leads (Or (IsBegin seat lock)) (if is_some (position (is_held lock tag) own.held) then change.begin word lock else change.told reply.NotHeld)
    begin_anew tag other =
        let before = none_else own.stage (act_now acts own) planned planned_is other in
        by_test (Leads (Or (IsBegin seat lock))) (is_some (position (is_held lock tag) own.held)) _ _
        (λ yes_held. subst (λ (word : ℕ). Leads (Or (IsBegin seat lock)) (change.begin word lock)) word_is
        (goes (IsBegin seat lock) _ (begins rules standing key table r seat below which lock less before)))
        (λ none. refused (IsBegin seat lock) reply.NotHeld refl before)

    look : acquired_by planned.act ≡ None → Leads (Or (IsLook seat lock)) (change.looking word lock)
    look other =
        let before = none_else own.stage (act_now acts own) planned planned_is other in
        subst (λ (word : ℕ). Leads (Or (IsLook seat lock)) (change.looking word lock)) word_is
        (goes (IsLook seat lock) _ (looks rules standing key table r seat below which lock less before))

    retreat : (tag : ℕ) → acquired_by planned.act ≡ Some lock → own.stage ≡ stages.Tried
        → Leads (IsGivenBack lock (Trying lock) reply.DeletePending) (change.acquiring_at stages.Tried word own lock tag)
    retreat tag act_is at =
        let now : tried acts own ≡ Some lock = ap (λ stage. tried_at stage (act_now acts own)) at ∙ (ap (option_and_then (λ (planned : Planned). acquired_by planned.act)) planned_is ∙ act_is) in
        subst (λ (word : ℕ). Leads (IsGivenBack lock (Trying lock) reply.DeletePending) (change.acquiring_at stages.Tried word own lock tag)) word_is
        (missed rules standing key table r seat below which lock less now)

  -- an act whose lock is there
  module _ (word : ℕ) where
    acquire_at : (lock : LockNo) (tag : ℕ) → slice_get standing.words lock.0 ≡ Some word → acquired_by planned.act ≡ Some lock.0
        → (stage : Stage) → own.stage ≡ stage → Leads (AtLock seat (Acquire lock tag) stage) (change.acquiring_at stage word own lock.0 tag)
    acquire_at lock tag there act_is stages.Tried at = retreat lock.0 word there tag act_is at
    acquire_at lock tag there act_is other at = acquire_anew lock.0 word there tag act_is (ap is_trying at)

    begin_at : (lock : LockNo) (tag : ℕ) → slice_get standing.words lock.0 ≡ Some word → acquired_by planned.act ≡ None
        → (stage : Stage) → Leads (AtLock seat (BeginRemove lock tag) stage) (change.beginning_at stage word own lock.0 tag)
    begin_at lock tag there other stages.Begun = release lock.0 word there tag other
    begin_at lock tag there other stage = begin_anew lock.0 word there tag other

    word_step : (on : LockAct) → planned.act ≡ does.OnLock on → slice_get standing.words (change.lock_of on) ≡ Some word → Leads (AtLock seat on own.stage) (change.on_word word own on)
    word_step (Acquire lock tag) act_is there = acquire_at lock tag there (ap acquired_by act_is) own.stage refl
    word_step (Release lock tag) act_is there = release lock.0 word there tag (ap acquired_by act_is)
    word_step (BeginRemove lock tag) act_is there = begin_at lock tag there (ap acquired_by act_is) own.stage
    word_step (AsksDrained lock) act_is there = look lock.0 word there (ap acquired_by act_is)

  -- a lock that is not there
  none_there : (lock : ℕ) → slice_get standing.words lock ≡ None → tried acts own ≡ Some lock → ⊥
  none_there lock none now =
      let mine : tries lock acts own ≡ 1 = ap (λ o. option_map_or (λ one. one_if (nat_eq one lock)) o 0) now ∙ ap one_if (eq-eqb lock lock refl) in
      let part = part_of_seats (tries lock) rules.acts standing.seats seat below in
      let all = r.tried_is lock in
      let in_table = r.inside lock (omega arith) in
      let wide = r.kept.wide in
      let same = ap length r.words in
      let there = slice_get-get_or standing.words lock 0 (omega arith) in
      cc

  acquire_nowhere : (lock : LockNo) (tag : ℕ) → slice_get standing.words lock.0 ≡ None → acquired_by planned.act ≡ Some lock.0
      → (stage : Stage) → own.stage ≡ stage → Leads (AtLock seat (Acquire lock tag) stage) (change.told reply.NoLock)
  acquire_nowhere lock tag none act_is stages.Tried at =
      absurd (none_there lock.0 none (ap (λ stage. tried_at stage (act_now acts own)) at ∙ (ap (option_and_then (λ (planned : Planned). acquired_by planned.act)) planned_is ∙ act_is)))
  acquire_nowhere lock tag none act_is other at = refused (IsAcquire lock.0 tag) reply.NoLock refl (not_tried own.stage (act_now acts own) (ap is_trying at))

  begin_nowhere : (lock : LockNo) (tag : ℕ) → acquired_by planned.act ≡ None → (stage : Stage) → Leads (AtLock seat (BeginRemove lock tag) stage) (change.told reply.NoLock)
  begin_nowhere lock tag other stages.Begun = refused (IsGivenBack lock.0 (Held lock.0 tag) reply.Done) reply.NoLock refl (none_else own.stage (act_now acts own) planned planned_is other)
  begin_nowhere lock tag other stage = refused (IsBegin seat lock.0) reply.NoLock refl (none_else own.stage (act_now acts own) planned planned_is other)

  nowhere : (on : LockAct) → planned.act ≡ does.OnLock on → slice_get standing.words (change.lock_of on) ≡ None → Leads (AtLock seat on own.stage) (change.told reply.NoLock)
  nowhere (Acquire lock tag) act_is none = acquire_nowhere lock tag none (ap acquired_by act_is) own.stage refl
  nowhere (Release lock tag) act_is none = refused (IsGivenBack lock.0 (Held lock.0 tag) reply.Done) reply.NoLock refl (none_else own.stage (act_now acts own) planned planned_is (ap acquired_by act_is))
  nowhere (BeginRemove lock tag) act_is none = begin_nowhere lock tag (ap acquired_by act_is) own.stage
  nowhere (AsksDrained lock) act_is none = refused (IsLook seat lock.0) reply.NoLock refl (none_else own.stage (act_now acts own) planned planned_is (ap acquired_by act_is))

  -- each act at a lock
  pub lock_step : (on : LockAct) → planned.act ≡ does.OnLock on → Leads (AtLock seat on own.stage) (change.on_lock standing.words own on)
  lock_step on act_is =
      by_found (Leads (AtLock seat on own.stage)) (slice_get standing.words (change.lock_of on)) (λ word. change.on_word word own on) (change.told reply.NoLock)
      (λ word there. word_step word on act_is there)
      (λ none. nowhere on act_is none)
