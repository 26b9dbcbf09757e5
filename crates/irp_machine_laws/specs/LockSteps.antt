-- What a step of a seat at the remove locks is to the table that the machine stands for.
use Rattle.std.specs.Prelude.{◌≡◌, ◌⊎◌, ℕ, ◌+◌, ◌-◌, ◌%◌, ◌==◌, Bool, true, false, if◌then◌else◌, List}
use Rattle.std.specs.Prelude.{slice_index, slice_set, bit_or, Some, None}
use mathlib.Core.Option.{some}
use lib.ListN.{get_elem?}
use Rattle.irp_types.specs.declared.seat_act.LockAct.{LockAct}
use Rattle.irp_types.specs.declared.seat_act.LockAct.TheVariants.{Acquire, Release, BeginRemove, Drained as AsksDrained}
use Rattle.irp_transcript.specs.declared.word_line.WordReply.{WordReply}
use Rattle.irp_transcript.specs.declared.word_line.WordReply.TheVariants as reply
use Rattle.irp_script_reader.specs.declared.act.StepAct.{StepAct}
use Rattle.irp_script_reader.specs.declared.act.StepAct.TheVariants as does
use Rattle.irp_remove.specs.declared.views.Stage.{Stage as StakeStage}
use Rattle.irp_remove.specs.declared.views.Stage.TheVariants.{Idle, Trying, Held}
use Rattle.irp_remove.specs.declared.views.Watch.{Watch}
use Rattle.irp_remove.specs.declared.views.View.{View}
use Rattle.irp_remove.specs.declared.views.View.TheVariants.{Observer, Stake}
use Rattle.irp_remove.specs.Core.{IsEvent, acquired, given_back, begun, looked}
use Rattle.irp_plain.specs.declared.parts.Change.{Change}
use Rattle.irp_plain.specs.declared.parts.After.TheVariants.{In, Told}
use Rattle.irp_plain.specs.declared.parts.Stage.{Stage}
use Rattle.irp_plain.specs.declared.parts.Stage.TheVariants as stages
use Rattle.irp_plain.specs.declared.answered.Answered.TheVariants.{Word}
use Rattle.irp_machine_laws.specs.LockTables.{LockTable}

-- the word of a lock
abbrev pub word_of : LockTable → ℕ → ℕ
word_of table lock = slice_index table.words lock

-- a table in which one word and one party's view are others
abbrev pub moved : LockTable → ℕ → ℕ → ℕ → View → LockTable
moved table lock word party view = record {
  words = slice_set table.words lock word;
  homes = table.homes;
  views = slice_set table.views party view;
}

-- a party takes a step that the rule of the table allows: a word becomes this, and the party's view that
abbrev pub Takes : ℕ → ℕ → ℕ → View → View → LockTable → LockTable → Type 0
Takes lock word party view view_after table new =
    (get_elem? table.views party ≡ some view) × (new ≡ moved table lock word party view_after)
    × IsEvent lock (word_of table lock) word view view_after

-- the machine writes this word
abbrev pub Writes : ℕ → ℕ → Change → Type 0
Writes lock word step = step.word ≡ Some (record { lock = lock; word = word })

-- the step is answered so
abbrev pub Answers : WordReply → Change → Type 0
Answers answer step = step.after ≡ Told (Word answer)

-- an answer that the machine gives without a step of the table
abbrev pub is_refusal : WordReply → Bool
is_refusal reply.SeatFull = true
is_refusal reply.DeletePending = true
is_refusal reply.NoLock = true
is_refusal reply.NotHeld = true
is_refusal other = false

-- nothing happens at the table, and no word is written
abbrev pub Stays : Change → LockTable → LockTable → Type 0
Stays step table new = (step.word ≡ None) × (new ≡ table)

-- the same, and the act is refused
abbrev pub IsRefused : Change → LockTable → LockTable → Type 0
IsRefused step table new =
    (answer : WordReply) × (is_refusal answer ≡ true) × Answers answer step × Stays step table new

-- a stake that was idle adds to the word: the seat holds the lock where the word found is even, and else tries it
pub record IsAcquire (lock tag : ℕ) (step : Change) (table new : LockTable) : Type 0 where
  pub party : ℕ
  pub seen : List ℕ
  pub takes :
      Takes lock (word_of table lock + 2) party (Stake Idle seen)
      (acquired tag lock (word_of table lock) (Stake Idle seen)) table new
  pub writes : Writes lock (word_of table lock + 2) step
  pub after :
      step.after ≡ (if word_of table lock % 2 == 0 then Told (Word reply.Acquired) else In stages.Tried)

-- a stake at this stage takes back what it added, and the step is answered so
pub record IsGivenBack (lock : ℕ) (stage : StakeStage) (answer : WordReply) (step : Change) (table new : LockTable)
    : Type 0 where
  pub party : ℕ
  pub seen : List ℕ
  pub takes :
      Takes lock (word_of table lock - 2) party (Stake stage seen) (given_back (Stake stage seen)) table new
  pub writes : Writes lock (word_of table lock - 2) step
  pub after : Answers answer step

-- the observer of the seat sets the removed bit
pub record IsBegin (seat lock : ℕ) (step : Change) (table new : LockTable) : Type 0 where
  pub watch : Watch
  pub takes :
      Takes lock (bit_or (word_of table lock) 1) seat (Observer watch)
      (begun lock (word_of table lock) (Observer watch)) table new
  pub writes : Writes lock (bit_or (word_of table lock) 1) step
  pub after :
      step.after ≡ (if word_of table lock % 2 == 0 then In stages.Begun else Told (Word reply.AlreadyRemoving))

-- the observer of the seat reads the word
pub record IsLook (seat lock : ℕ) (step : Change) (table new : LockTable) : Type 0 where
  pub watch : Watch
  pub takes :
      Takes lock (word_of table lock) seat (Observer watch) (looked lock (word_of table lock) (Observer watch)) table
      new
  pub writes : step.word ≡ None
  pub after :
      step.after ≡ Told (Word (if word_of table lock == 1 then reply.Yes else reply.Busy (word_of table lock)))

-- what the step of a seat is, by the seat's act and how far it is in that
abbrev pub AtLock : ℕ → LockAct → Stage → Change → LockTable → LockTable → Type 0
AtLock seat (Acquire lock tag) stages.Tried step table new =
    IsGivenBack lock.0 (Trying lock.0) reply.DeletePending step table new
AtLock seat (Acquire lock tag) other step table new =
    IsRefused step table new ⊎ IsAcquire lock.0 tag step table new
AtLock seat (Release lock tag) stage step table new =
    IsRefused step table new ⊎ IsGivenBack lock.0 (Held lock.0 tag) reply.Done step table new
AtLock seat (BeginRemove lock tag) stages.Begun step table new =
    IsRefused step table new ⊎ IsGivenBack lock.0 (Held lock.0 tag) reply.Done step table new
AtLock seat (BeginRemove lock tag) other step table new =
    IsRefused step table new ⊎ IsBegin seat lock.0 step table new
AtLock seat (AsksDrained lock) stage step table new =
    IsRefused step table new ⊎ IsLook seat lock.0 step table new

-- the same of every act: one that is not at a lock leaves the table as it is
abbrev pub IsStepAt : ℕ → StepAct → Stage → Change → LockTable → LockTable → Type 0
IsStepAt seat (does.OnLock act) stage step table new = AtLock seat act stage step table new
IsStepAt seat other stage step table new = Stays step table new
