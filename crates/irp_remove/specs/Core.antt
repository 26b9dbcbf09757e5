-- The core of the remove locks: the word of each lock, what each seat knows, and what each step does.
-- A word is the removed bit plus twice the number of stakes that hold the lock or are trying it.
use Rattle.std.specs.Prelude.{◌≡◌, ℕ, ◌+◌, ◌-◌, ◌*◌, ◌%◌, ◌^◌, ◌<◌, ◌≤◌, Bool, true, false, ◌||◌, List, [], ◌∷◌, length}
use Rattle.std.specs.Prelude.{slice_index, slice_index_or, slice_set, replicate, if◌then◌else◌, nat_eq, bit_or}
use Rattle.irp_types.specs.Limits.{most_locks, most_seats, most_held}
use mathlib.Core.Option.{some}
use lib.ListN.{get_elem?}
use Rattle.atomic_table.specs.Table.{State, Me, Step}
use Rattle.irp_remove.specs.declared.views.Stage.{Stage}
use Rattle.irp_remove.specs.declared.views.Stage.TheVariants.{Idle, Trying, Held}
use Rattle.irp_remove.specs.declared.views.Watch.{Watch}
use Rattle.irp_remove.specs.declared.views.View.{View}
use Rattle.irp_remove.specs.declared.views.View.TheVariants.{First, Observer, Stake}
use Rattle.irp_remove.specs.declared.views.Parties.{Parties}

-- a number that each view gives, added up over all views
abbrev pub total : (View → ℕ) → List View → ℕ
total measure [] = 0
total measure (view ∷ views) = measure view + total measure views

-- a truth value as a number
abbrev pub one_if : Bool → ℕ
one_if true = 1
one_if false = 0

-- the flag of a lock, false where there is none
abbrev pub flag : List Bool → ℕ → Bool
flag flags lock = slice_index_or flags lock false

-- whether a lock is among those listed
abbrev pub is_named : ℕ → List ℕ → Bool
is_named lock [] = false
is_named lock (first ∷ rest) = nat_eq first lock || is_named lock rest

-- 1 where the view is that of an observer that began the removal of the lock
abbrev pub began : ℕ → View → ℕ
began lock (First observers_left stakes_left) = 0
began lock (Observer watch) = one_if (flag watch.began lock)
began lock (Stake stage seen) = 0

-- 1 where the stage is to hold the lock or to try it
abbrev pub at_stage : ℕ → Stage → ℕ
at_stage lock Idle = 0
at_stage lock (Trying tried) = one_if (nat_eq tried lock)
at_stage lock (Held taken tag) = one_if (nat_eq taken lock)

-- 1 where the stage is to hold the lock
abbrev pub held_at : ℕ → Stage → ℕ
held_at lock Idle = 0
held_at lock (Trying tried) = 0
held_at lock (Held taken tag) = one_if (nat_eq taken lock)

-- 1 where the view is that of a stake that holds the lock or tries it
abbrev pub staked : ℕ → View → ℕ
staked lock (First observers_left stakes_left) = 0
staked lock (Observer watch) = 0
staked lock (Stake stage seen) = at_stage lock stage

-- 1 where the view is that of a stake that holds the lock
abbrev pub held : ℕ → View → ℕ
held lock (First observers_left stakes_left) = 0
held lock (Observer watch) = 0
held lock (Stake stage seen) = held_at lock stage

-- 1 where the view is that of an observer or a stake that found the removal of the lock begun
abbrev pub saw : ℕ → View → ℕ
saw lock (First observers_left stakes_left) = 0
saw lock (Observer watch) = one_if (flag watch.saw lock)
saw lock (Stake stage seen) = one_if (is_named lock seen)

-- 1 where the view is that of an observer that knows the lock drained
abbrev pub knows_drained : ℕ → View → ℕ
knows_drained lock (First observers_left stakes_left) = 0
knows_drained lock (Observer watch) = one_if (flag watch.drained lock)
knows_drained lock (Stake stage seen) = 0

-- the observers that are made, and those that are not yet made
abbrev pub observers : View → ℕ
observers (First observers_left stakes_left) = observers_left
observers (Observer watch) = 1
observers (Stake stage seen) = 0

-- the stakes that are made, and those that are not yet made
abbrev pub stakes : View → ℕ
stakes (First observers_left stakes_left) = stakes_left
stakes (Observer watch) = 0
stakes (Stake stage seen) = 1

-- What holds between any two steps. The removed bit of a lock is the number of observers that began its removal, 0 or
-- 1. The observers and the stakes, made and not yet made, are as many as the key tells, so that there are no others
pub record Kept (key : Parties) (state : State (Unit {0}) View) : Type 0 where
  pub wide : length state.words ≡ key.locks
  pub word_is : (lock : ℕ) → lock < length state.words
      → slice_index state.words lock ≡ total (began lock) state.views + 2 * total (staked lock) state.views
  pub once : (lock : ℕ) → total (began lock) state.views < 2
  pub seen : (lock : ℕ) → 0 < total (saw lock) state.views → total (began lock) state.views ≡ 1
  pub drained : (lock : ℕ) → 0 < total (knows_drained lock) state.views
      → (total (began lock) state.views ≡ 1) × (total (held lock) state.views ≡ 0)
  pub all_observers : total observers state.views ≡ key.observers
  pub all_stakes : total stakes state.views ≡ key.stakes
  pub few_observers : key.observers ≤ most_seats
  pub few_stakes : key.stakes ≤ most_seats * most_held

-- the view of the first party, which makes the others
abbrev pub at_first : Parties → View
at_first key = First key.observers key.stakes

-- a stake adds to the word of a lock: it holds the lock where the word found shows no removal, else it tries it
abbrev pub acquired : ℕ → ℕ → ℕ → View → View
acquired tag lock word (First observers_left stakes_left) = First observers_left stakes_left
acquired tag lock word (Observer watch) = Observer watch
acquired tag lock word (Stake stage seen) =
    if nat_eq (word % 2) 0 then Stake (Held lock tag) seen else Stake (Trying lock) (lock ∷ seen)

-- a stake takes back what it added
abbrev pub given_back : View → View
given_back (First observers_left stakes_left) = First observers_left stakes_left
given_back (Observer watch) = Observer watch
given_back (Stake stage seen) = Stake Idle seen

-- an observer sets the removed bit: it began the removal where the word found shows none, else it saw it
abbrev pub watch_begun : ℕ → ℕ → Watch → Watch
watch_begun lock word watch =
    if nat_eq (word % 2) 0
    then record watch { began = slice_set watch.began lock true }
    else record watch { saw = slice_set watch.saw lock true }

-- the same, of a view
abbrev pub begun : ℕ → ℕ → View → View
begun lock word (First observers_left stakes_left) = First observers_left stakes_left
begun lock word (Observer watch) = Observer (watch_begun lock word watch)
begun lock word (Stake stage seen) = Stake stage seen

-- an observer reads the word of a lock: it knows the lock drained where the word is 1
abbrev pub watch_looked : ℕ → ℕ → Watch → Watch
watch_looked lock word watch = record watch {
  drained = if nat_eq word 1 then slice_set watch.drained lock true else watch.drained;
  looks = (watch.looks + 1) % 2 ^ 64;
  lock = lock;
  word = word;
}

-- the same, of a view
abbrev pub looked : ℕ → ℕ → View → View
looked lock word (First observers_left stakes_left) = First observers_left stakes_left
looked lock word (Observer watch) = Observer (watch_looked lock word watch)
looked lock word (Stake stage seen) = Stake stage seen

-- One step that the rule allows: there is a state that keeps it, in which some party has the view and the word of the
-- lock is as given. The word and the party's view become what is given behind each, nothing else changes, and the rule
-- is kept
abbrev pub IsEvent : ℕ → ℕ → ℕ → View → View → Type 0
IsEvent lock word word_after view view_after =
    (key : Parties) × (state : State (Unit {0}) View) × (party : ℕ)
    × Kept key state × (lock < key.locks) × (get_elem? state.views party ≡ some view)
    × (slice_index state.words lock ≡ word)
    × Kept key (record {
      words = slice_set state.words lock word_after;
      homes = state.homes;
      views = slice_set state.views party view_after;
    })

-- a party of the table, in a step
abbrev pub Party : Type 0
Party = Me (Unit {0}) View

-- the operands of a step
abbrev pub At : Type 0
At = Step (Unit {0})

-- what a stake learns that adds to a word
abbrev pub acquires : ℕ → At → Party → ℕ → Party → Type 0
acquires tag at party word after =
    (after ≡ (acquired tag at.word word party.0, party.1)) × IsEvent at.word word (word + 2) party.0 after.0

-- what a stake learns that takes back what it added
abbrev pub gives_back : At → Party → ℕ → Party → Type 0
gives_back at party word after =
    (after ≡ (given_back party.0, party.1)) × IsEvent at.word word (word - 2) party.0 after.0

-- what an observer learns that sets the removed bit
abbrev pub begins : At → Party → ℕ → Party → Type 0
begins at party word after =
    (after ≡ (begun at.word word party.0, party.1)) × IsEvent at.word word (bit_or word 1) party.0 after.0

-- what an observer learns that reads a word
abbrev pub looks : At → Party → ℕ → Party → Type 0
looks at party word after =
    (after ≡ (looked at.word word party.0, party.1)) × IsEvent at.word word word party.0 after.0

-- the first party has made an observer
abbrev pub one_observer_less : View → View
one_observer_less (First observers_left stakes_left) = First (observers_left - 1) stakes_left
one_observer_less (Observer watch) = Observer watch
one_observer_less (Stake stage seen) = Stake stage seen

-- the first party has made a stake
abbrev pub one_stake_less : View → View
one_stake_less (First observers_left stakes_left) = First observers_left (stakes_left - 1)
one_stake_less (Observer watch) = Observer watch
one_stake_less (Stake stage seen) = Stake stage seen

-- an observer knows nothing when it is made
abbrev pub new_watch : Watch
new_watch = record {
  began = replicate most_locks false;
  saw = replicate most_locks false;
  drained = replicate most_locks false;
  looks = 0;
  lock = 0;
  word = 0;
}

-- the view of an observer when it is made
abbrev pub new_observer : View
new_observer = Observer new_watch

-- the view of a stake when it is made
abbrev pub new_stake : View
new_stake = Stake Idle []
