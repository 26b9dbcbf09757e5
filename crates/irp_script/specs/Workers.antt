-- What clauses read of workers.
use Rattle.std.specs.Prelude.{ℕ, ◌≡◌, ◌%◌, All, Bool, List, [], None, map, sum_by}
use Rattle.std.specs.List.{count_by}
use Rattle.irp_remove.specs.declared.table.Locks.{Locks}
use Rattle.irp_transcript.specs.declared.word_line.WordLine.{WordLine}
use Rattle.irp_script_reader.specs.declared.act.Step.{Step}
use Rattle.irp_script.specs.declared.script_seat.ScriptSeat.{ScriptSeat}
use Rattle.irp_script.specs.declared.worker.Worker.{Worker}
use Rattle.irp_steps.specs.Conditions.{none_heard}
use Rattle.irp_script.specs.Labels.{Known, known_to}
use Rattle.irp_script.specs.Seats.{number_of, seats_at_work}
use Rattle.irp_script.specs.Stops.{Terms}
use Rattle.irp_script.specs.Working.{MakesOwn, Working, working}

-- its seats as they are at work, its word lines, what it knows of the labels, and what its steps were answered
abbrev pub work_of : {L : _} {session : _} → Worker L session → Working
work_of worker = working (seats_at_work worker.seats.items) worker.words.items worker.known worker.heard.items

-- what each of some knows of the labels
abbrev pub knowns_of : {L : _} {session : _} → List (Worker L session) → List Known
knowns_of workers = map (λ worker. worker.known) workers

-- it has the same number among as many workers, at the same locks, and goes on as it did
abbrev pub IsSameWorker : {L : _} {session : _}
    → Worker L session → Worker L session → Type 0
IsSameWorker before after =
    (after.number ≡ before.number) × (after.workers ≡ before.workers)
    × (after.stop ≡ before.stop) × (after.locks.now ≡ before.locks.now)

-- it has this number among so many workers, has run nothing, has no seat, and knows of the labels what it is to know
-- before these steps, of which it heard nothing yet, at these locks
abbrev pub IsIdle : {L : _} {session : _}
    → ℕ → List Step → Known → Locks → ℕ → Worker L session → Type 0
IsIdle workers steps known locks number worker =
    (worker.number ≡ number) × (worker.workers ≡ workers) × (worker.words.items ≡ [])
    × (worker.stop ≡ None) × (worker.seats.items ≡ []) × (worker.locks.now ≡ locks)
    × (worker.known ≡ known_to number workers steps known) × (worker.heard.items ≡ none_heard steps)

-- it has this number among so many workers, has run nothing, has seats of its own alone, and knows of the labels what it
-- is to know before these steps, of which it heard nothing yet
abbrev pub IsReady : {L : _} {session : _} → ℕ → List Step → Known → ℕ → Worker L session → Type 0
IsReady workers steps known number worker =
    (worker.number ≡ number) × (worker.workers ≡ workers) × (worker.words.items ≡ [])
    × (worker.stop ≡ None) × All (λ own. number_of own % workers ≡ number) worker.seats.items
    × (worker.known ≡ known_to number workers steps known) × (worker.heard.items ≡ none_heard steps)

-- in a session of these terms it ran its own among the steps, up to the first that wasn't made
abbrev pub RunsOwn : {L : _} {session : _}
    → Terms → List Step → Worker L session → Worker L session → Type 0
RunsOwn terms steps before after =
    MakesOwn terms before.number before.workers steps (work_of before) (work_of after) after.stop

-- how many of the workers' seats pass a test, and how many of their word lines
abbrev pub count_seats : {L : _} {session : _}
    → (ScriptSeat L session → Bool) → List (Worker L session) → ℕ
count_seats test workers = sum_by (λ worker. count_by test worker.seats.items) workers

abbrev pub count_lines : {L : _} {session : _}
    → (WordLine → Bool) → List (Worker L session) → ℕ
count_lines test workers = sum_by (λ worker. count_by test worker.words.items) workers
