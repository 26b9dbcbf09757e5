-- Seats: how far they are, what they hold and know, and what a step makes of them.
use Rattle.std.specs.Prelude.{ℕ, ◌+◌, ◌^◌, ◌==◌, ◌&&◌, Bool, false, if◌then◌else◌, nat_le, List, [], ◌∷◌, ◌++◌, Option, Some, None}
use Rattle.irp_plain.specs.declared.parts.ActPlace.{ActPlace}
use Rattle.irp_plain.specs.declared.parts.Stage.{Stage}
use Rattle.irp_plain.specs.declared.parts.Stage.TheVariants as stages
use Rattle.irp_plain.specs.declared.parts.Held.{Held}
use Rattle.irp_plain.specs.declared.parts.Taken.{Taken}
use Rattle.irp_plain.specs.declared.parts.Learned.{Learned}
use Rattle.irp_plain.specs.declared.parts.Learned.TheVariants.{Removed, Drained}
use Rattle.irp_plain.specs.declared.parts.After.{After}
use Rattle.irp_plain.specs.declared.parts.After.TheVariants.{In, Told as IsTold, Binds, Bound}
use Rattle.irp_plain.specs.declared.parts.Change.{Change}
use Rattle.irp_plain.specs.declared.answered.Told.{Told}
use Rattle.irp_plain.specs.Lists.{with_more, without}

-- how many of its acts a seat is behind, made or passed over; how far it is in the present one; what it holds, knows and
-- took; what it was told; and what it heard: the answers of those of its acts that conditions name
pub record SeatValue : Type 0 where
  pub made : ℕ
  pub stage : Stage
  pub held : List Held
  pub learned : List Learned
  pub taken : List Taken
  pub told : List Told
  pub heard : List Told

-- a seat that has made nothing
abbrev pub new_seat : SeatValue
new_seat = record { made = 0; stage = stages.Between; held = []; learned = []; taken = []; told = []; heard = [] }

-- a reference to this lock under this tag
abbrev pub is_held : ℕ → ℕ → Held → Bool
is_held lock tag held = (held.lock == lock) && (held.tag == tag)

-- a use that was taken out of this slot
abbrev pub is_taken : ℕ → Taken → Bool
is_taken slot taken = taken.slot == slot

-- it tells that the removal of this lock has begun
abbrev pub is_removed : ℕ → Learned → Bool
is_removed lock (Removed one) = one == lock
is_removed lock (Drained one) = false

-- it tells that this lock is drained
abbrev pub is_drained : ℕ → Learned → Bool
is_drained lock (Removed one) = false
is_drained lock (Drained one) = one == lock

-- what is told of a step that ends so
abbrev pub told_after : After → ℕ → Option Told
told_after (In stage) step = None
told_after (IsTold answer) step = Some (record { step = step; answer = answer })
told_after (Binds answer irp) step = Some (record { step = step; answer = answer })
told_after Bound step = None

-- the same, where anything is to be told
abbrev pub told_of : After → ℕ → Bool → Option Told
told_of after step tells = if tells then told_after after step else None

-- what a seat hears of a step that ends so: the answer of an act that a condition names
abbrev pub heard_of : After → ActPlace → Option Told
heard_of (In stage) place = None
heard_of (IsTold answer) place = if place.is_read then Some (record { step = place.step; answer = answer }) else None
heard_of (Binds answer irp) place = if place.is_read then Some (record { step = place.step; answer = answer }) else None
heard_of Bound place = None

-- one more act, as far as numbers go
abbrev pub one_more : ℕ → ℕ
one_more at = if nat_le (2 ^ 62) at then at else at + 1

-- how many of its acts a seat is behind after a step of the act at this place
abbrev pub made_after : ActPlace → ℕ → After → ℕ
made_after place made (In stage) = made
made_after place made (IsTold answer) = one_more place.at
made_after place made (Binds answer irp) = made
made_after place made Bound = one_more place.at

-- how far a seat is in its present act behind a step
abbrev pub stage_after : After → Stage
stage_after (In stage) = stage
stage_after (IsTold answer) = stages.Between
stage_after (Binds answer irp) = stages.Answered irp
stage_after Bound = stages.Between

-- a seat behind a step of its own, in the act at this place
abbrev pub after_step : Change → ActPlace → Bool → SeatValue → SeatValue
after_step change place tells seat = record {
  made = made_after place seat.made change.after;
  stage = stage_after change.after;
  held = with_more change.holds (without change.drops seat.held);
  learned = with_more change.learns seat.learned;
  taken = with_more change.takes (without change.spends seat.taken);
  told = with_more (told_of change.after place.step tells) seat.told;
  heard = with_more (heard_of change.after place) seat.heard;
}

-- a seat that was given a reference
abbrev pub with_held : Held → SeatValue → SeatValue
with_held held seat = record seat { held = seat.held ++ held ∷ [] }
