-- How the word lines and the calls of a script account for its steps.
use Rattle.std.specs.Prelude.{◌≡◌, Option, None, List, ◌++◌, map}
use Rattle.irp_transcript.specs.declared.word_line.WordLine.{WordLine}
use Rattle.irp_script_reader.specs.declared.act.Step.{Step}
use Rattle.irp_script.specs.Made.{NoneTwice, SeatCalls, once_made, seat_calls}
use Rattle.irp_script.specs.Numbers.{EachAsOften, NoneMoreOften}
use Rattle.irp_script.specs.Outcomes.{Outcome, Ways, outcomes}
use Rattle.irp_script.specs.Pairs.{Pair, pair_of}
use Rattle.irp_script.specs.Words.{told_by, word_steps}
use Rattle.irp_script.specs.Working.{AtWork}
use Rattle.irp_script.specs.declared.stop.Stop.{Stop}

abbrev pub pair_at : AtWork → Pair
pair_at own = pair_of own.seat own.remove

abbrev pub calls_at : AtWork → SeatCalls
calls_at own = seat_calls own.seat own.remove

-- once these steps come out so
abbrev pub called_once : List Outcome → AtWork → SeatCalls
called_once outs own = once_made outs (calls_at own)

-- The steps of the setup and the others came out in some ways: some finishes of taken packets found no token, and some
-- steps with a condition were passed over. Each word line tells of one of these finishes among the steps, or of a step on
-- a lock or a slot that was made, and no step has two. Where nothing stopped, each has its line. Then, too, where no two
-- seats have the same number, each seat has made, after the calls that it had made, those of its own steps, of the setup
-- and then of the others, in order, and no other: calls of the manager, and the finishes of taken packets that found a
-- token, but for the steps that were passed over
pub record Accounts (setup steps : List Step) (before after : List AtWork) (lines : List WordLine)
    (stop : Option Stop) : Type 0 where
  pub ways_first : Ways
  pub ways : Ways
  pub told : NoneMoreOften (word_steps (outcomes ways steps)) (map told_by lines)
  pub all_told : stop ≡ None
      → EachAsOften (word_steps (outcomes ways steps)) (map told_by lines)
  pub all_called : stop ≡ None → NoneTwice (map pair_at before)
      → EachAsOften
      (map (called_once (outcomes ways_first setup ++ outcomes ways steps)) before)
      (map calls_at after)
