-- What adding to a store's tables makes of them, and why it is refused.
use Rattle.std.specs.Prelude.{ℕ, ◌+◌, ◌==◌, ◌||◌, if◌then◌else◌, nat_lt, nat_le, not, List, [], ◌∷◌, ◌++◌, map, take}
use Rattle.std.specs.Prelude.{length, slice_index_or, Option, Some, None, Result, Ok, Err, ◌&&◌, Bool}
use Rattle.std.specs.List.{list_any, filter_map, range_with_len}
use Rattle.std.specs.Option.{option_or, option_map}
use Rattle.irp_types.specs.Limits.{last_major, most_drivers, most_routines, most_dispatches}
use Rattle.irp_types.specs.Rules.{count_of_rule}
use Rattle.irp_types.specs.State.{Tables, Entrance, dispatch_in, no_routines}
use Rattle.irp_types.specs.declared.routine.Rule.{Rule}
use Rattle.irp_types.specs.declared.routine.Rule.TheVariants.{Watch, Change, Keeper, KeepOnError, Free}
use Rattle.irp_types.specs.declared.routine.CancelRule.{CancelRule}
use Rattle.irp_types.specs.declared.routine.Known.{Known}
use Rattle.irp_types.specs.declared.names.DispatchId.{DispatchId}
use Rattle.irp_routines.specs.declared.not_added.Reason.{Reason}
use Rattle.irp_routines.specs.declared.not_added.Reason.TheVariants.{Full, NoRoutine, BadMajor}

-- the tables of an empty store
abbrev pub no_tables : Tables
no_tables = record { counts = no_routines; drivers = []; dispatches = []; cancel_rules = [] }

-- one more completion routine of a rule
abbrev pub one_more : Known → Rule → Known
one_more known Watch = record known { watch = known.watch + 1 }
one_more known Change = record known { change = known.change + 1 }
one_more known Keeper = record known { keeper = known.keeper + 1 }
one_more known KeepOnError = record known { keep_on_error = known.keep_on_error + 1 }
one_more known Free = record known { free = known.free + 1 }

-- the tables with one more completion routine, of this rule
abbrev pub with_routine : Tables → Rule → Tables
with_routine tables rule = record tables { counts = one_more tables.counts rule }

-- the tables with one more cancel routine, of this rule
abbrev pub with_cancel : Tables → CancelRule → Tables
with_cancel tables rule = record tables {
  counts = record tables.counts { cancel = tables.counts.cancel + 1 };
  cancel_rules = tables.cancel_rules ++ rule ∷ [];
}

-- the tables with one more dispatch, which may name these routines
abbrev pub with_dispatch : Tables → Known → Tables
with_dispatch tables known = record tables { dispatches = tables.dispatches ++ known ∷ [] }

-- the tables with one more driver
abbrev pub with_driver : Tables → List Entrance → Tables
with_driver tables driver = record tables { drivers = tables.drivers ++ driver ∷ [] }

-- the major function codes, rising
abbrev pub majors : List ℕ
majors = range_with_len 0 (last_major + 1)

-- a major function code with its dispatch, where these pairs name one
abbrev pub entrance_of : List Entrance → ℕ → Option Entrance
entrance_of pairs major = option_map (λ (dispatch : DispatchId). (major, dispatch)) (dispatch_in pairs major)

-- the pairs by rising major function code (each of them, where a driver isn't refused for them)
abbrev pub by_major : List Entrance → List Entrance
by_major pairs = filter_map (entrance_of pairs) majors

-- why a pair can't be in a driver's table beside the pairs before it: its major is none or is named by an earlier one,
-- else its dispatch isn't there
abbrev pub pair_refusal : ℕ → List Entrance → Entrance → Option Reason
pair_refusal dispatches before pair =
    if nat_lt last_major pair.0 || list_any (λ (entrance : Entrance). entrance.0 == pair.0) before then Some BadMajor
    else if nat_le dispatches pair.1.0 then Some NoRoutine else None

-- what stands for the pair of a place that there isn't
abbrev pub no_entrance : Entrance
no_entrance = (0, record { 0 = 0 })

-- the same for the pair at a place of a driver's pairs
abbrev pub refusal_at : ℕ → List Entrance → ℕ → Option Reason
refusal_at dispatches pairs place = pair_refusal dispatches (take place pairs) (slice_index_or pairs place no_entrance)

-- the first reason of several
abbrev pub first_reason : List (Option Reason) → Option Reason
first_reason [] = None
first_reason (reason ∷ others) = option_or reason (first_reason others)

-- the reason of the first pair that has one
abbrev pub pairs_refusal : ℕ → List Entrance → Option Reason
pairs_refusal dispatches pairs = first_reason (map (refusal_at dispatches pairs) (range_with_len 0 (length pairs)))

-- there are as many as there may be
abbrev pub full_at : ℕ → ℕ → Option Reason
full_at most count = if nat_le most count then Some Full else None

-- why a completion routine of a rule isn't added
abbrev pub routine_refusal : Tables → Rule → Option Reason
routine_refusal tables rule = full_at most_routines (count_of_rule tables.counts rule)

-- why a cancel routine isn't added
abbrev pub cancel_refusal : Tables → Option Reason
cancel_refusal tables = full_at most_routines (length tables.cancel_rules)

-- the test of `IsWithin`
abbrev pub is_within : Known → Known → Bool
is_within known counts =
    nat_le known.watch counts.watch && (nat_le known.change counts.change && (nat_le known.keeper counts.keeper
    && (nat_le known.keep_on_error counts.keep_on_error
    && (nat_le known.free counts.free && nat_le known.cancel counts.cancel))))

-- why a dispatch isn't added: it may name more routines than there are, else there are as many as there may be
abbrev pub dispatch_refusal : Tables → Known → Option Reason
dispatch_refusal tables known =
    if not (is_within known tables.counts) then Some NoRoutine else full_at most_dispatches (length tables.dispatches)

-- why a driver isn't added: a pair that can't be in its table, else there are as many as there may be
abbrev pub driver_refusal : Tables → List Entrance → Option Reason
driver_refusal tables pairs =
    option_or (pairs_refusal (length tables.dispatches) pairs) (full_at most_drivers (length tables.drivers))

-- the reason, or this answer where there is none
abbrev pub answer_unless : {A : Type 0} → Option Reason → A → Result A Reason
answer_unless None answer = Ok answer
answer_unless (Some reason) answer = Err reason

-- the old value where there is a reason, else the new one
abbrev pub value_unless : {A : Type 0} → Option Reason → A → A → A
value_unless None old new = new
value_unless (Some reason) old new = old
