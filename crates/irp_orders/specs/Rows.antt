-- The rows of the table: the outcomes of a script's orders, or groups of them.
use Rattle.std.specs.Prelude.{ℕ, ◌≡◌, ◌+◌, ◌-◌, ◌^◌, ◌<◌, ◌==◌, ◌⊎◌, ◌++◌, min, set, if◌then◌else◌, List, [], ◌∷◌, length, slice_get, Some, Bool, true, false, All}
use Rattle.std.specs.List.Sorted.{IsPermutation}
use Rattle.irp_machine.specs.Orders.{AreOutcomesOf}
use Rattle.irp_machine.specs.Replays.{StopsShort}
use Rattle.irp_script_reader.specs.declared.act.Step.{Step}
use Rattle.irp_script_reader.specs.declared.script.ScriptParts.{ScriptParts}
use Rattle.irp_orders.specs.Alike.{AreAlike}
use Rattle.irp_orders.specs.Exploring.{tells}
use Rattle.irp_orders.specs.Facts.{answers_of}
use Rattle.irp_orders.specs.Founds.{outcomes_of}
use Rattle.irp_orders.specs.declared.asked.Order.{Order}
use Rattle.irp_orders.specs.declared.found.Found.{Found}

-- an outcome in a row of its own: as many orders lead to it as it tells, and no other is joined with it
pub record IsOwn (found : Found) : Type 0 where
  pub orders : found.orders ≡ found.outcome.orders
  pub joined : found.joined ≡ 1

-- an outcome stands beside what these steps were answered
abbrev pub IsAnswered : List Step → Found → Type 0
IsAnswered steps found = found.answers.items ≡ answers_of steps found.outcome.end

-- ---- groups

-- of these outcomes those that were put into one group, by the number of the group of each
abbrev pub members_of : ℕ → List Found → List ℕ → List Found
members_of group [] numbers = []
members_of group (found ∷ founds) [] = []
members_of group (found ∷ founds) (number ∷ numbers) =
    if number == group then found ∷ members_of group founds numbers else members_of group founds numbers

-- the largest number of orders and of outcomes that a row can tell
abbrev pub most_orders : ℕ
most_orders = 2 ^ 128 - 1

abbrev pub most_joined : ℕ
most_joined = 2 ^ 64 - 1

-- so many orders, and those that lead to these outcomes; the largest number where there are more
abbrev pub all_orders : ℕ → List Found → ℕ
all_orders orders [] = orders
all_orders orders (found ∷ founds) = all_orders (min (orders + found.orders) most_orders) founds

-- a row tells the first of its members, which all others are alike, how many orders lead to all of them, and how many
-- they are
pub record IsGroup (row : Found) (members : List Found) : Type 0 where
  pub first : Found
  pub others : List Found
  pub members_are : members ≡ first ∷ others
  pub alike : All (AreAlike first) others
  pub outcome : row.outcome ≡ first.outcome
  pub answers : row.answers ≡ first.answers
  pub orders : row.orders ≡ all_orders first.orders others
  pub joined : row.joined ≡ min (length members) most_joined

-- each outcome is in one group, by this number for each
pub record AreGroupedBy (founds rows : List Found) (numbers : List ℕ) : Type 0 where
  pub each : length numbers ≡ length founds
  pub within : All (λ number. number < length rows) numbers
  pub groups : (number : ℕ) (row : Found) → slice_get rows number ≡ Some row → IsGroup row (members_of number founds numbers)

abbrev pub AreGrouped : List Found → List Found → Type 0
AreGrouped founds rows = (numbers : List ℕ) × AreGroupedBy founds rows numbers

-- a row, and one more outcome joined with it
abbrev pub joined_row : Found → Found → Found
joined_row row found = record {
  outcome = row.outcome;
  answers = row.answers;
  orders = min (row.orders + found.orders) most_orders;
  joined = min (row.joined + 1) most_joined;
}

-- an outcome was joined with the row of this number, which it is alike, or put behind all rows
pub record Joins (old : List Found) (found : Found) (new : List Found) : Type 0 where
  pub number : ℕ
  pub made :
      ((row : Found) × (slice_get old number ≡ Some row) × AreAlike row found × (new ≡ set old number (joined_row row found)))
      ⊎ ((number ≡ length old) × (new ≡ old ++ found ∷ []))

-- ---- rows

-- the rows of the table, by what was found: the outcomes one by one, or groups of them in any order
abbrev pub AreMadeOf : Bool → List Found → List Found → Type 0
AreMadeOf false founds rows = rows ≡ founds
AreMadeOf true founds rows =
    (groups : List Found) × AreGrouped founds groups × IsPermutation groups rows

-- the order of one of these outcomes can't be made again
abbrev pub IsSomeStuck : ScriptParts → List Found → Type 0
IsSomeStuck script rows =
    (place : ℕ) × (row : Found) × (slice_get rows place ≡ Some row) × StopsShort script row.outcome.path.items

-- the outcomes of a script's orders, each of which tells how many orders lead to it, and what the steps were answered
pub record AreFoundsOf (script : ScriptParts) (told : Bool) (founds : List Found) : Type 0 where
  pub outcomes : AreOutcomesOf script told (outcomes_of founds)
  pub own : All IsOwn founds
  pub answered : All (IsAnswered script.steps) founds

-- the rows of what is asked of a script's orders: their outcomes, each of which tells how many orders lead to it
pub record AreRowsOf (script : ScriptParts) (order : Order) (rows : List Found) : Type 0 where
  pub founds : List Found
  pub outcomes : AreOutcomesOf script (tells order) (outcomes_of founds)
  pub own : All IsOwn founds
  pub answered : All (IsAnswered script.steps) founds
  pub made : AreMadeOf order.in_groups founds rows
