-- How the program ends that was asked for rows, and that an outcome's order can be made again.
use Rattle.std.proofs.Common.{◌≡◌, ◌<◌, ◌-◌, ◌++◌, ◌∷◌, [], ℕ, Bool, false, true, List, Some, refl, sym, subst}
use Rattle.std.specs.Prelude.{slice_get}
use Rattle.irp_machine.specs.Replays.{IsReplay, PathsCanBeMade, ReplaysEndSo, StopsShort}
use Rattle.irp_machine.specs.Orders.{AreOutcomesOf}
use Rattle.irp_machine.specs.declared.limits.NotMade.{NotMade}
use Rattle.irp_machine.specs.declared.limits.NotMade.TheVariants as made
use Rattle.irp_script_reader.specs.declared.script.ScriptParts.{ScriptParts}
use Rattle.irp_transcript.specs.Transcripts.{TranscriptValue}
use Rattle.irp_orders.specs.Ending.{of_unmade}
use Rattle.irp_orders.specs.Exploring.{IsUnexplored, tells}
use Rattle.irp_orders.specs.Founds.{outcomes_of}
use Rattle.irp_orders.specs.Program.{Examines, IsShown, IsUnexamined, IsUnjudged, IsUnshown, IsUntold, Judges}
use Rattle.irp_orders.specs.Rows.{AreRowsOf, IsSomeStuck}
use Rattle.irp_orders.specs.declared.asked.Order.{Order}
use Rattle.irp_orders.specs.declared.ending.Ending.{Ending}
use Rattle.irp_orders.specs.declared.ending.Ending.TheVariants.{NoMemory, NoOrder, RefusedCondition}
use Rattle.irp_orders.specs.declared.found.Found.{Found}
use Rattle.irp_orders.proofs.Grouping.{row_from}

-- what is made again of a row's path shows the row
pub shows_row : (script : ScriptParts) (order : Order) (number : ℕ) (transcript : TranscriptValue) (rows : List Found) (row : Found)
    → AreRowsOf script order rows → (0 < number) × (slice_get rows (number - 1) ≡ Some row) → IsReplay script row.outcome.path.items transcript
    → ReplaysEndSo → IsShown script order number transcript
shows_row script order number transcript rows row are stands replay end_so =
    let from = row_from order.in_groups are.founds rows (number - 1) row are.made stands.1 in
    record {
      rows = rows;
      rows_are = are;
      some = stands.0;
      row = row;
      stands = stands.1;
      replay = replay;
      ends = end_so script (tells order) (outcomes_of are.founds) from.0 row.outcome transcript are.outcomes from.1 replay;
    }

-- a row's path can be made again
pub unmade_up : (script : ScriptParts) (order : Order) (number : ℕ) (rows : List Found) (row : Found) (refusal : NotMade)
    → AreRowsOf script order rows → (0 < number) × (slice_get rows (number - 1) ≡ Some row)
    → (refusal ≡ made.NoStep → StopsShort script row.outcome.path.items) → PathsCanBeMade → IsUnshown script order number (of_unmade refusal)
unmade_up script order number rows row made.Memory are stands stops can = tt
unmade_up script order number rows row made.NoStep are stands stops can =
    let from = row_from order.in_groups are.founds rows (number - 1) row are.made stands.1 in
    absurd (can script (tells order) (outcomes_of are.founds) from.0 row.outcome are.outcomes from.1 (stops refl))

-- each row's path can be made again
pub none_stuck : (script : ScriptParts) (order : Order) (rows : List Found) → AreRowsOf script order rows → IsSomeStuck script rows → PathsCanBeMade → ⊥
none_stuck script order rows are stuck can =
    let from = row_from order.in_groups are.founds rows stuck.0 stuck.1 are.made stuck.2 in
    can script (tells order) (outcomes_of are.founds) from.0 stuck.1.outcome are.outcomes from.1 stuck.3

-- so a table that isn't made wants memory
pub unmade_table : (script : ScriptParts) (order : Order) (rows : List Found) (refusal : NotMade) → AreRowsOf script order rows
    → (refusal ≡ made.NoStep → IsSomeStuck script rows) → PathsCanBeMade → IsUnexplored script order (of_unmade refusal)
unmade_table script order rows made.Memory are stuck can = tt
unmade_table script order rows made.NoStep are stuck can = absurd (none_stuck script order rows are (stuck refl) can)

-- ---- what is told of outcomes

-- the order of each outcome that was found can be made again
found_stuck : (script : ScriptParts) (told : Bool) (founds : List Found) → AreOutcomesOf script told (outcomes_of founds)
    → IsSomeStuck script founds → PathsCanBeMade → ⊥
found_stuck script told founds are stuck can =
    let from = row_from false founds founds stuck.0 stuck.1 refl stuck.2 in
    can script told (outcomes_of founds) from.0 stuck.1.outcome are from.1 stuck.3

-- the order of the outcome at a place can't be made again
pub stuck_at : (script : ScriptParts) (founds : List Found) (place : ℕ) (found : Found) → slice_get founds place ≡ Some found
    → StopsShort script found.outcome.path.items → IsSomeStuck script founds
stuck_at script founds place found stands stops = (place, found, stands, stops)

pub stuck_of : (one other : ScriptParts) (founds : List Found) → one ≡ other → IsSomeStuck one founds → IsSomeStuck other founds
stuck_of one other founds same stuck = subst (λ (script : ScriptParts). IsSomeStuck script founds) same stuck

pub unmade_unjudged : (script : ScriptParts) (told : Bool) (text : List ℕ) (founds : List Found) (ending : Ending) (refusal : NotMade)
    → ending ≡ of_unmade refusal → (refusal ≡ made.NoStep → IsSomeStuck script founds) → IsUnjudged script told text founds ending
unmade_unjudged script told text founds ending refusal is stuck =
    subst (λ (ending : Ending). IsUnjudged script told text founds ending) (sym is) (by refusal stuck)
  where
    by : (refusal : NotMade) → (refusal ≡ made.NoStep → IsSomeStuck script founds)
        → IsUnjudged script told text founds (of_unmade refusal)
    by made.Memory stuck = tt
    by made.NoStep stuck = stuck refl

pub unjudged_judges : (script : ScriptParts) (order : Order) (text : List ℕ) (founds : List Found) (ending : Ending)
    → AreOutcomesOf script (tells order) (outcomes_of founds) → PathsCanBeMade
    → IsUnjudged script (tells order) text founds ending → Judges script order text ending
unjudged_judges script order text founds NoOrder are can stuck = absurd (found_stuck script (tells order) founds are stuck can)
unjudged_judges script order text founds (RefusedCondition fault) are can unread = unread
unjudged_judges script order text founds NoMemory are can unread = tt
unjudged_judges script order text founds other are can unread = absurd unread

pub unmade_untold : (script : ScriptParts) (founds : List Found) (ending : Ending) (refusal : NotMade) → ending ≡ of_unmade refusal
    → (refusal ≡ made.NoStep → IsSomeStuck script founds) → IsUntold script founds ending
unmade_untold script founds ending refusal is stuck =
    subst (λ (ending : Ending). IsUntold script founds ending) (sym is) (by refusal stuck)
  where
    by : (refusal : NotMade) → (refusal ≡ made.NoStep → IsSomeStuck script founds) → IsUntold script founds (of_unmade refusal)
    by made.Memory stuck = tt
    by made.NoStep stuck = stuck refl

pub unexamined_untold : (script : ScriptParts) (founds : List Found) (ending : Ending) → IsUnexamined ending
    → IsUntold script founds ending
unexamined_untold script founds NoMemory unexamined = tt
unexamined_untold script founds other unexamined = absurd unexamined

pub untold_examines : (script : ScriptParts) (order : Order) (founds : List Found) (ending : Ending)
    → AreOutcomesOf script true (outcomes_of founds) → PathsCanBeMade → IsUntold script founds ending
    → Examines script order ending
untold_examines script order founds NoOrder are can stuck = absurd (found_stuck script true founds are stuck can)
untold_examines script order founds NoMemory are can untold = tt
untold_examines script order founds other are can untold = absurd untold

-- ---- setup

nothing_stops : (front : List ℕ) (seat : ℕ) (rest : List ℕ) → [] ≡ front ++ seat ∷ rest → ⊥
nothing_stops [] seat rest is = cc
nothing_stops (one ∷ front) seat rest is = cc

-- the setup alone can be made again
pub unmade_setup : (script : ScriptParts) (ending : Ending) (refusal : NotMade) → ending ≡ of_unmade refusal
    → (refusal ≡ made.NoStep → StopsShort script []) → IsUnexamined ending
unmade_setup script ending refusal is stops =
    subst (λ (ending : Ending). IsUnexamined ending) (sym is) (by refusal stops)
  where
    by : (refusal : NotMade) → (refusal ≡ made.NoStep → StopsShort script []) → IsUnexamined (of_unmade refusal)
    by made.Memory stops = tt
    by made.NoStep stops =
        let stuck = (stops refl).stuck in
        nothing_stops stuck.front stuck.seat stuck.rest stuck.parts
