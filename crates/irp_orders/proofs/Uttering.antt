-- What went out, where the program ends by what was judged or made.
use Rattle.std.proofs.Common.{◌≡◌, ◌∙◌, inl, inr, ℕ, Bool, List, Option, sym, subst}
use Rattle.std.specs.Io.KnownBytes.{Appends}
use Rattle.irp_script_reader.specs.declared.script.ScriptParts.{ScriptParts}
use Rattle.irp_orders.specs.Exploring.{IsUnexplored}
use Rattle.irp_orders.specs.Program.{IsGivenUp, IsTableOf, IsUnjudged, IsUnsaid, IsUntold, Sends, Tables, Utters}
use Rattle.irp_orders.specs.declared.asked.Order.{Order}
use Rattle.irp_orders.specs.declared.ending.Ending.{Ending}
use Rattle.irp_orders.specs.declared.ending.Ending.TheVariants.{Broken, Done, Failed, Met, NoMemory, NoOrder, RefusedCondition}
use Rattle.irp_orders.specs.declared.found.Found.{Found}

-- ---- why nothing is told

pub unexplored_unsaid : (script : ScriptParts) (order : Order) (ending : Ending) → IsUnexplored script order ending → IsUnsaid ending
unexplored_unsaid script order (Met bound) unexplored = tt
unexplored_unsaid script order NoMemory unexplored = tt
unexplored_unsaid script order other unexplored = absurd unexplored

pub unjudged_unsaid : (script : ScriptParts) (tells : Bool) (text : List ℕ) (founds : List Found) (ending : Ending)
    → IsUnjudged script tells text founds ending → IsUnsaid ending
unjudged_unsaid script tells text founds NoOrder unjudged = tt
unjudged_unsaid script tells text founds (RefusedCondition fault) unjudged = tt
unjudged_unsaid script tells text founds NoMemory unjudged = tt
unjudged_unsaid script tells text founds other unjudged = absurd unjudged

pub untold_unsaid : (script : ScriptParts) (founds : List Found) (ending : Ending) → IsUntold script founds ending → IsUnsaid ending
untold_unsaid script founds NoOrder untold = tt
untold_unsaid script founds NoMemory untold = tt
untold_unsaid script founds other untold = absurd untold

-- ---- what went out

pub unsaid_utters : (Tells : List ℕ → Ending → Type 0) (old new : Option (List ℕ)) (ending : Ending) → IsUnsaid ending → Utters Tells old new ending
unsaid_utters Tells old new Done unsaid = absurd unsaid
unsaid_utters Tells old new Broken unsaid = absurd unsaid
unsaid_utters Tells old new other unsaid = tt

utters : (Tells : List ℕ → Ending → Type 0) (text : List ℕ) (old new : Option (List ℕ)) (ending : Ending) → Tells text ending
    → Appends old new text → Utters Tells old new ending
utters Tells text old new Done tells gone = (text, tells, gone)
utters Tells text old new Broken tells gone = (text, tells, gone)
utters Tells text old new other tells gone = tt

given_up_unsaid : (ending : Ending) → IsGivenUp ending → IsUnsaid ending
given_up_unsaid Failed given = tt
given_up_unsaid NoMemory given = tt
given_up_unsaid other given = absurd given

-- a text that tells what was judged was sent
pub sent_utters : (Tells : List ℕ → Ending → Type 0) (text : List ℕ) (wanted : Ending) (old new : Option (List ℕ)) (ending : Ending)
    → Tells text wanted → Sends text wanted old new ending → Utters Tells old new ending
sent_utters Tells text wanted old new ending tells (inl sent) =
    subst (λ (ending : Ending). Utters Tells old new ending) (sym sent.0) (utters Tells text old new wanted tells sent.1)
sent_utters Tells text wanted old new ending tells (inr given) = unsaid_utters Tells old new ending (given_up_unsaid ending given)

pub unexplored_tables : (script : ScriptParts) (order : Order) (old new : Option (List ℕ)) (ending : Ending)
    → IsUnexplored script order ending → Tables script order old new ending
unexplored_tables script order old new (Met bound) unexplored = unexplored
unexplored_tables script order old new NoMemory unexplored = tt
unexplored_tables script order old new other unexplored = absurd unexplored

given_up_tables : (script : ScriptParts) (order : Order) (old new : Option (List ℕ)) (ending : Ending) → IsGivenUp ending
    → Tables script order old new ending
given_up_tables script order old new Failed given = tt
given_up_tables script order old new NoMemory given = tt
given_up_tables script order old new other given = absurd given

-- the table was sent
pub sent_tables : (script : ScriptParts) (order : Order) (text : List ℕ) (wanted : Ending) (old new : Option (List ℕ)) (ending : Ending)
    → wanted ≡ Done → IsTableOf script order text → Sends text wanted old new ending → Tables script order old new ending
sent_tables script order text wanted old new ending done table (inl sent) =
    subst (λ (ending : Ending). Tables script order old new ending) (sym (sent.0 ∙ done)) (text, table, sent.1)
sent_tables script order text wanted old new ending done table (inr given) = given_up_tables script order old new ending given
