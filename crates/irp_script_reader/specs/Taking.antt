-- A script's lists are read member by member, each into what was read of the list before it.
use Rattle.std.specs.Prelude.{◌≡◌, ℕ, ◌+◌, List, ◌∷◌, [], ◌++◌, Bool, Option, Some, None, Result, Ok, Err}
use Rattle.std.specs.Prelude.{if◌then◌else◌}
use Rattle.std.specs.Option.{option_and_then}
use Rattle.serde_json.specs.Data.{Data, Items, no_items, item}
use Rattle.serde_json.specs.Find.{as_array, get}
use Rattle.irp_script_reader.specs.declared.{refusal.MemberFault.MemberFault, refusal.Section.Section}
use Rattle.irp_script_reader.specs.declared.{refusal.ScriptRefusal.ScriptRefusal, refusal.ScriptFault.ScriptFault}
use Rattle.irp_script_reader.specs.declared.taking.Stop.{Stop}
use Rattle.irp_script_reader.specs.declared.refusal.MemberFault.TheVariants.{BadField}
use Rattle.irp_script_reader.specs.declared.refusal.ScriptRefusal.TheVariants.{At}
use Rattle.irp_script_reader.specs.declared.refusal.ScriptFault.TheVariants as script_fault
use Rattle.irp_script_reader.specs.declared.taking.Stop.TheVariants as stop

-- go on with what there is; the first fault or refusal is the whole's
infixl 10 ◌>>=◌
abbrev pub ◌>>=◌ : {A B E : Type 0} → Result A E → (A → Result B E) → Result B E
(Ok value) >>= next = next value
(Err fault) >>= next = Err fault

-- what was answered is what a member gives, unless memory ran out
abbrev pub Gives : {T : Type 0} → Result T Stop → Result T MemberFault → Type 0
Gives (Ok value) given = given ≡ Ok value
Gives (Err (stop.MemberFault fault)) given = given ≡ Err fault
Gives (Err stop.NoMemory) given = Unit {0}

-- what was answered is what a part of the script gives, unless memory ran out
abbrev pub Tells : {T : Type 0} → Result T ScriptFault → Result T ScriptRefusal → Type 0
Tells (Ok value) given = given ≡ Ok value
Tells (Err (script_fault.Refused refusal)) given = given ≡ Err refusal
Tells (Err script_fault.NoMemory) given = Unit {0}

-- a fault, unless this holds
abbrev pub unless : Bool → MemberFault → Result (Unit {0}) MemberFault
unless holds fault = if holds then Ok tt else Err fault

-- a list with one more item
abbrev pub with_item : {T : Type 0} → List T → T → List T
with_item items added = items ++ added ∷ []

-- the rest of the members, once one was taken; the fault of that one is given with its place
abbrev pub told : {L : Type 0} → Section → ℕ → (L → Result L ScriptRefusal) → Result L MemberFault → Result L ScriptRefusal
told section index rest (Ok list) = rest list
told section index rest (Err fault) = Err (At fault section index)

-- what was read of a list, with the members from this place on, or the first fault
abbrev pub members_at : {L : Type 0} → (L → Data → Result L MemberFault) → Section → ℕ → L → Items → Result L ScriptRefusal
members_at takes section index list no_items = Ok list
members_at takes section index list (item first others) =
    told section index (λ next. members_at takes section (index + 1) next others) (takes list first)

abbrev pub if_list : {L : Type 0} → (L → Data → Result L MemberFault) → Section → L → Option Items → Result L ScriptRefusal
if_list takes section empty None = Err (At BadField section 0)
if_list takes section empty (Some members) = members_at takes section 0 empty members

-- what is read of the list under a key, from what is given as empty on; where no array is under the key it is S4 with
-- the index 0
unfoldable pub list_at : {L : Type 0} → (L → Data → Result L MemberFault) → Section → List ℕ → L → Data
    → Result L ScriptRefusal
list_at takes section key empty whole = if_list takes section empty (option_and_then as_array (get key whole))
