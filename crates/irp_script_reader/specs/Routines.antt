-- The completion routines and the cancel routines of a script.
use Rattle.std.specs.Prelude.{ℕ, ◌+◌, ◌&&◌, codes, Bool, true, false, not, nat_lt, Option, Some, None, if◌then◌else◌}
use Rattle.std.specs.Bool.{then_some}
use Rattle.std.proofs.Common.{bytes_eq}
use Rattle.serde_json.specs.Data.{Data, string}
use Rattle.serde_json.specs.Find.{at, as_str}
use Rattle.irp_forms.specs.Parts.{◌>>=◌, has_items, of_items, u64_at}
use Rattle.irp_forms.specs.Names.{rule_at}
use Rattle.irp_forms.specs.Values.{status_at}
use Rattle.irp_types.specs.Limits.{most_routines}
use Rattle.irp_types.specs.Status.{is_completable}
use Rattle.irp_types.specs.declared.{routine.Known.Known, routine.Rule.Rule}
use Rattle.irp_types.specs.declared.routine.Rule.TheVariants.{Watch, Change, Keeper, KeepOnError, Free}
use Rattle.irp_script_reader.specs.declared.{script.Behaviour.Behaviour, script.CompletionRoutine.CompletionRoutine}
use Rattle.irp_script_reader.specs.declared.script.Behaviour.TheVariants.{Continue, Keep, Replace}

-- `["replace",status,information]`
abbrev pub replace_at : Data → Option Behaviour
replace_at form = do
  three ← of_items 3 form
  name ← at 0 form >>= as_str
  status ← at 1 form >>= status_at
  information ← at 2 form >>= u64_at
  then_some (bytes_eq name (codes "replace")) (Replace (record { status = status; information = information }))

-- a behaviour: its name, or a replacement
unfoldable pub behaviour_at : Data → Option Behaviour
behaviour_at (string name) =
    if bytes_eq name (codes "continue") then Some Continue else
    (if bytes_eq name (codes "keep") then Some Keep else None)
behaviour_at form = replace_at form

-- a completion routine: its rule, what it does on a success, and what it does else
unfoldable pub completion_at : Data → Option CompletionRoutine
completion_at form = if has_items 3 form then (do
  rule ← at 0 form >>= rule_at
  on_ok ← at 1 form >>= behaviour_at
  on_err ← at 2 form >>= behaviour_at
  Some (record { rule = rule; on_ok = on_ok; on_err = on_err })) else None

abbrev pub continues : Behaviour → Bool
continues Continue = true
continues Keep = false
continues (Replace replacement) = false

abbrev pub keeps : Behaviour → Bool
keeps Continue = false
keeps Keep = true
keeps (Replace replacement) = false

-- a replacement's status is completable
abbrev pub can_complete : Behaviour → Bool
can_complete Continue = true
can_complete Keep = true
can_complete (Replace replacement) = is_completable replacement.status

-- which behaviours a rule takes
abbrev pub takes_behaviours : Rule → Behaviour → Behaviour → Bool
takes_behaviours Watch on_ok on_err = continues on_ok && continues on_err
takes_behaviours Change on_ok on_err = not (keeps on_ok) && not (keeps on_err)
takes_behaviours Keeper on_ok on_err = keeps on_ok && keeps on_err
takes_behaviours KeepOnError on_ok on_err = continues on_ok && keeps on_err
takes_behaviours Free on_ok on_err = true

-- whether a routine's behaviours are those of its rule
abbrev pub obeys_its_rule : CompletionRoutine → Bool
obeys_its_rule routine =
    can_complete routine.on_ok && (can_complete routine.on_err
    && takes_behaviours routine.rule routine.on_ok routine.on_err)

-- one more than so many routines of one kind, where there may be one more
abbrev pub one_more : ℕ → Option ℕ
one_more count = if nat_lt count most_routines then Some (count + 1) else None

-- the counts with one more routine of a rule
unfoldable pub counted : Known → Rule → Option Known
counted counts Watch = one_more counts.watch >>= λ count. Some (record counts { watch = count })
counted counts Change = one_more counts.change >>= λ count. Some (record counts { change = count })
counted counts Keeper = one_more counts.keeper >>= λ count. Some (record counts { keeper = count })
counted counts KeepOnError = one_more counts.keep_on_error >>= λ count. Some (record counts { keep_on_error = count })
counted counts Free = one_more counts.free >>= λ count. Some (record counts { free = count })
