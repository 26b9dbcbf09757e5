-- Counts of routines within the limits.
use Rattle.std.proofs.Common.{ℕ, List, [], ◌∷◌, arith}
use Rattle.irp_types.specs.Rules.{IsWithin}
use Rattle.irp_types.specs.State.{most_known, no_routines}
use Rattle.irp_types.specs.declared.{routine.Known.Known, routine.Rule.Rule}
use Rattle.irp_types.specs.declared.routine.Rule.TheVariants.{Watch, Change, Keeper, KeepOnError, Free}
use Rattle.irp_script_reader.specs.Sound.{with_all, with_one}
use Rattle.irp_script_reader.specs.declared.script.CompletionRoutine.{CompletionRoutine}
use Rattle.irp_script_reader.proofs.Sounds.{all_cancel}

-- what one more routine keeps within the limits is within them
less_within : (counts : Known) (rule : Rule) → IsWithin (with_one counts rule) most_known → IsWithin counts most_known
less_within counts Watch within = record {
  watch = (let one = within.watch in omega (arith, one));
  change = within.change;
  keeper = within.keeper;
  keep_on_error = within.keep_on_error;
  free = within.free;
  cancel = within.cancel;
}
less_within counts Change within = record {
  watch = within.watch;
  change = (let one = within.change in omega (arith, one));
  keeper = within.keeper;
  keep_on_error = within.keep_on_error;
  free = within.free;
  cancel = within.cancel;
}
less_within counts Keeper within = record {
  watch = within.watch;
  change = within.change;
  keeper = (let one = within.keeper in omega (arith, one));
  keep_on_error = within.keep_on_error;
  free = within.free;
  cancel = within.cancel;
}
less_within counts KeepOnError within = record {
  watch = within.watch;
  change = within.change;
  keeper = within.keeper;
  keep_on_error = (let one = within.keep_on_error in omega (arith, one));
  free = within.free;
  cancel = within.cancel;
}
less_within counts Free within = record {
  watch = within.watch;
  change = within.change;
  keeper = within.keeper;
  keep_on_error = within.keep_on_error;
  free = (let one = within.free in omega (arith, one));
  cancel = within.cancel;
}

pub front_within : (counts : Known) (routines : List CompletionRoutine) → IsWithin (with_all counts routines) most_known → IsWithin counts most_known
front_within counts [] within = within
front_within counts (first ∷ others) within = less_within counts first.rule (front_within (with_one counts first.rule) others within)

-- the counts without those of the cancel routines
pub completions_within : (routines : List CompletionRoutine) (cancels : ℕ)
    → IsWithin (record (with_all no_routines routines) { cancel = cancels }) most_known → IsWithin (with_all no_routines routines) most_known
completions_within routines cancels within = record {
  watch = within.watch;
  change = within.change;
  keeper = within.keeper;
  keep_on_error = within.keep_on_error;
  free = within.free;
  cancel = (let none = all_cancel no_routines routines in omega (arith, none));
}
