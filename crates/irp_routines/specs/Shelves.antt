-- Lists of which there is one for each rule.
use Rattle.std.specs.Prelude.{ℕ, ◌==◌, if◌then◌else◌, List, [], ◌∷◌, ◌++◌}
use Rattle.irp_types.specs.declared.routine.Rule.{Rule}
use Rattle.irp_types.specs.declared.routine.Rule.TheVariants.{Watch, Change, Keeper, KeepOnError, Free}

-- the place of a rule among the five
abbrev pub place_of : Rule → ℕ
place_of Watch = 0
place_of Change = 1
place_of Keeper = 2
place_of KeepOnError = 3
place_of Free = 4

-- the list of the first rule, once an item is put behind the list of the second
abbrev pub put_under : {T : Type 0} → Rule → Rule → T → List T → List T
put_under mine rule item items = if place_of mine == place_of rule then items ++ item ∷ [] else items

-- what stands under one rule, of what stands under each
abbrev pub of_rule : {A : Type 0} → Rule → A → A → A → A → A → A
of_rule Watch watch change keeper keep_on_error free = watch
of_rule Change watch change keeper keep_on_error free = change
of_rule Keeper watch change keeper keep_on_error free = keeper
of_rule KeepOnError watch change keeper keep_on_error free = keep_on_error
of_rule Free watch change keeper keep_on_error free = free
