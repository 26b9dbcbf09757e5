-- What stands at a place of a column is that part of the row there.
use Rattle.std.proofs.Common.{◌≡◌, ℕ, ◌<◌, List, [], length, get_or, Bool, true, false, nat_le, refl, sym, ◌∙◌}
use Rattle.std.specs.List.{list_all}
use Rattle.std.proofs.lemmas.Bool.{leb-true}
use Rattle.std.proofs.lemmas.List.{get_or-map}
use Rattle.std.proofs.lemmas.List.Folds.{list_all_at}
use mathlib.Core.Bool.{true≢false}
use Rattle.irp_forms.specs.Steps.{keys_named}
use Rattle.irp_forms.specs.declared.step_names.StepPlace.TheVariants as place
use Rattle.irp_forms.proofs.step_names.keyed_at.Goals as goal

-- what holds of each holds of the one at a place
one_of_all : {X : Type 0} (p : X → Bool) (xs : List X) (i : ℕ) (d : X) → i < length xs → list_all p xs ≡ true → p (get_or xs i d) ≡ true
one_of_all p xs i d low all = by (p (get_or xs i d)) refl
  where
    by : (b : Bool) → p (get_or xs i d) ≡ b → b ≡ true
    by true is = refl
    by false is = absurd (true≢false (sym all ∙ list_all_at p xs i d low is))

pub returns-clause-place : goal.returns-clause-place
returns-clause-place c = sym (get_or-map (λ row. row.0) c.args.rows.now c.args.at _ place.Anywhere c.requires.within)

pub returns-clause-keys : goal.returns-clause-keys
returns-clause-keys c = sym (get_or-map (λ row. keys_named row.1.now) c.args.rows.now c.args.at _ [] c.requires.within)

pub returns-clause-few : goal.returns-clause-few
returns-clause-few c = leb-true _ _ (one_of_all (λ row. nat_le (length row.1.now) 4) c.args.rows.now c.args.at _ c.requires.within c.requires.few)
