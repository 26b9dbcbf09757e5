-- The closures of a store answer as a script tells: one more does, those that are there still do, and in the end each
-- answer is one that the script tells.
use Rattle.std.proofs.Common.{◌≡◌, ◌⊎◌, inl, inr, ℕ, ◌+◌, ◌<◌, ◌≤◌, Bool, true, false, List, [], ◌∷◌, ◌++◌, length, get_or, take, map, replicate, Option, Some, None, IfSome, MatchOption, cond, if◌then◌else◌, refl, sym, ap, subst, ◌∙◌, arith, append-nil}
use Rattle.std.specs.Prelude.{◌==◌, slice_get}
use Rattle.std.specs.List.{AllZip}
use Rattle.std.specs.Option.{IsSomeAnd, option_map}
use Rattle.std.proofs.lemmas.List.{length-map, length-replicate, take_more}
use Rattle.std.proofs.lemmas.List.Elements.{filter_more}
use Rattle.std.proofs.lemmas.Option.{slice_get_cases, slice_get_within}
use Rattle.std.proofs.lemmas.Slice.Zip.{AllZip-left}
use Rattle.irp_types.specs.Allowed.{IsAnswerAllowed, IsCancelAllowed, IsPlanAllowed}
use Rattle.irp_types.specs.Rules.{count_of_rule}
use Rattle.irp_types.specs.State.{Tables}
use Rattle.irp_types.specs.declared.answer.CancelAnswer.{CancelAnswer}
use Rattle.irp_types.specs.declared.answer.Plan.{Plan}
use Rattle.irp_types.specs.declared.asked.Asked.TheVariants.{Dispatch, Completion, Cancel}
use Rattle.irp_types.specs.declared.routine.Rule.{Rule}
use Rattle.irp_types.specs.declared.routine.Rule.TheVariants.{Watch, Change, Keeper, KeepOnError, Free}
use Rattle.irp_routines.specs.Behaving.{cancel_may, dispatch_may, routine_may}
use Rattle.irp_routines.specs.Shelves.{of_rule, place_of, put_under}
use Rattle.irp_routines.specs.Tables.{no_tables}
use Rattle.irp_routines.specs.declared.cancel_routine.CancelRoutine.{CancelRoutine}
use Rattle.irp_routines.specs.declared.dispatch.Dispatch.{Dispatch as DispatchRoutine}
use Rattle.irp_routines.specs.declared.routine.Routine.{Routine}
use Rattle.irp_routines.specs.declared.store.Store.{Store}
use Rattle.irp_shared.specs.Answered.{AnswersSo}
use Rattle.irp_script_reader.specs.declared.script.CompletionRoutine.{CompletionRoutine}
use Rattle.irp_script_reader.specs.declared.script.ScriptParts.{ScriptParts}
use Rattle.irp_steps.specs.Behaviours.{answer_of, plan_of}
use Rattle.irp_script.specs.Told.{AnswersAll, AnswersAs, CancelsAnswer, CancelsAs, DispatchesPlan, IsTold, PlansAs, RoutinesAnswer, routines_of}

-- ---- two lists, place by place

-- one more on each side
zip_push : {A B : Type 0} (R : A → B → Type 0) (xs : List A) (ys : List B) (x : A) (y : B) → AllZip R xs ys → R x y → AllZip R (xs ++ x ∷ []) (ys ++ y ∷ [])
zip_push R [] [] x y zip is = (is, tt)
zip_push R [] (other ∷ ys) x y zip is = absurd zip
zip_push R (first ∷ xs) [] x y zip is = absurd zip
zip_push R (first ∷ xs) (other ∷ ys) x y zip is = (zip.0, zip_push R xs ys x y zip.1 is)

-- none on either side
zip_none : {A B : Type 0} (R : A → B → Type 0) (xs : List A) → length xs ≡ 0 → AllZip R xs []
zip_none R [] none = tt
zip_none R (x ∷ xs) none = absurd (omega (arith, none))

-- one more on each side, or on neither
zip_if : {A B : Type 0} (R : A → B → Type 0) (test : Bool) (xs : List A) (ys : List B) (x : A) (y : B) → AllZip R xs ys → R x y → AllZip R (if test then xs ++ x ∷ [] else xs) (ys ++ cond test (y ∷ []) [])
zip_if R true xs ys x y zip is = zip_push R xs ys x y zip is
zip_if R false xs ys x y zip is = subst (AllZip R xs) (sym (append-nil ys)) zip

-- what is read of the item on the right, where there is one with this
read_some : {B C : Type 0} (read : B → C) (item : Option B) (R : B → Type 0) (is : C) → IsSomeAnd item R → ((y : B) → R y → read y ≡ is) → option_map read item ≡ Some is
read_some read None R is there gives = absurd there
read_some read (Some y) R is there gives = ap Some (gives y there)

-- what is read of the item on the right at a place, by what is known of the one on the left
read_at : {A B C : Type 0} (R : A → B → Type 0) (P : A → Type 0) (read : B → C) (is : C) (xs : List A) (ys : List B) (place : ℕ)
    → AllZip R xs ys → place < length xs → IfSome (slice_get xs place) P → ((x : A) (y : B) → R x y → P x → read y ≡ is) → option_map read (slice_get ys place) ≡ Some is
read_at {A} R P read is xs ys place zip below known gives = by_case (slice_get_cases xs place).1
  where
    by_case : ((x : A) × (place < length xs) × (slice_get xs place ≡ Some x) × (get_or xs place x ≡ x)) ⊎ ((length xs ≤ place) × (slice_get xs place ≡ None)) → option_map read (slice_get ys place) ≡ Some is
    by_case (inl (x, within, found, read_so)) =
        read_some read (slice_get ys place) (R x) is
        (subst (λ item. MatchOption item (Unit {0}) (λ x. IsSomeAnd (slice_get ys place) (R x))) found (AllZip-left R xs ys zip place))
        (λ y holds. gives x y holds (subst (λ item. IfSome item P) found known))
    by_case (inr over) = absurd (omega (arith, below, over.0))

same_some : {B : Type 0} (item : Option B) → option_map (λ (y : B). y) item ≡ item
same_some None = refl
same_some (Some y) = refl

-- ---- completion routines

shelf_more : {A : Type 0} (R : A → CompletionRoutine → Type 0) (mine : Rule) (shelf : List A) (routine : A) (routines : List CompletionRoutine) (place : ℕ) (none : CompletionRoutine)
    → place < length routines → AllZip R shelf (routines_of mine (take place routines)) → R routine (get_or routines place none)
    → AllZip R (put_under mine (get_or routines place none).rule routine shelf) (routines_of mine (take (place + 1) routines))
shelf_more R mine shelf routine routines place none below so_far is =
    let told : CompletionRoutine = get_or routines place none in
    subst (AllZip R (put_under mine told.rule routine shelf))
    (sym (filter_more (λ (given : CompletionRoutine). place_of mine == place_of given.rule) routines place none below))
    (zip_if R (place_of mine == place_of told.rule) shelf (routines_of mine (take place routines)) routine told so_far is)

-- one more is added
pub routines_more : {X Y Z : Type 0} {F : X → Type 0} {G : Y → Type 0} {H : Z → Type 0} {g : _} {h : _} {i : _}
    (old new : Store X Y Z F G H g h i) (routine : Routine X F g) (routines : List CompletionRoutine) (place : ℕ) (none : CompletionRoutine)
    → place < length routines → routine.rule ≡ (get_or routines place none).rule → AnswersAs routine (get_or routines place none)
    → (new.watch.items ≡ put_under Watch routine.rule routine old.watch.items) × (new.change.items ≡ put_under Change routine.rule routine old.change.items)
    × (new.keeper.items ≡ put_under Keeper routine.rule routine old.keeper.items) × (new.keep_on_error.items ≡ put_under KeepOnError routine.rule routine old.keep_on_error.items)
    × (new.free.items ≡ put_under Free routine.rule routine old.free.items)
    → RoutinesAnswer old (take place routines) → RoutinesAnswer new (take (place + 1) routines)
routines_more {X} {F = F} {g = g} old new routine routines place none below ruled is put so_far = one
  where
    on_shelf : (rule : Rule) (before after : List (Routine X F g)) → after ≡ put_under rule routine.rule routine before
        → AllZip AnswersAs before (routines_of rule (take place routines)) → AllZip AnswersAs after (routines_of rule (take (place + 1) routines))
    on_shelf rule before after grown holds =
        subst (λ shelf. AllZip AnswersAs shelf (routines_of rule (take (place + 1) routines)))
        (sym (grown ∙ ap (λ given. put_under rule given routine before) ruled))
        (shelf_more AnswersAs rule before routine routines place none below holds is)

    one : RoutinesAnswer new (take (place + 1) routines)
    one Watch = on_shelf Watch old.watch.items new.watch.items put.0 (so_far Watch)
    one Change = on_shelf Change old.change.items new.change.items put.1 (so_far Change)
    one Keeper = on_shelf Keeper old.keeper.items new.keeper.items put.2 (so_far Keeper)
    one KeepOnError = on_shelf KeepOnError old.keep_on_error.items new.keep_on_error.items put.3 (so_far KeepOnError)
    one Free = on_shelf Free old.free.items new.free.items put.4 (so_far Free)

-- another closure is added
pub routines_kept : {X Y Z : Type 0} {F : X → Type 0} {G : Y → Type 0} {H : Z → Type 0} {g : _} {h : _} {i : _}
    (old new : Store X Y Z F G H g h i) (routines : List CompletionRoutine)
    → new.watch.items ≡ old.watch.items → new.change.items ≡ old.change.items → new.keeper.items ≡ old.keeper.items
    → new.keep_on_error.items ≡ old.keep_on_error.items → new.free.items ≡ old.free.items
    → RoutinesAnswer old routines → RoutinesAnswer new routines
routines_kept {X} {F = F} {g = g} old new routines watch change keeper keep_on_error free before = one
  where
    on_shelf : (rule : Rule) (shelf other : List (Routine X F g)) → other ≡ shelf → AllZip AnswersAs shelf (routines_of rule routines) → AllZip AnswersAs other (routines_of rule routines)
    on_shelf rule shelf other same holds = subst (λ given. AllZip AnswersAs given (routines_of rule routines)) (sym same) holds

    one : RoutinesAnswer new routines
    one Watch = on_shelf Watch old.watch.items new.watch.items watch (before Watch)
    one Change = on_shelf Change old.change.items new.change.items change (before Change)
    one Keeper = on_shelf Keeper old.keeper.items new.keeper.items keeper (before Keeper)
    one KeepOnError = on_shelf KeepOnError old.keep_on_error.items new.keep_on_error.items keep_on_error (before KeepOnError)
    one Free = on_shelf Free old.free.items new.free.items free (before Free)

shelf_long : {X : Type 0} {F : X → Type 0} {g : _} (shelf : List (Routine X F g)) (count : ℕ) (rule : Rule) → map (λ routine. routine.rule) shelf ≡ replicate count rule → length shelf ≡ count
shelf_long shelf count rule told = sym (length-map shelf (λ routine. routine.rule)) ∙ ap length told ∙ length-replicate count rule

-- as many stand under a rule as the tables tell
shelves_long : {X Y Z : Type 0} {F : X → Type 0} {G : Y → Type 0} {H : Z → Type 0} {g : _} {h : _} {i : _} (store : Store X Y Z F G H g h i) (rule : Rule)
    → length (of_rule rule store.watch.items store.change.items store.keeper.items store.keep_on_error.items store.free.items) ≡ count_of_rule store.tables.counts rule
shelves_long store Watch = shelf_long store.watch.items store.tables.counts.watch Watch store.watch_told
shelves_long store Change = shelf_long store.change.items store.tables.counts.change Change store.change_told
shelves_long store Keeper = shelf_long store.keeper.items store.tables.counts.keeper Keeper store.keeper_told
shelves_long store KeepOnError = shelf_long store.keep_on_error.items store.tables.counts.keep_on_error KeepOnError store.keep_on_error_told
shelves_long store Free = shelf_long store.free.items store.tables.counts.free Free store.free_told

cancels_long : {X Y Z : Type 0} {F : X → Type 0} {G : Y → Type 0} {H : Z → Type 0} {g : _} {h : _} {i : _} (store : Store X Y Z F G H g h i)
    → length store.cancels.items ≡ length store.tables.cancel_rules
cancels_long store = sym (length-map store.cancels.items (λ routine. routine.rule)) ∙ ap length store.cancels_told

dispatches_long : {X Y Z : Type 0} {F : X → Type 0} {G : Y → Type 0} {H : Z → Type 0} {g : _} {h : _} {i : _} (store : Store X Y Z F G H g h i)
    → length store.dispatches.items ≡ length store.tables.dispatches
dispatches_long store = sym (length-map store.dispatches.items (λ dispatch. dispatch.known)) ∙ ap length store.dispatches_told

-- ---- a store

-- one without closures
pub nothing_told : {X Y Z : Type 0} {F : X → Type 0} {G : Y → Type 0} {H : Z → Type 0} {g : _} {h : _} {i : _} (store : Store X Y Z F G H g h i)
    → store.tables ≡ no_tables → RoutinesAnswer store [] × CancelsAnswer store [] × DispatchesPlan store []
nothing_told store none = (
  (λ rule. zip_none AnswersAs _ (shelves_long store rule ∙ ap (λ (tables : Tables). count_of_rule tables.counts rule) none ∙ none_of rule)),
  zip_none CancelsAs store.cancels.items (cancels_long store ∙ ap (λ (tables : Tables). length tables.cancel_rules) none),
  zip_none PlansAs store.dispatches.items (dispatches_long store ∙ ap (λ (tables : Tables). length tables.dispatches) none),
)
  where
    none_of : (rule : Rule) → count_of_rule no_tables.counts rule ≡ 0
    none_of Watch = refl
    none_of Change = refl
    none_of Keeper = refl
    none_of KeepOnError = refl
    none_of Free = refl

-- one more cancel routine is added
pub cancels_more : {X : Type 0} {F : X → Type 0} {g : _} (routines more : List (CancelRoutine X F g)) (routine : CancelRoutine X F g) (answers : List CancelAnswer) (place : ℕ) (none : CancelAnswer)
    → place < length answers → CancelsAs routine (get_or answers place none) → more ≡ routines ++ routine ∷ []
    → AllZip CancelsAs routines (take place answers) → AllZip CancelsAs more (take (place + 1) answers)
cancels_more routines more routine answers place none below is put so_far =
    subst (λ given. AllZip CancelsAs given (take (place + 1) answers)) (sym put)
    (subst (AllZip CancelsAs (routines ++ routine ∷ [])) (sym (take_more answers place none below))
    (zip_push CancelsAs routines (take place answers) routine (get_or answers place none) so_far is))

-- one more dispatch is added
pub dispatches_more : {X : Type 0} {F : X → Type 0} {g : _} (dispatches more : List (DispatchRoutine X F g)) (dispatch : DispatchRoutine X F g) (plans : List Plan) (place : ℕ) (none : Plan)
    → place < length plans → PlansAs dispatch (get_or plans place none) → more ≡ dispatches ++ dispatch ∷ []
    → AllZip PlansAs dispatches (take place plans) → AllZip PlansAs more (take (place + 1) plans)
dispatches_more dispatches more dispatch plans place none below is put so_far =
    subst (λ given. AllZip PlansAs given (take (place + 1) plans)) (sym put)
    (subst (AllZip PlansAs (dispatches ++ dispatch ∷ [])) (sym (take_more plans place none below))
    (zip_push PlansAs dispatches (take place plans) dispatch (get_or plans place none) so_far is))

-- drivers are added
pub answers_kept : {X Y Z : Type 0} {F : X → Type 0} {G : Y → Type 0} {H : Z → Type 0} {g : _} {h : _} {i : _}
    (old new : Store X Y Z F G H g h i) (script : ScriptParts)
    → (new.watch.items ≡ old.watch.items) × (new.change.items ≡ old.change.items) × (new.keeper.items ≡ old.keeper.items)
    × (new.keep_on_error.items ≡ old.keep_on_error.items) × (new.free.items ≡ old.free.items)
    × (new.cancels.items ≡ old.cancels.items) × (new.dispatches.items ≡ old.dispatches.items)
    → AnswersAll old script → AnswersAll new script
answers_kept old new script same all = (
  routines_kept old new script.completions same.0 same.1 same.2 same.3 same.4 all.0,
  subst (λ given. AllZip CancelsAs given script.cancels) (sym same.5) all.1,
  subst (λ given. AllZip PlansAs given script.dispatches) (sym same.6) all.2,
)

-- what a store may answer is what the script tells
pub store_answers_so : {X Y Z : Type 0} {F : X → Type 0} {G : Y → Type 0} {H : Z → Type 0} {g : _} {h : _} {i : _} (store : Store X Y Z F G H g h i) (script : ScriptParts) → AnswersAll store script
    → AnswersSo
    (λ id shown plan. IsPlanAllowed store.tables id shown plan × IfSome (slice_get store.dispatches.items id.0) (λ own. dispatch_may own shown plan))
    (λ id shown answer. IsAnswerAllowed store.tables id shown answer
    × IfSome (slice_get (of_rule id.rule store.watch.items store.change.items store.keeper.items store.keep_on_error.items store.free.items) id.no) (λ own. routine_may own shown answer))
    (λ id shown answer. IsCancelAllowed store.tables id answer × IfSome (slice_get store.cancels.items id.0) (λ own. cancel_may own shown answer))
    (IsTold script)
store_answers_so store script all (Dispatch id shown plan) (allowed, may) = ∣
    read_at PlansAs (λ own. dispatch_may own shown plan) (λ told. plan_of told shown) plan store.dispatches.items script.dispatches id.0 all.2
    (subst (λ many. id.0 < many) (sym (dispatches_long store)) (slice_get_within store.tables.dispatches id.0 allowed.known allowed.there)) may
    (λ own told planned given. sym (planned shown plan given)) ∣₁
store_answers_so store script all (Completion id shown answer) (allowed, may) = ∣
    read_at AnswersAs (λ own. routine_may own shown answer) (λ told. answer_of told shown) answer
    (of_rule id.rule store.watch.items store.change.items store.keeper.items store.keep_on_error.items store.free.items) (routines_of id.rule script.completions) id.no (all.0 id.rule)
    (subst (λ many. id.no < many) (sym (shelves_long store id.rule)) allowed.there) may
    (λ own told answered given. sym (answered shown answer given)) ∣₁
store_answers_so store script all (Cancel id shown answer) (allowed, may) = ∣
    sym (same_some (slice_get script.cancels id.0))
    ∙ read_at CancelsAs (λ own. cancel_may own shown answer) (λ told. told) answer store.cancels.items script.cancels id.0 all.1
    (subst (λ many. id.0 < many) (sym (cancels_long store)) (slice_get_within store.tables.cancel_rules id.0 allowed.rule allowed.there)) may
    (λ own told answered given. sym (answered shown answer given)) ∣₁
