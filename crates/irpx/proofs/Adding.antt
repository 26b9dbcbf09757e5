-- What the tables of a store are, once some of a script's routines, dispatches and drivers are added.
use Rattle.std.proofs.Common.{◌≡◌, ℕ, ◌+◌, ◌<◌, ◌≤◌, List, [], ◌∷◌, ◌++◌, length, get_or, take, map, All, refl, sym, ap, ap₂, subst, ◌∙◌, arith, append_assoc, length-append, zero-add}
use Rattle.std.proofs.lemmas.List.{map-append, take_all, take_more}
use Rattle.irp_types.specs.State.{Tables, Entrance, no_routines}
use Rattle.irp_types.specs.declared.answer.CancelAnswer.{CancelAnswer}
use Rattle.irp_types.specs.declared.answer.Plan.{Plan}
use Rattle.irp_types.specs.declared.routine.CancelRule.{CancelRule}
use Rattle.irp_types.specs.declared.routine.Known.{Known}
use Rattle.irp_types.specs.declared.routine.Rule.{Rule}
use Rattle.irp_types.specs.declared.routine.Rule.TheVariants.{Watch, Change, Keeper, KeepOnError, Free}
use Rattle.irp_routines.specs.Tables.{by_major, no_tables, one_more, with_cancel, with_dispatch, with_driver, with_routine}
use Rattle.irp_script_reader.proofs.Sounds.{all_cancel}
use Rattle.irp_script_reader.specs.Sound.{known_of, with_all, with_one}
use Rattle.irp_script_reader.specs.declared.script.CompletionRoutine.{CompletionRoutine}
use Rattle.irp_script_reader.specs.declared.script.ScriptParts.{ScriptParts}
use Rattle.irp_steps.specs.Behaviours.{cancel_rule_of}
use Rattle.irpx.specs.Running.{and_cancels, and_dispatches, and_drivers, and_routines}

-- one more item is added: what the tables are of the items so far grows by it
pub added : {X : Type 0} (told : List X → Tables) (push : X → Tables → Tables) → ((xs : List X) (x : X) → told (xs ++ x ∷ []) ≡ push x (told xs)) → (xs : List X) (i : ℕ) (d : X) → i < length xs → (old new : Tables) → old ≡ told (take i xs) → new ≡ push (get_or xs i d) old → new ≡ told (take (i + 1) xs)
added told push grows xs i d below old new is pushed =
    pushed ∙ (ap (push (get_or xs i d)) is ∙ (sym (grows (take i xs) (get_or xs i d)) ∙ ap told (sym (take_more xs i d below))))

-- all items are added
pub all_added : {X : Type 0} (told : List X → Tables) (xs : List X) (i : ℕ) → length xs ≤ i → (tables : Tables) → tables ≡ told (take i xs) → tables ≡ told xs
all_added told xs i over tables is = is ∙ ap told (take_all i xs over)

-- all items, of the list that these are
pub whole : {X : Type 0} (xs ys : List X) → xs ≡ ys → (i : ℕ) → length xs ≤ i → take i xs ≡ ys
whole xs ys same i over = take_all i xs over ∙ same

-- the same of the list that these items are
pub all_of : {X : Type 0} (told : List X → Tables) (xs ys : List X) → xs ≡ ys → (i : ℕ) → length xs ≤ i → (tables : Tables) → tables ≡ told (take i xs) → tables ≡ told ys
all_of told xs ys same i over tables is = all_added told xs i over tables is ∙ ap told same

-- ---- completion routines

one_is : (counts : Known) (rule : Rule) → with_one counts rule ≡ one_more counts rule
one_is counts Watch = refl
one_is counts Change = refl
one_is counts Keeper = refl
one_is counts KeepOnError = refl
one_is counts Free = refl

all_and_one : (counts : Known) (routines : List CompletionRoutine) (routine : CompletionRoutine) → with_all counts (routines ++ routine ∷ []) ≡ one_more (with_all counts routines) routine.rule
all_and_one counts [] routine = one_is counts routine.rule
all_and_one counts (first ∷ others) routine = all_and_one (with_one counts first.rule) others routine

pub routines_grow : (tables : Tables) (routines : List CompletionRoutine) (routine : CompletionRoutine) → and_routines (routines ++ routine ∷ []) tables ≡ with_routine (and_routines routines tables) routine.rule
routines_grow tables routines routine =
    ap (λ (counts : Known). record tables { counts = counts }) (all_and_one tables.counts routines routine)

-- ---- cancel routines

one_longer : (cancel : ℕ) (answers : List CancelAnswer) (answer : CancelAnswer) → cancel + length (answers ++ answer ∷ []) ≡ (cancel + length answers) + 1
one_longer cancel answers answer = omega (arith, length-append answers (answer ∷ []))

rules_longer : (rules : List CancelRule) (answers : List CancelAnswer) (answer : CancelAnswer) → rules ++ map cancel_rule_of (answers ++ answer ∷ []) ≡ (rules ++ map cancel_rule_of answers) ++ cancel_rule_of answer ∷ []
rules_longer rules answers answer =
    ap (λ (more : List CancelRule). rules ++ more) (map-append cancel_rule_of answers (answer ∷ []))
    ∙ sym (append_assoc rules (map cancel_rule_of answers) (cancel_rule_of answer ∷ []))

pub cancels_grow : (tables : Tables) (answers : List CancelAnswer) (answer : CancelAnswer) → and_cancels (answers ++ answer ∷ []) tables ≡ with_cancel (and_cancels answers tables) (cancel_rule_of answer)
cancels_grow tables answers answer =
    ap₂ (λ (cancel : ℕ) (rules : List CancelRule). record tables { counts = record tables.counts { cancel = cancel }; cancel_rules = rules })
    (one_longer tables.counts.cancel answers answer) (rules_longer tables.cancel_rules answers answer)

-- ---- dispatches

pub dispatches_grow : (tables : Tables) (plans : List Plan) (plan : Plan) → and_dispatches (plans ++ plan ∷ []) tables ≡ with_dispatch (and_dispatches plans tables) tables.counts
dispatches_grow tables plans plan =
    ap (λ (all : List Known). record tables { dispatches = all })
    (ap (λ (more : List Known). tables.dispatches ++ more) (map-append (λ (each : Plan). tables.counts) plans (plan ∷ []))
    ∙ sym (append_assoc tables.dispatches (map (λ (each : Plan). tables.counts) plans) (tables.counts ∷ [])))

-- ---- drivers

pub drivers_grow : (tables : Tables) (drivers : List (List Entrance)) (driver : List Entrance) → and_drivers (drivers ++ driver ∷ []) tables ≡ with_driver (and_drivers drivers tables) (by_major driver)
drivers_grow tables drivers driver =
    ap (λ (all : List (List Entrance)). record tables { drivers = all })
    (ap (λ (more : List (List Entrance)). tables.drivers ++ more) (map-append by_major drivers (driver ∷ []))
    ∙ sym (append_assoc tables.drivers (map by_major drivers) (by_major driver ∷ [])))

-- ---- what holds of a script's closures

-- what holds of each item holds of the one that a loop is at
pub holds_at : {X : Type 0} (P : X → Type 0) (xs ys : List X) (i : ℕ) (d : X) → ys ≡ xs → All P xs → i < length ys → P (get_or ys i d)
holds_at P xs ys i d same holds below = subst (All P) (sym same) holds i d below

-- a store with a script's completion routines and cancel routines has as many as the script
pub counts_known : (script : ScriptParts) → (and_cancels script.cancels (and_routines script.completions no_tables)).counts ≡ known_of script
counts_known script =
    ap (λ n. record (with_all no_routines script.completions) { cancel = n })
    (ap (λ n. n + length script.cancels) (all_cancel no_routines script.completions) ∙ zero-add (length script.cancels))
