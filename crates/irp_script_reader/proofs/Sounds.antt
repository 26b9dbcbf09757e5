-- A script that is read is sound: what each member keeps is kept by its list.
use Rattle.std.proofs.Common.{◌≡◌, ℕ, suc, zero, ◌+◌, ◌≤◌, ◌<◌, List, [], ◌∷◌, ◌++◌, length, Bool, true, false, not, ◌&&◌, ◌||◌, nat_le, nat_lt, Option, Some, None, Result, Ok, Err, refl, sym, ap, ◌∙◌, subst, arith, if◌then◌else◌, codes, inl, inr, take, is_none}
use Rattle.std.specs.Prelude.{IfOk, IsUtf8, ◌≢◌}
use Rattle.std.specs.List.{All, AllPairs}
use Rattle.std.proofs.Common.{bytes_eq, get_or}
use mathlib.Core.Bool.{true≢false}
use Rattle.std.proofs.lemmas.Bool.Decides.{eqb_tells}
use Rattle.std.proofs.lemmas.List.{get_or_append_left, get_or_push, take-append-le, take_all}
use Rattle.std.proofs.lemmas.Option.{get_or_from_slice_get, slice_get_within}
use Rattle.std.proofs.lemmas.List.Quantifiers.{all_pairs_push}
use Rattle.std.proofs.lemmas.Slice.Eq.{bytes_eq-Decides}
use Rattle.std.specs.Option.{ok_or, option_and_then}
use Rattle.std.proofs.lemmas.List.Elements.{All-nil, All-push}
use Rattle.std.proofs.lemmas.Bool.{and_parts, le-ltb, leb-true, ltb-false, ltb-true}
use Rattle.std.proofs.lemmas.Grind.{common_steps}
use Rattle.serde_json.specs.Data.{Data, Items, no_items, item}
use Rattle.serde_json.specs.Find.{get, as_array}
use Rattle.serde_json.specs.Read.{read}
use Rattle.irp_forms.specs.Parts as parts
use Rattle.irp_forms.proofs.Texts.{some_text}
use Rattle.irp_forms.specs.Values.{cancel_answer_at, handler_at, plan_at}
use Rattle.irp_types.specs.Rules.{IsWithin}
use Rattle.irp_types.specs.State.{most_known, no_routines}
use Rattle.irp_types.specs.declared.{routine.Known.Known, answer.Plan.Plan, routine.Rule.Rule}
use Rattle.irp_types.specs.declared.routine.Rule.TheVariants.{Watch, Change, Keeper, KeepOnError, Free}
use Rattle.irp_script_reader.specs.Acts.{step_at}
use Rattle.irp_script_reader.specs.Forms.{may_do, may_hang, may_plan, slots_of, suits_setup}
use Rattle.irp_script_reader.specs.Labels.{label_at, place_among, place_of, with_label, with_labels}
use Rattle.irp_script_reader.specs.Members.{may_have, takes_cancel, takes_completion, takes_dispatch, takes_driver, takes_step}
use Rattle.irp_script_reader.specs.Plans.{is_driver, is_plan_sound, names_known}
use Rattle.irp_script_reader.specs.Routines.{completion_at, counted, obeys_its_rule, one_more}
use Rattle.irp_script_reader.specs.Scripts.{count_at, form_at, keys_at, ReadsScript, routines_at, script_at, steps_at, tables_at, with_slots, count_of, no_steps}
use Rattle.irp_script_reader.specs.Sound.{IsPlan, IsSound, IsStep, with_all, with_one}
use Rattle.irp_script_reader.specs.Taking.{◌>>=◌, Tells, if_list, list_at, members_at, told, unless}
use Rattle.irp_script_reader.specs.declared.condition.Condition.{Condition}
use Rattle.irp_script_reader.specs.declared.{act.Step.Step, lists.Cancels.Cancels, lists.Completions.Completions}
use Rattle.irp_script_reader.specs.declared.{lists.Dispatches.Dispatches, lists.Drivers.Drivers, lists.Steps.Steps}
use Rattle.irp_script_reader.specs.declared.{refusal.MemberFault.MemberFault, refusal.ScriptFault.ScriptFault}
use Rattle.irp_script_reader.specs.declared.{refusal.ScriptRefusal.ScriptRefusal, refusal.Section.Section}
use Rattle.irp_script_reader.specs.declared.{script.CompletionRoutine.CompletionRoutine, script.ScriptForm.ScriptForm}
use Rattle.irp_script_reader.specs.declared.{script.ScriptParts.ScriptParts, read.FormKey.FormKey}
use Rattle.irp_script_reader.specs.declared.refusal.MemberFault.TheVariants.{BadField, RuleBroken, NoRoutine, BadDispatch, TooMany}
use Rattle.irp_script_reader.specs.declared.refusal.ScriptFault.TheVariants.{Refused, NoMemory}
use Rattle.irp_script_reader.specs.declared.refusal.ScriptRefusal.TheVariants.{At}
use Rattle.irp_script_reader.specs.declared.refusal.Section.TheVariants as section
use Rattle.irp_script_reader.specs.declared.read.FormKey.TheVariants as keys

-- ---- one after another

then_any : {A B E : Type 0} (first : Result A E) (next : A → Result B E) (P : B → Type 0)
    → ((value : A) → first ≡ Ok value → IfOk (next value) P) → IfOk (first >>= next) P
then_any (Ok value) next P goes = goes value refl
then_any (Err fault) next P goes = tt

then_from : {A B E : Type 0} (first : Result A E) (next : A → Result B E) (Q : A → Type 0) (P : B → Type 0)
    → IfOk first Q → ((value : A) → Q value → IfOk (next value) P) → IfOk (first >>= next) P
then_from (Ok value) next Q P has goes = goes value has
then_from (Err fault) next Q P has goes = tt

then_if : {B : Type 0} (holds : Bool) (fault : MemberFault) (next : Unit {0} → Result B MemberFault) (P : B → Type 0)
    → (holds ≡ true → IfOk (next tt) P) → IfOk (unless holds fault >>= next) P
then_if true fault next P goes = goes refl
then_if false fault next P goes = tt

told_kept : {L : Type 0} (part : Section) (index : ℕ) (rest : L → Result L ScriptRefusal) (taken : Result L MemberFault) (P : L → Type 0)
    → IfOk taken P → ((list : L) → P list → IfOk (rest list) P) → IfOk (told part index rest taken) P
told_kept part index rest (Ok list) P has goes = goes list has
told_kept part index rest (Err fault) P has goes = tt

members_kept : {L : Type 0} (takes : L → Data → Result L MemberFault) (part : Section) (P : L → Type 0)
    → ((list : L) (form : Data) → P list → IfOk (takes list form) P)
    → (index : ℕ) (list : L) (members : Items) → P list → IfOk (members_at takes part index list members) P
members_kept takes part P each index list no_items has = has
members_kept takes part P each index list (item first others) has =
    told_kept part index (λ next. members_at takes part (index + 1) next others) (takes list first) P (each list first has)
    (λ next there. members_kept takes part P each (index + 1) next others there)

given_kept : {L : Type 0} (takes : L → Data → Result L MemberFault) (part : Section) (P : L → Type 0)
    → ((list : L) (form : Data) → P list → IfOk (takes list form) P)
    → (empty : L) (members : Option Items) → P empty → IfOk (if_list takes part empty members) P
given_kept takes part P each empty None has = tt
given_kept takes part P each empty (Some members) has = members_kept takes part P each 0 empty members has

list_kept : {L : Type 0} (takes : L → Data → Result L MemberFault) (part : Section) (P : L → Type 0)
    → ((list : L) (form : Data) → P list → IfOk (takes list form) P)
    → (key : List ℕ) (empty : L) (whole : Data) → P empty → IfOk (list_at takes part key empty whole) P
unfolding list_at
list_kept takes part P each key empty whole has = given_kept takes part P each empty (option_and_then as_array (get key whole)) has

-- ---- completion routines

with_all_more : (counts : Known) (routines : List CompletionRoutine) (added : CompletionRoutine)
    → with_all counts (routines ++ added ∷ []) ≡ with_one (with_all counts routines) added.rule
with_all_more counts [] added = refl
with_all_more counts (first ∷ others) added = with_all_more (with_one counts first.rule) others added

-- completion routines say nothing of cancel routines
one_cancel : (counts : Known) (rule : Rule) → (with_one counts rule).cancel ≡ counts.cancel
one_cancel counts Watch = refl
one_cancel counts Change = refl
one_cancel counts Keeper = refl
one_cancel counts KeepOnError = refl
one_cancel counts Free = refl

pub all_cancel : (counts : Known) (routines : List CompletionRoutine) → (with_all counts routines).cancel ≡ counts.cancel
all_cancel counts [] = refl
all_cancel counts (first ∷ others) = all_cancel (with_one counts first.rule) others ∙ one_cancel counts first.rule

none_within : IsWithin no_routines most_known
none_within = record {
  watch = omega arith;
  change = omega arith;
  keeper = omega arith;
  keep_on_error = omega arith;
  free = omega arith;
  cancel = omega arith;
}

-- one more where there is room is within the limit
one_within : (count : ℕ) → nat_lt count 256 ≡ true → count + 1 ≤ 256
one_within count room = (let low = ltb-true count 256 room in omega (arith, low))

more_kept : (holds : Bool) (count : ℕ) (make : ℕ → Known) (P : Known → Type 0)
    → (holds ≡ true → P (make count)) → IfOk (ok_or (parts.◌>>=◌ (if holds then Some count else None) (λ n. Some (make n))) TooMany) P
more_kept true count make P has = has refl
more_kept false count make P has = tt

-- the counts have one more routine of the rule, and are within the limits
abbrev IsCounted : Known → Rule → Known → Type 0
IsCounted counts rule more = (more ≡ with_one counts rule) × IsWithin more most_known

counted_kept : (counts : Known) (rule : Rule) → IsWithin counts most_known → IfOk (ok_or (counted counts rule) TooMany) (IsCounted counts rule)
unfolding counted
counted_kept counts Watch within =
    more_kept (nat_lt counts.watch 256) (counts.watch + 1) (λ n. record counts { watch = n }) (IsCounted counts Watch) (λ room. (
      refl,
      record {
        watch = one_within counts.watch room;
        change = within.change;
        keeper = within.keeper;
        keep_on_error = within.keep_on_error;
        free = within.free;
        cancel = within.cancel;
      },
    ))
counted_kept counts Change within =
    more_kept (nat_lt counts.change 256) (counts.change + 1) (λ n. record counts { change = n }) (IsCounted counts Change) (λ room. (
      refl,
      record {
        watch = within.watch;
        change = one_within counts.change room;
        keeper = within.keeper;
        keep_on_error = within.keep_on_error;
        free = within.free;
        cancel = within.cancel;
      },
    ))
counted_kept counts Keeper within =
    more_kept (nat_lt counts.keeper 256) (counts.keeper + 1) (λ n. record counts { keeper = n }) (IsCounted counts Keeper) (λ room. (
      refl,
      record {
        watch = within.watch;
        change = within.change;
        keeper = one_within counts.keeper room;
        keep_on_error = within.keep_on_error;
        free = within.free;
        cancel = within.cancel;
      },
    ))
counted_kept counts KeepOnError within =
    more_kept (nat_lt counts.keep_on_error 256) (counts.keep_on_error + 1) (λ n. record counts { keep_on_error = n }) (IsCounted counts KeepOnError) (λ room. (
      refl,
      record {
        watch = within.watch;
        change = within.change;
        keeper = within.keeper;
        keep_on_error = one_within counts.keep_on_error room;
        free = within.free;
        cancel = within.cancel;
      },
    ))
counted_kept counts Free within =
    more_kept (nat_lt counts.free 256) (counts.free + 1) (λ n. record counts { free = n }) (IsCounted counts Free) (λ room. (
      refl,
      record {
        watch = within.watch;
        change = within.change;
        keeper = within.keeper;
        keep_on_error = within.keep_on_error;
        free = one_within counts.free room;
        cancel = within.cancel;
      },
    ))

abbrev AreCompletions : Completions → Type 0
AreCompletions list =
    (list.counts ≡ with_all no_routines list.routines) × IsWithin list.counts most_known
    × All (λ routine. obeys_its_rule routine ≡ true) list.routines

completion_kept : (list : Completions) (form : Data) → AreCompletions list → IfOk (takes_completion list form) AreCompletions
unfolding takes_completion
completion_kept list form has =
    then_any (ok_or (completion_at form) BadField) _ AreCompletions (λ routine read.
    then_if (obeys_its_rule routine) RuleBroken _ AreCompletions (λ obeys.
    then_from (ok_or (counted list.counts routine.rule) TooMany) _ (IsCounted list.counts routine.rule) AreCompletions
    (counted_kept list.counts routine.rule has.1)
    (λ counts is. (
      is.0 ∙ ap (λ given. with_one given routine.rule) has.0 ∙ sym (with_all_more no_routines list.routines routine),
      is.1,
      All-push (λ given. obeys_its_rule given ≡ true) list.routines routine has.2 obeys,
    ))))

-- ---- cancel routines

abbrev AreCancels : Known → Cancels → Type 0
AreCancels counts list =
    (list.counts ≡ record counts { cancel = counts.cancel + length list.answers }) × IsWithin list.counts most_known

room_kept : (holds : Bool) (count : ℕ) (P : ℕ → Type 0) → (holds ≡ true → P count) → IfOk (ok_or (if holds then Some count else None) TooMany) P
room_kept true count P has = has refl
room_kept false count P has = tt

plus_none : (n : ℕ) → n ≡ n + 0
plus_none n = omega arith

none_plus : (n : ℕ) → 0 + n ≡ n
none_plus n = omega arith

longer : {T : Type 0} (items : List T) (added : T) (n : ℕ) → (n + length items) + 1 ≡ n + length (items ++ added ∷ [])
longer items added n = grind (arith, common_steps)

cancel_kept : (counts : Known) (list : Cancels) (form : Data) → AreCancels counts list → IfOk (takes_cancel list form) (AreCancels counts)
unfolding takes_cancel
cancel_kept counts list form has =
    then_any (ok_or (cancel_answer_at form) BadField) _ (AreCancels counts) (λ answer read.
    then_from (ok_or (one_more list.counts.cancel) TooMany) _ (λ count. (count ≡ list.counts.cancel + 1) × (count ≤ 256)) (AreCancels counts)
    (room_kept (nat_lt list.counts.cancel 256) (list.counts.cancel + 1) (λ count. (count ≡ list.counts.cancel + 1) × (count ≤ 256))
    (λ room. (refl, one_within list.counts.cancel room)))
    (λ count is. (
      ap (λ (given : Known). record given { cancel = count }) has.0
          ∙ ap (λ n. record counts { cancel = n }) (is.0 ∙ ap (λ (given : Known). given.cancel + 1) has.0 ∙ longer list.answers answer counts.cancel),
      record {
        watch = has.1.watch;
        change = has.1.change;
        keeper = has.1.keeper;
        keep_on_error = has.1.keep_on_error;
        free = has.1.free;
        cancel = is.1;
      },
    )))

-- ---- dispatches

abbrev ArePlans : ScriptForm → Known → Dispatches → Type 0
ArePlans form known list =
    (list.form ≡ form) × (list.known ≡ known) × (length list.plans ≤ 256) × All (IsPlan form known) list.plans

-- one more where there is room is no more than there may be
few_more : {T : Type 0} (items : List T) (added : T) (most : ℕ) → nat_lt (length items) most ≡ true → length (items ++ added ∷ []) ≤ most
few_more items added most room =
    let low = ltb-true (length items) most room in
    let more = longer items added 0 in omega (arith, low, more)

dispatch_kept : (form : ScriptForm) (known : Known) (list : Dispatches) (given : Data) → ArePlans form known list
    → IfOk (takes_dispatch list given) (ArePlans form known)
unfolding takes_dispatch
dispatch_kept form known list given has =
    then_any (ok_or (plan_at given) BadField) _ (ArePlans form known) (λ plan read.
    then_if (may_plan list.form plan) BadField _ (ArePlans form known) (λ may.
    then_if (is_plan_sound plan) RuleBroken _ (ArePlans form known) (λ sound.
    then_if (names_known list.known plan) NoRoutine _ (ArePlans form known) (λ names.
    then_if (nat_lt (length list.plans) 256) TooMany _ (ArePlans form known) (λ room. (
      has.0,
      has.1,
      few_more list.plans plan 256 room,
      All-push (IsPlan form known) list.plans plan has.3 (
        ap (λ given. may_plan given plan) (sym has.0) ∙ may,
        sound,
        ap (λ given. names_known given plan) (sym has.1) ∙ names,
      ),
    ))))))

-- ---- drivers

abbrev AreDrivers : ℕ → Drivers → Type 0
AreDrivers dispatches list =
    (list.dispatches ≡ dispatches) × (length list.tables ≤ 64)
    × All (λ handlers. is_driver dispatches handlers ≡ true) list.tables

driver_kept : (dispatches : ℕ) (list : Drivers) (form : Data) → AreDrivers dispatches list → IfOk (takes_driver list form) (AreDrivers dispatches)
unfolding takes_driver
driver_kept dispatches list form has =
    then_any (ok_or (parts.list_at handler_at form) BadField) _ (AreDrivers dispatches) (λ handlers read.
    then_if (is_driver list.dispatches handlers) BadDispatch _ (AreDrivers dispatches) (λ there.
    then_if (nat_lt (length list.tables) 64) TooMany _ (AreDrivers dispatches) (λ room. (
      has.0,
      few_more list.tables handlers 64 room,
      All-push (λ given. is_driver dispatches given ≡ true) list.tables handlers has.2
          (ap (λ given. is_driver given handlers) (sym has.0) ∙ there),
    ))))

-- ---- steps

-- what a list of steps has, in `setup` or else in `steps`
abbrev IsListed : ScriptForm → ℕ → Bool → Step → Type 0
IsListed form seats in_setup step =
    IsStep form seats step × (not in_setup || (suits_setup step.act && is_none step.condition) ≡ true)

-- each step hangs on what it may hang on, behind those before it
abbrev Hang : ScriptForm → List Step → Type 0
Hang form steps =
    (k : ℕ) (d : Step) → k < length steps → may_hang form (take k steps) (get_or steps k d).seat (get_or steps k d).condition ≡ true

hang_more : (form : ScriptForm) (steps : List Step) (step : Step) → Hang form steps → may_hang form steps step.seat step.condition ≡ true
    → Hang form (steps ++ step ∷ [])
hang_more form steps step has may k d within = elim (eqb_tells k (length steps)) as (λ _. may_hang form (take k (steps ++ step ∷ [])) (get_or (steps ++ step ∷ []) k d).seat (get_or (steps ++ step ∷ []) k d).condition ≡ true) [
  | inl is ↦
      let before : take k (steps ++ step ∷ []) ≡ steps = take-append-le k steps (step ∷ []) (omega (arith, is.1)) ∙ take_all k steps (omega (arith, is.1)) in
      let here : get_or (steps ++ step ∷ []) k d ≡ step = get_or_push steps step d k (sym is.1) in
      ap (λ first. may_hang form first (get_or (steps ++ step ∷ []) k d).seat (get_or (steps ++ step ∷ []) k d).condition) before
      ∙ ap (λ (one : Step). may_hang form steps one.seat one.condition) here ∙ may
  | inr other ↦
      let long = longer steps step 0 in
      let less : k < length steps = omega (arith, within, other.1, long) in
      let before : take k (steps ++ step ∷ []) ≡ take k steps = take-append-le k steps (step ∷ []) (omega (arith, less)) in
      let here : get_or (steps ++ step ∷ []) k d ≡ get_or steps k d = get_or_append_left steps (step ∷ []) d k less in
      ap (λ first. may_hang form first (get_or (steps ++ step ∷ []) k d).seat (get_or (steps ++ step ∷ []) k d).condition) before
      ∙ ap (λ (one : Step). may_hang form (take k steps) one.seat one.condition) here ∙ has k d less
]

hang_none : (form : ScriptForm) → Hang form []
hang_none form k d within = absurd (omega (arith, within))

unhung : (condition : Option Condition) → is_none condition ≡ true → condition ≡ None
unhung None is = refl
unhung (Some condition) is = absurd (true≢false (sym is))

-- labels of which there are no more than there may be, and no two the same
abbrev AreLabels : List (List ℕ) → Type 0
AreLabels labels = (length labels ≤ 4096) × AllPairs (λ label later. label ≢ later) labels

abbrev AreSteps : ScriptForm → ℕ → Bool → Steps → Type 0
AreSteps form seats in_setup list =
    (list.form ≡ form) × (list.seats ≡ seats) × (list.in_setup ≡ in_setup) × AreLabels list.labels
    × All (IsListed form seats in_setup) list.steps × Hang form list.steps

-- a label whose place is behind all labels is none of them
none_place : (labels : List (List ℕ)) (label first : List ℕ) (same : Bool) → same ≡ bytes_eq first label
    → nat_lt (if same then 0 else suc (place_of label labels)) (suc (length labels)) ≡ false
    → (first ≢ label) × (nat_lt (place_of label labels) (length labels) ≡ false)
none_place labels label first true is none =
    absurd (let low : suc (length labels) ≤ 0 = ltb-false 0 (suc (length labels)) none in omega (arith, low))
none_place labels label first false is none =
    let high : suc (length labels) ≤ suc (place_of label labels) = ltb-false (suc (place_of label labels)) (suc (length labels)) none in
    (λ one. let both = (bytes_eq-Decides first label).1 one in cc, le-ltb (place_of label labels) (length labels) (omega (arith, high)))

none_same : (labels : List (List ℕ)) (label : List ℕ) → nat_lt (place_of label labels) (length labels) ≡ false
    → (k : ℕ) (other : List ℕ) → k < length labels → get_or labels k other ≢ label
none_same [] label none k other within = absurd (omega (arith, within))
none_same (first ∷ others) label none zero other within =
    (none_place others label first (bytes_eq first label) refl none).0
none_same (first ∷ others) label none (suc k) other within =
    none_same others label (none_place others label first (bytes_eq first label) refl none).1 k other (omega (arith, within))

label_by : (labels : List (List ℕ)) (label : List ℕ) (known room : Bool) → known ≡ nat_lt (place_of label labels) (length labels)
    → room ≡ nat_lt (length labels) 4096 → AreLabels labels
    → IfOk (if known then Ok labels else (if room then Ok (labels ++ label ∷ []) else Err TooMany)) AreLabels
label_by labels label true room at is has = has
label_by labels label false true at is has = (
  few_more labels label 4096 (sym is),
  all_pairs_push (λ label later. label ≢ later) labels label has.1 (none_same labels label (sym at)),
)
label_by labels label false false at is has = tt

labels_kept : (labels : List (List ℕ)) (label : Option (List ℕ)) → AreLabels labels → IfOk (with_labels labels label) AreLabels
unfolding with_label
labels_kept labels None has = has
labels_kept labels (Some label) has =
    label_by labels label (nat_lt (place_of label labels) (length labels)) (nat_lt (length labels) 4096) refl refl has

no_labels : AreLabels []
no_labels = (omega arith, λ i j other before within. absurd (omega (arith, within)))

may_is : (list : Steps) (step : Step) → may_have list step ≡ true
    → IsListed list.form list.seats list.in_setup step × (may_hang list.form list.steps step.seat step.condition ≡ true)
may_is list step may =
    let seated = and_parts (nat_lt step.seat list.seats) _ may in
    let both = and_parts (not list.in_setup || (suits_setup step.act && is_none step.condition)) _ seated.1 in
    let does = and_parts (may_do list.form list.seats step.seat step.act) (may_hang list.form list.steps step.seat step.condition) both.1 in
    (((ltb-true step.seat list.seats seated.0, does.0), both.0), does.1)

step_kept : (form : ScriptForm) (seats : ℕ) (in_setup : Bool) (list : Steps) (given : Data) → AreSteps form seats in_setup list
    → IfOk (takes_step list given) (AreSteps form seats in_setup)
unfolding takes_step
step_kept form seats in_setup list given has =
    then_any (ok_or (step_at (place_among list.labels (label_at given)) given) BadField) _ (AreSteps form seats in_setup) (λ step read.
    then_if (may_have list step) BadField _ (AreSteps form seats in_setup) (λ may.
    then_from (with_labels list.labels (label_at given)) _ AreLabels (AreSteps form seats in_setup)
    (labels_kept list.labels (label_at given) has.3)
    (λ labels named. (
      has.0,
      has.1,
      has.2,
      named,
      All-push (IsListed form seats in_setup) list.steps step has.4
          (subst (λ to. IsListed to seats in_setup step) has.0
          (subst (λ to. IsListed list.form to in_setup step) has.1
          (subst (λ to. IsListed list.form list.seats to step) has.2 (may_is list step may).0))),
      hang_more form list.steps step has.5 (ap (λ to. may_hang to list.steps step.seat step.condition) (sym has.0) ∙ (may_is list step may).1),
    ))))

steps_kept : (form : ScriptForm) (seats : ℕ) (whole : Data)
    → IfOk (steps_at form seats whole) (λ steps. All (IsListed form seats true) steps.0 × AreSteps form seats false steps.1)
unfolding steps_at
steps_kept form seats whole =
    then_from (list_at takes_step section.Setup (codes "setup") (no_steps form seats true []) whole) _
    (AreSteps form seats true) _
    (list_kept takes_step section.Setup (AreSteps form seats true) (step_kept form seats true)
    (codes "setup") (no_steps form seats true []) whole (refl, refl, refl, no_labels, All-nil _, hang_none form))
    (λ setup seated.
    then_from (list_at takes_step section.Steps (codes "steps") (no_steps form seats false setup.labels) whole) _
    (AreSteps form seats false) _
    (list_kept takes_step section.Steps (AreSteps form seats false) (step_kept form seats false)
    (codes "steps") (no_steps form seats false setup.labels) whole (refl, refl, refl, seated.3, All-nil _, hang_none form))
    (λ steps others. (seated.4, others)))

-- ---- seats, locks and cancel slots

-- from the least number to 64
abbrev IsCount : ℕ → ℕ → Type 0
IsCount least count = (least ≤ count) × (count ≤ 64)

few_kept : (part : Section) (least given : ℕ) (first second : Bool) → first ≡ nat_le least given → second ≡ nat_le given 64
    → IfOk (if first && second then Ok given else Err (At BadField part 0)) (IsCount least)
few_kept part least given true true low high = (leb-true least given (sym low), leb-true given 64 (sym high))
few_kept part least given true false low high = tt
few_kept part least given false second low high = tt

numbered_kept : (part : Section) (least : ℕ) (given : Option ℕ) → IfOk (count_of part least given) (IsCount least)
numbered_kept part least None = tt
numbered_kept part least (Some given) = few_kept part least given (nat_le least given) (nat_le given 64) refl refl

count_kept : (part : Section) (least : ℕ) (key : List ℕ) (whole : Data) → IfOk (count_at part least key whole) (IsCount least)
unfolding count_at
count_kept part least key whole = numbered_kept part least (option_and_then parts.u32_at (get key whole))

slots_kept : (given : FormKey) (whole : Data) → IfOk (with_slots given whole) (λ form. slots_of form ≤ 64)
unfolding with_slots
slots_kept keys.One whole = omega arith
slots_kept keys.Two whole =
    then_from (count_at section.Slots 0 (codes "slots") whole) _ (IsCount 0) (λ form. slots_of form ≤ 64)
    (count_kept section.Slots 0 (codes "slots") whole) (λ count few. few.1)
slots_kept keys.Four whole =
    then_from (count_at section.Slots 0 (codes "slots") whole) _ (IsCount 0) (λ form. slots_of form ≤ 64)
    (count_kept section.Slots 0 (codes "slots") whole) (λ count few. few.1)

-- ---- routines and tables

-- the routines keep their rules, and the counts are those of what the script has, within the limits
abbrev AreRoutines : List CompletionRoutine × Cancels → Type 0
AreRoutines routines =
    All (λ routine. obeys_its_rule routine ≡ true) routines.0
    × (routines.1.counts ≡ record (with_all no_routines routines.0) { cancel = length routines.1.answers })
    × IsWithin routines.1.counts most_known

-- the cancel routines are counted beside the completion routines
counts_are : (routines : List CompletionRoutine) (counts : Known) (cancels : Cancels)
    → counts ≡ with_all no_routines routines → cancels.counts ≡ record counts { cancel = counts.cancel + length cancels.answers }
    → cancels.counts ≡ record (with_all no_routines routines) { cancel = length cancels.answers }
counts_are routines counts cancels same counted =
    counted
    ∙ ap (λ (given : Known). record given { cancel = given.cancel + length cancels.answers }) same
    ∙ ap (λ n. record (with_all no_routines routines) { cancel = n + length cancels.answers }) (all_cancel no_routines routines)
    ∙ ap (λ n. record (with_all no_routines routines) { cancel = n }) (none_plus (length cancels.answers))

routines_kept : (whole : Data) → IfOk (routines_at whole) AreRoutines
unfolding routines_at
routines_kept whole =
    then_from (list_at takes_completion section.Completions (codes "completions") (record { routines = []; counts = no_routines }) whole) _
    AreCompletions AreRoutines
    (list_kept takes_completion section.Completions AreCompletions completion_kept
    (codes "completions") (record { routines = []; counts = no_routines }) whole (refl, none_within, All-nil _))
    (λ completions obey.
    then_from (list_at takes_cancel section.Cancels (codes "cancels") (record { answers = []; counts = completions.counts }) whole) _
    (AreCancels completions.counts) AreRoutines
    (list_kept takes_cancel section.Cancels (AreCancels completions.counts) (cancel_kept completions.counts)
    (codes "cancels") (record { answers = []; counts = completions.counts }) whole
    (ap (λ n. record completions.counts { cancel = n }) (plus_none completions.counts.cancel), obey.1))
    (λ cancels counted. (obey.2, counts_are completions.routines completions.counts cancels obey.0 counted.0, counted.1)))

abbrev AreTables : ScriptForm → Known → List Plan × Drivers → Type 0
AreTables form known tables =
    (length tables.0 ≤ 256) × All (IsPlan form known) tables.0 × AreDrivers (length tables.0) tables.1

tables_kept : (form : ScriptForm) (known : Known) (whole : Data) → IfOk (tables_at form known whole) (AreTables form known)
unfolding tables_at
tables_kept form known whole =
    then_from (list_at takes_dispatch section.Dispatches (codes "dispatches") (record { form = form; known = known; plans = [] }) whole) _
    (ArePlans form known) (AreTables form known)
    (list_kept takes_dispatch section.Dispatches (ArePlans form known) (dispatch_kept form known)
    (codes "dispatches") (record { form = form; known = known; plans = [] }) whole (refl, refl, omega arith, All-nil _))
    (λ dispatches plans.
    then_from (list_at takes_driver section.Drivers (codes "drivers") (record { dispatches = length dispatches.plans; tables = [] }) whole) _
    (AreDrivers (length dispatches.plans)) (AreTables form known)
    (list_kept takes_driver section.Drivers (AreDrivers (length dispatches.plans)) (driver_kept (length dispatches.plans))
    (codes "drivers") (record { dispatches = length dispatches.plans; tables = [] }) whole (refl, omega arith, All-nil _))
    (λ drivers tables. (plans.2, plans.3, tables)))

-- ---- the whole

script_sound : (whole : Data) → IfOk (script_at whole) IsSound
unfolding script_at
script_sound whole =
    then_any (form_at whole) _ IsSound (λ given read.
    then_any (keys_at given whole) _ IsSound (λ its there.
    then_from (count_at section.Seats 1 (codes "seats") whole) _ (IsCount 1) IsSound (count_kept section.Seats 1 (codes "seats") whole)
    (λ seats seated.
    then_from (count_at section.Locks 1 (codes "locks") whole) _ (IsCount 1) IsSound (count_kept section.Locks 1 (codes "locks") whole)
    (λ locks locked.
    then_from (with_slots given whole) _ (λ form. slots_of form ≤ 64) IsSound (slots_kept given whole)
    (λ form few.
    then_from (routines_at whole) _ AreRoutines IsSound (routines_kept whole)
    (λ routines obey.
    then_from (tables_at form routines.1.counts whole) _ (AreTables form routines.1.counts) IsSound
    (tables_kept form routines.1.counts whole)
    (λ tables named.
    then_from (steps_at form seats whole) _
    (λ steps. All (IsListed form seats true) steps.0 × AreSteps form seats false steps.1) IsSound
    (steps_kept form seats whole)
    (λ steps listed. record {
      some_seats = seated.0;
      few_seats = seated.1;
      some_locks = locked.0;
      few_locks = locked.1;
      few_slots = few;
      few_routines = subst (λ known. IsWithin known most_known) obey.1 obey.2;
      few_dispatches = named.0;
      few_drivers = named.2.1;
      few_labels = listed.1.3.0;
      other_labels = listed.1.3.1;
      completions = obey.0;
      dispatches = subst (λ known. All (IsPlan form known) tables.0) obey.1 named.1;
      drivers = named.2.2;
      setup = λ k step within. let one = listed.0 k step within in
          (one.0, (and_parts (suits_setup (get_or steps.0 k step).act) (is_none (get_or steps.0 k step).condition) one.1).0);
      unconditioned = λ k step within. let one = listed.0 k step within in
          unhung (get_or steps.0 k step).condition (and_parts (suits_setup (get_or steps.0 k step).act) (is_none (get_or steps.0 k step).condition) one.1).1;
      steps = λ k step within. (listed.1.4 k step within).0;
      conditions = λ k step there.
          let here = listed.1.5 k step (slice_get_within steps.1.steps k step there) in
          subst (λ (one : Step). may_hang form (take k steps.1.steps) one.seat one.condition ≡ true) (get_or_from_slice_get steps.1.steps k step step there) here;
    }))))))))

pub told_sound : (result : Result ScriptParts ScriptFault) (whole : Data) → Tells result (script_at whole) → IfOk result IsSound
told_sound (Ok script) whole is = subst (λ given. IfOk given IsSound) is (script_sound whole)
told_sound (Err (Refused refusal)) whole is = tt
told_sound (Err NoMemory) whole is = tt

-- what the value of a text gives is what the text gives
pub told_reads : (result : Result ScriptParts ScriptFault) (text : List ℕ) (whole : Data) → length text ≤ 1048576 → IsUtf8 text → read text ≡ Some whole
    → Tells result (script_at whole) → ReadsScript result text
told_reads (Ok script) text whole few utf8 is given = (whole, (few, utf8, is), given)
told_reads (Err (Refused refusal)) text whole few utf8 is given = inr (inr (whole, (few, utf8, is), given))
told_reads (Err NoMemory) text whole few utf8 is given = (some_text text whole is, few)
