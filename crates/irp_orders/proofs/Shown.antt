-- What stands in a sink, and what is told of an outcome that breaks what is asked.
use Rattle.std.proofs.Common.{◌≡◌, ◌<◌, ◌∙◌, ℕ, Bool, List, [], ◌++◌, Option, Some, None, length, refl, sym, subst}
use Rattle.std.specs.Prelude.{IfSome, slice_get}
use Rattle.std.proofs.lemmas.Option.{slice_get_within}
use Rattle.std.proofs.lemmas.List.{append_assoc}
use Rattle.irp_types.specs.declared.entry.Entry.{Entry}
use Rattle.irp_names.specs.Sinks.{Says}
use Rattle.irp_names.proofs.Saying.{says_both}
use Rattle.irp_orders.specs.Judging.{IsVerdict}
use Rattle.irp_orders.specs.Such.{PutsSuch}
use Rattle.irp_orders.specs.Told.{Explains, IsBrokenText, IsShownBehind, IsShownIn, PutsShown, broken_line, number_at, shown_lines}
use Rattle.irp_orders.specs.Wrongs.{wrong_lines}
use Rattle.irp_orders.specs.declared.columns.Columns.{Columns}
use Rattle.irp_orders.specs.declared.found.Found.{Found}
use Rattle.irp_orders.specs.declared.judging.Question.{Question}

-- words that were put stand behind those that were there
pub says_from : (words text : List ℕ) (out new : Option (List ℕ)) → Says words out new → new ≡ Some text
    → (before : List ℕ) × (out ≡ Some before) × (text ≡ before ++ words)
says_from words text out new says is = by out (subst (λ (new : Option (List ℕ)). Says words out new) is says)
  where
    by : (out : Option (List ℕ)) → Says words out (Some text)
        → (before : List ℕ) × (out ≡ Some before) × (text ≡ before ++ words)
    by None says = absurd says
    by (Some before) says = (before, refl, says)

-- why an outcome isn't right is told behind its lines
pub shown_wrong : (columns : Columns) (question : Question) (setup : List Entry) (number place : ℕ) (found : Found)
    (out between after : Option (List ℕ)) (middle text : List ℕ) → number ≡ number_at place
    → ((before after : List ℕ)
    → PutsSuch columns.script.now found.outcome.end (before ++ wrong_lines columns.labels.now setup found) after
    → Explains columns question found before after)
    → PutsShown columns number found out between → Says (wrong_lines columns.labels.now setup found) between after
    → after ≡ Some middle → PutsSuch columns.script.now found.outcome.end middle text
    → IsShownIn columns question place found out text
shown_wrong columns question setup number place found out between after middle text at explains puts wrong is such =
    let lines = shown_lines columns number found puts.0 in
    let wrongs = wrong_lines columns.labels.now setup found in
    let from = says_from (lines ++ wrongs) middle out after (says_both lines wrongs out between after puts.2 wrong) is in
    let there : middle ≡ (from.0 ++ shown_lines columns (number_at place) found puts.0) ++ wrongs =
    subst (λ (k : ℕ). middle ≡ (from.0 ++ shown_lines columns k found puts.0) ++ wrongs) at
    (from.2 ∙ sym (append_assoc from.0 lines wrongs)) in (
      from.0,
      from.1,
      (
        puts.0,
        puts.1,
        explains (from.0 ++ shown_lines columns (number_at place) found puts.0) text
            (subst (λ (old : List ℕ). PutsSuch columns.script.now found.outcome.end old text) there such),
      ),
    )

-- the outcome that is shown is one of those that were found
pub shown_within : (Breaks : Found → Type 0) (founds : List Found) (shown : Option ℕ) → IsVerdict Breaks founds shown
    → IfSome shown (λ (place : ℕ). place < length founds)
shown_within Breaks founds None verdict = tt
shown_within Breaks founds (Some place) verdict = slice_get_within founds place verdict.0 verdict.1

-- behind the counts
pub broken_text : (columns : Columns) (founds : List Found) (question : Question) (marks : List Bool) (place : ℕ) (found : Found)
    (before out : Option (List ℕ)) (text : List ℕ) → before ≡ Some [] → Says (broken_line question founds marks) before out
    → slice_get founds place ≡ Some found → IsShownIn columns question place found out text
    → IsBrokenText columns founds question marks place text
broken_text columns founds question marks place found before out text empty says stands shown =
    let words = broken_line question founds marks in
    let from_none : Says words (Some []) out = subst (λ (before : Option (List ℕ)). Says words before out) empty says in
    let so_far : shown.0 ≡ words = subst (λ (out : Option (List ℕ)). Says words (Some []) out) shown.1 from_none in (
      found,
      stands,
      subst (λ (before : List ℕ). IsShownBehind columns question place found before text) so_far shown.2,
    )
