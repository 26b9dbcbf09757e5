-- What marks tell of the outcomes.
use Rattle.std.proofs.Common.{◌≡◌, ◌+◌, ◌<◌, ◌≤◌, ◌↔◌, ◌∙◌, ◌++◌, take, ℕ, zero, suc, Bool, true, false, List, [], ◌∷◌, Option, Some, None, length, get_or, ap, sym, subst, arith}
use Rattle.std.specs.Prelude.{IsTrue}
use Rattle.std.specs.Option.{option_map_or}
use Rattle.std.proofs.lemmas.List.{take_more}
use Rattle.std.proofs.lemmas.Option.{slice_get-get_or}
use Rattle.std.proofs.lemmas.Slice.Zip.{all_zipped_more}
use Rattle.irp_orders.specs.Judging.{AreMarks, IsShortestBelow, IsVerdict, is_marked, steps_at, steps_of}
use Rattle.irp_orders.specs.declared.found.Found.{Found}

mark_at : (Breaks : Found → Type 0) (founds : List Found) (marks : List Bool) (place : ℕ) (some : Found)
    → AreMarks Breaks founds marks → place < length founds
    → IsTrue (is_marked marks place) ↔ Breaks (get_or founds place some)
mark_at Breaks [] marks place some are low = absurd (omega (arith, low))
mark_at Breaks (found ∷ founds) [] place some are low = absurd are
mark_at Breaks (found ∷ founds) (mark ∷ marks) zero some are low = are.0
mark_at Breaks (found ∷ founds) (mark ∷ marks) (suc place) some are low =
    mark_at Breaks founds marks place some are.1 (omega (arith, low))

true_is_false : (mark : Bool) → mark ≡ true → mark ≡ false → ⊥
true_is_false mark one other = grind arith

steps_are : (founds : List Found) (place : ℕ) (some : Found) → place < length founds
    → steps_at founds place ≡ steps_of (get_or founds place some)
steps_are founds place some low =
    ap (λ (found : Option Found). option_map_or steps_of found 0) (slice_get-get_or founds place some low)

none_breaks : (Breaks : Found → Type 0) (founds : List Found) (marks : List Bool)
    → AreMarks Breaks founds marks → IsShortestBelow founds marks (length founds) None
    → IsVerdict Breaks founds None
none_breaks Breaks founds marks are none = λ place some low breach.
    true_is_false (is_marked marks place) ((mark_at Breaks founds marks place some are low).1 breach) (none place low)

shown_breaks : (Breaks : Found → Type 0) (founds : List Found) (some : Found) (marks : List Bool) (shown : ℕ)
    → AreMarks Breaks founds marks → IsShortestBelow founds marks (length founds) (Some shown)
    → IsVerdict Breaks founds (Some shown)
shown_breaks Breaks founds some marks shown are best = (
  get_or founds shown some,
  slice_get-get_or founds shown some best.0,
  record {
    breach = (mark_at Breaks founds marks shown some are best.0).0 best.1;
    shortest = λ place other low breach.
        let marked = (mark_at Breaks founds marks place other are low).1 breach in
        let less = best.2 place low marked in
        subst (λ (count : ℕ). count ≤ steps_of (get_or founds place other)) (steps_are founds shown some best.0)
        (subst (λ (count : ℕ). steps_at founds shown ≤ count) (steps_are founds place other low) less);
  },
)

-- a mark for one outcome more
pub marks_more : (Breaks : Found → Type 0) (founds : List Found) (marks : List Bool) (index : ℕ) (mark : Bool)
    (found : Found) → index < length founds → found ≡ get_or founds index found → AreMarks Breaks (take index founds) marks
    → (IsTrue mark ↔ Breaks found)
    → AreMarks Breaks (take (index + 1) founds) (marks ++ mark ∷ [])
marks_more Breaks founds marks index mark found low at are is =
    subst (λ (taken : List Found). AreMarks Breaks taken (marks ++ mark ∷ []))
    (ap (λ (found : Found). take index founds ++ found ∷ []) at ∙ sym (take_more founds index found low))
    (all_zipped_more (λ (found : Found) (mark : Bool). IsTrue mark ↔ Breaks found) (take index founds) marks
    found mark are is)

pub verdict_from : (Breaks : Found → Type 0) (founds : List Found) (marks : List Bool) (shown : Option ℕ)
    → AreMarks Breaks founds marks → IsShortestBelow founds marks (length founds) shown
    → IsVerdict Breaks founds shown
verdict_from Breaks founds marks None are none = none_breaks Breaks founds marks are none
verdict_from Breaks [] marks (Some shown) are best = absurd (omega (arith, best.0))
verdict_from Breaks (found ∷ founds) marks (Some shown) are best =
    shown_breaks Breaks (found ∷ founds) found marks shown are best
