-- The outcomes that are marked, one by one.
use Rattle.std.proofs.Common.{◌≡◌, ◌<◌, ◌+◌, ℕ, Bool, true, false, List, ◌∷◌, length, drop, get_or, refl, ap₂, ◌∙◌, arith}
use Rattle.std.proofs.lemmas.List.{drop_more}
use Rattle.irp_orders.specs.Rows.{all_orders}
use Rattle.irp_orders.specs.Told.{marked, with_orders}
use Rattle.irp_orders.specs.declared.found.Found.{Found}

first_marked : (orders : ℕ) (found : Found) (founds : List Found) (marks : List Bool) (mark : Bool)
    → all_orders orders (marked (found ∷ founds) (mark ∷ marks)) ≡ all_orders (with_orders orders found mark) (marked founds marks)
first_marked orders found founds marks true = refl
first_marked orders found founds marks false = refl

pub next_marked : (founds : List Found) (marks : List Bool) (orders place : ℕ) (found : Found) (mark : Bool) → place < length founds
    → length marks ≡ length founds
    → all_orders orders (marked (drop place founds) (drop place marks))
    ≡ all_orders (with_orders orders (get_or founds place found) (get_or marks place mark))
    (marked (drop (place + 1) founds) (drop (place + 1) marks))
next_marked founds marks orders place found mark within same =
    ap₂ (λ (founds : List Found) (marks : List Bool). all_orders orders (marked founds marks)) (drop_more founds place found within)
    (drop_more marks place mark (omega (arith, within, same)))
    ∙ first_marked orders (get_or founds place found) (drop (place + 1) founds) (drop (place + 1) marks) (get_or marks place mark)
