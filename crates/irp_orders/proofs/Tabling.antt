-- The table grows row by row.
use Rattle.std.proofs.Common.{◌≡◌, ◌<◌, ◌+◌, ℕ, suc, List, [], ◌∷◌, ◌++◌, length, take, get_or, Option, Some, refl, sym, subst, ap, ◌∙◌, arith}
use Rattle.std.proofs.lemmas.List.{append-nil, append_assoc, length-take-le, take_more}
use Rattle.irp_names.specs.Sinks.{Says}
use Rattle.irp_names.proofs.Saying.{says_both}
use Rattle.irp_orders.specs.Lines.{PutsDiffering, differing_lines}
use Rattle.irp_orders.specs.Table.{AreRowTexts, IsRowText, PutsRow, end_lines, head_line, row_lines, table_head}
use Rattle.irp_orders.specs.declared.columns.Columns.{Columns}
use Rattle.irp_orders.specs.declared.found.Found.{Found}

-- a head, the steps that differ and what an outcome leaves are its row
pub puts_row : (columns : Columns) (number : ℕ) (row : Found) (before headed between after : Option (List ℕ))
    → Says (head_line columns.orders number row) before headed → PutsDiffering columns row.outcome.path.items headed between
    → Says (end_lines columns row.outcome.end) between after → PutsRow columns number row before after
puts_row columns number row before headed between after head puts end =
    let steps = differing_lines columns puts.0 in
    let ends = end_lines columns row.outcome.end in (
      row_lines columns number row puts.0,
      (puts.0, puts.1, refl),
      says_both (head_line columns.orders number row) (steps ++ ends) before headed after head
          (says_both steps ends headed between after puts.2 end),
    )

-- one more row behind rows
rows_more : (columns : Columns) (number : ℕ) (rows : List Found) (row : Found) (texts text : List ℕ)
    → AreRowTexts columns number rows texts → IsRowText columns (number + length rows) row text
    → AreRowTexts columns number (rows ++ row ∷ []) (texts ++ text)
rows_more columns number [] row texts text are is =
    let same : number + 0 ≡ number = omega arith in (
      text,
      [],
      subst (λ (k : ℕ). IsRowText columns k row text) same is,
      refl,
      ap (λ (some : List ℕ). some ++ text) are ∙ sym (append-nil text),
    )
rows_more columns number (one ∷ rows) row texts text are is =
    let same : number + suc (length rows) ≡ number + 1 + length rows = omega arith in (
      are.0,
      are.1 ++ text,
      are.2,
      rows_more columns (number + 1) rows row are.1 text are.3 (subst (λ (k : ℕ). IsRowText columns k row text) same is),
      ap (λ (some : List ℕ). some ++ text) are.4 ∙ append_assoc are.0 are.1 text,
    )

-- the head of the table of all these rows, and the texts of so many of them
abbrev pub TellsRows : Columns → List Found → ℕ → Option (List ℕ) → Type 0
TellsRows columns rows count out =
    (texts : List ℕ) × AreRowTexts columns 1 (take count rows) texts
    × Says (table_head (length rows) columns.orders ++ texts) (Some []) out

pub tells_none : (columns : Columns) (rows : List Found) (before out : Option (List ℕ)) → before ≡ Some []
    → Says (table_head (length rows) columns.orders) before out → TellsRows columns rows 0 out
tells_none columns rows before out empty says =
    let head = table_head (length rows) columns.orders in (
      [],
      refl,
      subst (λ (whole : List ℕ). Says whole (Some []) out) (sym (append-nil head))
          (subst (λ (before : Option (List ℕ)). Says head before out) empty says),
    )

pub tells_more : (columns : Columns) (rows : List Found) (place : ℕ) (row : Found) (between after : Option (List ℕ))
    → place < length rows → row ≡ get_or rows place row → TellsRows columns rows place between
    → PutsRow columns (place + 1) row between after → TellsRows columns rows (place + 1) after
tells_more columns rows place row between after within is told puts =
    let head = table_head (length rows) columns.orders in
    let long = length-take-le place rows (omega (arith, within)) in
    let number : place + 1 ≡ 1 + length (take place rows) = omega (arith, long) in
    let so_far : take place rows ++ row ∷ [] ≡ take (place + 1) rows =
    ap (λ (row : Found). take place rows ++ row ∷ []) is ∙ sym (take_more rows place row within) in (
      told.0 ++ puts.0,
      subst (λ (some : List Found). AreRowTexts columns 1 some (told.0 ++ puts.0)) so_far
          (rows_more columns 1 (take place rows) row told.0 puts.0 told.1
          (subst (λ (k : ℕ). IsRowText columns k row puts.0) number puts.1)),
      subst (λ (whole : List ℕ). Says whole (Some []) after) (append_assoc head told.0 puts.0)
          (says_both (head ++ told.0) puts.0 (Some []) between after told.2 puts.2),
    )
