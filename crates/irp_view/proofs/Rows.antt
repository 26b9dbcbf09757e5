-- Rows that were put one behind the other.
use Rattle.std.proofs.Common.{◌≡◌, ℕ, true, false, List, ◌++◌, Option, Some, refl, ap, ◌∙◌, append_assoc}
use Rattle.irp_types.specs.declared.entry.Entry.{Entry}
use Rattle.irp_judge.specs.declared.verdict.Wrong.{Wrong}
use Rattle.irp_listing.specs.Heads.{caller_text}
use Rattle.irp_listing.specs.Lines.{row_of}
use Rattle.irp_view.specs.Parts.{part_text, value_text}
use Rattle.irp_view.specs.Blocks as spec
use Rattle.irp_view.specs.Blocks.{AddsHead, AddsRow, AddsRows, head_of}

-- what was put behind what was put
pub behind : (x y z one other : List ℕ) → y ≡ x ++ one → z ≡ y ++ other → z ≡ x ++ (one ++ other)
behind x y z one other p q = q ∙ ap (λ given. given ++ other) p ∙ append_assoc x one other

-- a row whose words are known
known_row : (name text x y : List ℕ) → AddsRow name (Some text) x y → y ≡ x ++ row_of name text
known_row name text x y row = row.put ∙ ap (λ given. x ++ row_of name given) row.are

pub all_rows : (entry : Entry) (wrong : Wrong) (known : Option (List ℕ)) (x a b c d y : List ℕ) → AddsHead wrong.at entry x a → AddsRow spec.differs_in (Some (part_text wrong.difference entry)) a b → AddsRow spec.says (Some (value_text wrong.difference false entry)) b c → AddsRow spec.manager (Some (value_text wrong.difference true wrong.made)) c d → AddsRow spec.rule known d y → AddsRows entry wrong x y
all_rows entry wrong known x a b c d y head part given made rule = record {
  rows = head_of wrong.at head.line (caller_text entry.call entry.drained) ++ (row_of spec.differs_in (part_text wrong.difference entry) ++ (row_of spec.says (value_text wrong.difference false entry) ++ (row_of spec.manager (value_text wrong.difference true wrong.made) ++ row_of spec.rule rule.words)));
  are = record {
    line = head.line;
    line_is = head.line_is;
    words = rule.words;
    whole = refl;
  };
  put =
      behind x a y _ _ head.put
      (behind a b y _ _ (known_row _ _ a b part)
      (behind b c y _ _ (known_row _ _ b c given) (behind c d y _ _ (known_row _ _ c d made) rule.put)));
}
