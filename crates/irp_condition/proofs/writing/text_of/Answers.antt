use Rattle.std.proofs.Common.{◌≡◌, ◌++◌, List, ℕ, ◌∙◌, ap}
use Rattle.std.specs.Prelude.{string_bytes}
use Rattle.irp_condition.specs.Formulas.{formula_of}
use Rattle.irp_condition.specs.Writing.{bytes_of}
use Rattle.irp_condition.proofs.Telling.{tells_back}
use Rattle.irp_condition.proofs.writing.text_of.Goals as goal

pub returns : goal.returns
returns c =
    let put = c.in_ok-put_condition.ensures in
    tells_back c.args.scope (formula_of c.args.condition.now) put.0 (string_bytes c.put_condition.new.text)
    (put.1 ∙ ap (λ (bytes : List ℕ). bytes ++ bytes_of put.0) c.new-text.ensures.bytes) put.2
