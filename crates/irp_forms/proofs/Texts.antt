-- A text that has a value isn't empty.
use Rattle.std.proofs.Common.{◌≡◌, ℕ, ◌<◌, List, [], ◌∷◌, length, Some, None, refl, sym, ◌∙◌, arith}
use Rattle.std.proofs.lemmas.Option.{none-some}
use Rattle.serde_json.specs.Data.{Data}
use Rattle.serde_json.specs.Read.{read}
use Rattle.serde_json.proofs.OnLiterals.{serde_json_on_literals}

read_nothing : read [] ≡ None
unfolding serde_json_on_literals
read_nothing = refl

pub some_text : (text : List ℕ) (whole : Data) → read text ≡ Some whole → 0 < length text
some_text [] whole is = absurd (none-some whole (sym read_nothing ∙ is))
some_text (byte ∷ bytes) whole is = omega arith
