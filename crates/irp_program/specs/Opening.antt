-- Why a file isn't opened.
use Rattle.std.specs.Prelude.{ℕ, ◌≡◌, List, codes, string_bytes, ⊤}
use Rattle.irp_program.specs.declared.opening.NoOpen.{NoOpen}
use Rattle.irp_program.specs.declared.opening.NoOpen.TheVariants.{Missing, Denied, Other}
use Rattle.irp_program.specs.declared.opening.Unopened.{Unopened}
use Rattle.irp_program.specs.declared.opening.Unopened.TheVariants as unopened

-- the reason in words
abbrev pub reason_text : NoOpen → List ℕ
reason_text Missing = codes "there is no such file"
reason_text Denied = codes "it may not be read"
reason_text Other = codes "the system refuses it"

-- it is the file of this name
abbrev pub IsUnopened : List ℕ → Unopened → Type 0
IsUnopened name (unopened.NoFile text reason) = string_bytes text ≡ name
IsUnopened name unopened.NoMemory = ⊤
