-- The command line that the program takes, as clap has it.
use Rattle.std.specs.Prelude.{
  ◌≡◌,
  ◌≤◌,
  ◌+◌,
  ◌-◌,
  ◌*◌,
  ◌&&◌,
  ◌⊎◌,
  ℕ,
  List,
  [],
  ◌∷◌,
  Bool,
  true,
  codes,
  nat_le,
  Option,
  Some,
  None,
  Result,
  Ok,
  Err,
  if◌then◌else◌,
}
use Rattle.clap.specs.Words.{Row, Rule, fault_of, first_of, new_rule, subcommand_of}
use Rattle.clap.specs.Simple.{App, new_app, on_top, with_rule, with_subcommand}
use Rattle.clap.specs.declared.builder.ArgAction.TheVariants.{Set}
use Rattle.irpx.specs.declared.orders.Order.{Order}
use Rattle.irpx.specs.declared.orders.Order.TheVariants.{Demo, Run, Check}
use Rattle.irpx.specs.declared.not_done.NotDone.{NotDone}
use Rattle.irpx.specs.declared.not_done.NotDone.TheVariants.{Usage, NoMemory}
use Rattle.irpx.specs.declared.not_done.Phase.TheVariants.{Starting}

-- the option `--workers`, which takes a text
abbrev pub workers_option : Rule
workers_option =
    record (new_rule (codes "workers")) { long = Some (codes "workers"); action = Some Set }

-- the program, which needs a subcommand and has `demo`, `run` with its option, and `check`
abbrev pub command_line : App
command_line =
    with_subcommand
    (with_subcommand
    (with_subcommand
    (on_top (λ shape. record shape { subcommand_required = true }) (new_app (codes "irpx")))
    (new_app (codes "demo")).top)
    (with_rule (new_app (codes "run")) workers_option).top)
    (new_app (codes "check")).top

-- clap finds no fault in the words, and in them this subcommand, with these rows of options
abbrev pub Finds : List ℕ → List Row → List (List ℕ) → Type 0
Finds name rows words =
    (fault_of command_line words ≡ []) × (subcommand_of command_line words ≡ Some (name, rows))

abbrev pub is_digit : ℕ → Bool
is_digit byte = nat_le 48 byte && nat_le byte 57

-- as many workers as there may be, or none
abbrev pub workers : ℕ → Option ℕ
workers count = if nat_le 1 count && nat_le count 64 then Some count else None

-- one or two decimal digits
abbrev pub workers_in : List ℕ → Option ℕ
workers_in (one ∷ []) = if is_digit one then workers (one - 48) else None
workers_in (ten ∷ one ∷ []) =
    if is_digit ten && is_digit one then workers ((ten - 48) * 10 + (one - 48)) else None
workers_in text = None

-- the order to run a script with so many workers, where there may be so many
abbrev pub run_with : Option ℕ → Result Order NotDone
run_with None = Err Usage
run_with (Some workers) = Ok (Run workers)

-- the order to run a script with the workers that a text names, or with one where there is no text
abbrev pub run_in : Option (List ℕ) → Result Order NotDone
run_in None = Ok (Run 1)
run_in (Some text) = run_with (workers_in text)

-- what the subcommand of this name asks for, with these rows of options
pub record Asks (name : List ℕ) (rows : List Row) (order : Result Order NotDone) : Type 0 where
  pub demo : name ≡ codes "demo" → order ≡ Ok Demo
  pub run : name ≡ codes "run" → order ≡ run_in (first_of (codes "workers") rows)
  pub check : name ≡ codes "check" → order ≡ Ok Check

-- the same, if memory doesn't run out
abbrev pub AsksOrMemory : List ℕ → List Row → Result Order NotDone → Type 0
AsksOrMemory name rows order = Asks name rows order ⊎ (order ≡ Err (NoMemory Starting))

-- why no order comes of words: they are none that the program takes, or memory ran out
abbrev pub IsStartingFault : NotDone → Type 0
IsStartingFault Usage = Unit {0}
IsStartingFault (NoMemory Starting) = Unit {0}
IsStartingFault other = ⊥

-- a run has 1 to 64 workers
abbrev pub IsOrder : Order → Type 0
IsOrder Demo = Unit {0}
IsOrder (Run workers) = (1 ≤ workers) × (workers ≤ 64)
IsOrder Check = Unit {0}
