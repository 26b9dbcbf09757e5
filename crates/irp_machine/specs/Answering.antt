-- What the steps of a path are answered, in the order in which they are.
use Rattle.std.specs.Prelude.{ℕ, ◌≡◌, List, [], ◌∷◌, ◌++◌, length, drop, true, Some}
use Rattle.irp_transcript.specs.declared.header.Header.{Header}
use Rattle.irp_script_reader.specs.declared.script.ScriptParts.{ScriptParts}
use Rattle.irp_plain.specs.declared.answered.Told.{Told}
use Rattle.irp_plain.specs.Seats.{SeatValue}
use Rattle.irp_machine.specs.Headers.{IsHeaderOf}
use Rattle.irp_machine.specs.Machine.{RulesValue, StepsTo, act_of, seat_at}
use Rattle.irp_machine.specs.Openings.{Opens, rules_of}
use Rattle.irp_machine.specs.Standings.{StandingValue}

-- what a seat was told by a step that led from there to here: what it is told now, without what it was told before
abbrev pub news : SeatValue → SeatValue → List Told
news before after = drop (length before.told) after.told

-- the next steps of these seats are made, one after another, and the seats are told this, in this order
abbrev pub IsToldAlong : RulesValue → StandingValue → List ℕ → List Told → Type 0
IsToldAlong rules standing [] told = told ≡ []
IsToldAlong rules standing (seat ∷ path) told =
    (after : StandingValue) × (rest : List Told)
    × StepsTo rules standing seat (act_of rules standing seat) (Some after)
    × IsToldAlong rules after path rest
    × (told ≡ news (seat_at standing seat) (seat_at after seat) ++ rest)

-- the same, behind the setup of a script
pub record IsToldOf (script : ScriptParts) (path : List ℕ) (told : List Told) : Type 0 where
  pub header : Header
  pub headed : IsHeaderOf script header
  pub start : StandingValue
  pub opens : Opens header script start
  pub along : IsToldAlong (rules_of header script script.steps script.steps true) start path told
