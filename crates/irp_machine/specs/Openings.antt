-- Where a script stands as the steps of its seats begin, and where these lead.
use Rattle.std.specs.Prelude.{ℕ, ◌≡◌, Bool, false, List, [], ◌∷◌, ◌++◌, length, map, replicate, Some, None}
use Rattle.irp_types.specs.declared.names.IrpRef.{IrpRef}
use Rattle.irp_transcript.specs.Headers.{fixed_of, slots_of}
use Rattle.irp_transcript.specs.declared.header.Header.{Header}
use Rattle.irp_script_reader.specs.declared.act.Step.{Step}
use Rattle.irp_script_reader.specs.declared.script.ScriptParts.{ScriptParts}
use Rattle.irp_plain.specs.declared.parts.Slot.{Slot}
use Rattle.irp_machine.specs.Machine.{RulesValue, StepsTo, act_of}
use Rattle.irp_steps.specs.Labels.{unbound}
use Rattle.irp_machine.specs.Planning.{acts_below}
use Rattle.irp_plain.specs.Seats.{new_seat}
use Rattle.irp_machine.specs.Standings.{ManagerValue, StandingValue, opening_manager}

-- the rules of these steps of a script; labels that others of the rivals bind are read alone, and those that others name
-- are bound alone
abbrev pub rules_of : Header → ScriptParts → List Step → List Step → Bool → RulesValue
rules_of header script rivals steps tells = record {
  fixed = fixed_of header;
  script = script;
  acts = acts_below rivals steps script.seats;
  tells = tells;
}

-- the next steps of these seats, one after another, lead from where a script stands to where it stands then
abbrev pub MakesAll : RulesValue → StandingValue → List ℕ → StandingValue → Type 0
MakesAll rules old [] new = old ≡ new
MakesAll rules old (seat ∷ path) new =
    (middle : StandingValue) × StepsTo rules old seat (act_of rules old seat) (Some middle)
    × MakesAll rules middle path new

-- the next steps of the seats in front are made, one after another, and then the next seat isn't there, or has no step
-- left
pub record IsStuck (rules : RulesValue) (old : StandingValue) (path : List ℕ) : Type 0 where
  pub front : List ℕ
  pub seat : ℕ
  pub rest : List ℕ
  pub parts : path ≡ front ++ seat ∷ rest
  pub middle : StandingValue
  pub makes : MakesAll rules old front middle
  pub none : act_of rules middle seat ≡ None

-- a slot that nobody has touched
abbrev pub empty_slot : Slot
empty_slot = record { flag = false; content = 0; used = false; stands = false }

-- nobody has made a step yet; this is the manager, and the labels stand for this
abbrev pub begun : Header → ManagerValue → List IrpRef → StandingValue
begun header manager labels = record {
  manager = manager;
  labels = labels;
  words = replicate header.locks 0;
  slots = replicate (slots_of header.form) empty_slot;
  seats = replicate header.seats new_seat;
}

-- before the setup no label is bound
abbrev pub first_standing : Header → ScriptParts → StandingValue
first_standing header script = begun header opening_manager (replicate (length script.labels) unbound)

-- the seats of steps
abbrev pub seats_of : List Step → List ℕ
seats_of steps = map (λ (step : Step). step.seat) steps

-- the setup was made in the script's order; the manager and the labels stay, and all else begins anew
abbrev pub Opens : Header → ScriptParts → StandingValue → Type 0
Opens header script start =
    (ended : StandingValue)
    × MakesAll (rules_of header script [] script.setup false)
    (first_standing header script) (seats_of script.setup) ended
    × (start ≡ begun header ended.manager ended.labels)
