-- A script that is run step by step.
use Rattle.std.specs.Prelude.{ℕ, ◌≡◌, ◌==◌, if◌then◌else◌, false, List, [], Option, Some, None}
use Rattle.irp_types.specs.declared.entry.Entry.{Entry}
use Rattle.irp_transcript.specs.declared.header.Header.{Header}
use Rattle.irp_script_reader.specs.declared.script.ScriptParts.{ScriptParts}
use Rattle.irp_plain.specs.declared.parts.After.{After}
use Rattle.irp_machine.specs.declared.parts.Planned.{Planned}
use Rattle.irp_machine.specs.Machine.{RulesValue}
use Rattle.irp_machine.specs.Openings.{begun, first_standing, rules_of}
use Rattle.irp_machine.specs.Replays.{PlaysSo}
use Rattle.irp_machine.specs.Standings.{StandingValue}

-- a script by its header, the rules of the steps that are being made, where it stands, and the entries so far
pub record RunValue : Type 0 where
  pub header : Header
  pub script : ScriptParts
  pub rules : RulesValue
  pub standing : StandingValue
  pub entries : List Entry

-- nothing is made yet, and the setup comes next
abbrev pub setup_run : Header → ScriptParts → RunValue
setup_run header script = record {
  header = header;
  script = script;
  rules = rules_of header script [] script.setup false;
  standing = first_standing header script;
  entries = [];
}

-- the steps come next: the manager and the labels stay, and all else begins anew
abbrev pub steps_run : RunValue → RunValue
steps_run ended = record ended {
  rules = rules_of ended.header ended.script ended.script.steps ended.script.steps false;
  standing = begun ended.header ended.standing.manager ended.standing.labels;
}

-- the act, where it is the step of this place
abbrev pub act_in : ℕ → Option Planned → Option Planned
act_in step None = None
act_in step (Some planned) = if planned.place.step == step then Some planned else None

-- the next step of a seat was made, in this act, and this is where the seat is behind it; without an act nothing was
abbrev pub RunsOn : RunValue → ℕ → Option Planned → Option After → RunValue → Type 0
RunsOn old seat None after new = (after ≡ None) × (new ≡ old)
RunsOn old seat (Some planned) after new =
    (behind : After) × (after ≡ Some behind)
    × PlaysSo old.rules old.standing old.entries seat planned new.standing new.entries behind
    × (new ≡ record old { standing = new.standing; entries = new.entries })

-- what is made in an act, and where the seat is behind it, is one
abbrev pub RunsAreSettled : Type 0
RunsAreSettled =
    (old one two : RunValue) (seat : ℕ) (act : Option Planned) (after other : Option After)
    → RunsOn old seat act after one → RunsOn old seat act other two → (after ≡ other) × (one ≡ two)
