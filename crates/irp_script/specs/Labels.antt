-- What a worker knows of the labels of a script.
use Rattle.std.specs.Prelude.{ℕ, ◌≡◌, ◌≢◌, ◌==◌, ◌&&◌, Bool, true, false, Contains, IfNone, IfSome, if◌then◌else◌, is_some, nat_lt, Option, Some, None, List, [], length, map, replicate, slice_get, slice_set, unwrap_or}
use Rattle.std.specs.List.{flat_map, list_any, range_with_len}
use Rattle.std.specs.Option.{option_map_or}
use Rattle.irp_types.specs.declared.names.IrpRef.{IrpRef}
use Rattle.irp_types.specs.declared.reply.Reply.{Reply}
use Rattle.irp_script_reader.specs.declared.act.Named.{Named}
use Rattle.irp_script_reader.specs.declared.act.Named.TheVariants.{Label}
use Rattle.irp_script_reader.specs.declared.act.StepAct.{StepAct}
use Rattle.irp_script_reader.specs.declared.act.Step.{Step}
use Rattle.irp_steps.specs.Labels.{label_in, label_of, learned, packet_in, packet_of, unbound}
use Rattle.irp_steps.specs.StepKinds.{named_by}
use Rattle.irp_script.specs.declared.binding.Binding.{Binding}
use Rattle.irp_script.specs.declared.binding.NamedPacket.{NamedPacket}
use Rattle.irp_script.specs.declared.binding.Reading.{Reading}
use Rattle.irp_script.specs.declared.binding.Source.{Source}
use Rattle.irp_script.specs.Outcomes.{is_own_step}

-- the label with the packet, where there are both
abbrev pub binding_of : Option ℕ → Option IrpRef → Option Binding
binding_of (Some label) (Some irp) = Some (record { label = label; irp = irp })
binding_of label irp = None

-- what steps bound, by their places: none where a step isn't made, or binds none
abbrev pub Notes : Type 0
Notes = List (Option Binding)

-- what steps took from steps of other workers, by their places: none where a step isn't made, or took nothing so
abbrev pub Readings : Type 0
Readings = List (Option Reading)

-- what a worker, of this number, knows of labels: the packets that they stand for by the steps of the setup and by its
-- own, and which of them other workers bind. What its own steps bound is written down, and what they took from steps of
-- other workers: the label, the packet, and that step
pub record Known : Type 0 where
  pub number : ℕ
  pub packets : List IrpRef
  pub apart : List Bool
  pub written : Notes
  pub read : Readings

-- none of so many labels is bound, and no other worker binds one. Nothing is written down
abbrev pub none_bound : ℕ → Known
none_bound count = record { number = 0; packets = replicate count unbound; apart = []; written = []; read = [] }

-- the label by which a packet is named, if it is named by one
abbrev pub label_named : Option Named → Option ℕ
label_named None = None
label_named (Some named) = label_in named

-- another worker binds the label by which the packet is named
abbrev pub names_apart : List Bool → Option Named → Bool
names_apart apart (Some (Label label)) = unwrap_or (slice_get apart label) false
names_apart apart other = false

-- the packet is the one that an act names by what the worker knows, of the setup and of its own steps so far. Or it is
-- taken from a step of another worker, and the act names it by a label that another worker binds
pub record IsNamed (known : Known) (act : StepAct) (named : NamedPacket) : Type 0 where
  pub own : IfNone named.source (named.irp ≡ packet_of known.packets act)
  pub apart : IfSome named.source (λ (source : Source).
      (names_apart known.apart (named_by act) ≡ true) × (source.worker ≢ known.number))

-- the label by which an act named this packet, with the packet, where it is taken from a step of another worker
abbrev pub reading_from : Option Binding → Option Source → Option Reading
reading_from (Some binding) (Some source) = Some (record { binding = binding; source = source })
reading_from binding source = None

abbrev pub reading_of : StepAct → NamedPacket → Option Reading
reading_of act named = reading_from (binding_of (label_named (named_by act)) (Some named.irp)) named.source

-- what is known, once the step of this place, which has this act, named this packet
abbrev pub known_reading : ℕ → Known → StepAct → NamedPacket → Known
known_reading place known act named = record known { read = slice_set known.read place (reading_of act named) }

-- the same, once it was answered so
abbrev pub known_behind : ℕ → Known → StepAct → Reply → Known
known_behind place known act answered = record known {
  packets = learned known.packets act answered;
  written = slice_set known.written place (binding_of (label_of act) (packet_in answered));
}

-- the label that a step binds, if it is one of another one of so many workers
abbrev pub label_apart : ℕ → ℕ → Step → Option ℕ
label_apart number workers step = if is_own_step number workers step then None else label_of step.act

-- which labels, of so many, the steps of other workers bind
abbrev pub binds : Option ℕ → ℕ → Bool
binds bound label = option_map_or (λ it. it == label) bound false

abbrev pub marks_apart : ℕ → ℕ → List Step → ℕ → List Bool
marks_apart number workers steps count =
    map (λ label. list_any (λ step. binds (label_apart number workers step) label) steps) (range_with_len 0 count)

-- the marks, where a step that binds this label is one of them
abbrev pub marked : List Bool → Option ℕ → List Bool
marked marks None = marks
marked marks (Some label) = slice_set marks label true

-- a step binds a label
abbrev pub binds_label : Step → Bool
binds_label step = is_some (label_of step.act)

-- of how many steps it is written down what they bind and take: of each. Where there is one worker, or no step binds a
-- label, no other worker binds one, and nothing is written down
abbrev pub places_kept : ℕ → List Step → ℕ
places_kept workers steps = if nat_lt 1 workers && list_any binds_label steps then length steps else 0

-- what one of so many workers knows when the steps begin: what was known before them, and which labels other workers
-- bind. There is room to write down what each of the steps binds and takes, of which nothing is written yet
abbrev pub known_to : ℕ → ℕ → List Step → Known → Known
known_to number workers steps known = record known {
  number = number;
  apart = marks_apart number workers steps (length known.packets);
  written = replicate (places_kept workers steps) None;
  read = replicate (places_kept workers steps) None;
}

-- ---- what workers took from each other

-- all that the steps of workers took from steps of other workers
abbrev pub all_read : List Known → Readings
all_read left = flat_map (λ (one : Known). one.read) left

-- the step that a label was taken from, of that one of these workers, bound it to that packet
abbrev pub IsFounded : List Known → Reading → Type 0
IsFounded left reading =
    (one : Known) × (slice_get left reading.source.worker ≡ Some one)
    × (slice_get one.written reading.source.place ≡ Some (Some reading.binding))

-- all that a step of one of these workers took from another worker's step is what that step bound
abbrev pub AreFounded : List Known → Type 0
AreFounded left = (reading : Reading) → Contains (all_read left) (Some reading) → IsFounded left reading
