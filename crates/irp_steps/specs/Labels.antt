-- The labels of a script: which acts bind them, and what they stand for.
use Rattle.std.specs.Prelude.{ℕ, Option, Some, None, List, slice_get, slice_set, unwrap_or}
use Rattle.irp_types.specs.declared.names.IrpRef.{IrpRef}
use Rattle.irp_types.specs.declared.reply.Reply.{Reply}
use Rattle.irp_types.specs.declared.reply.Reply.TheVariants as reply
use Rattle.irp_types.specs.declared.call.Call.TheVariants.{Reuse}
use Rattle.irp_script_reader.specs.declared.act.Named.{Named}
use Rattle.irp_script_reader.specs.declared.act.Named.TheVariants.{Label, Irp}
use Rattle.irp_script_reader.specs.declared.act.StepAct.{StepAct}
use Rattle.irp_script_reader.specs.declared.act.StepAct.TheVariants.{Call, Allocate}
use Rattle.irp_steps.specs.StepKinds.{named_by}

-- the label by which a packet is named
abbrev pub label_in : Named → Option ℕ
label_in (Label label) = Some label
label_in (Irp irp) = None

-- the label that an act binds: an allocation its own, and a reuse the one that named its packet
abbrev pub label_of : StepAct → Option ℕ
label_of (Allocate size label) = Some label
label_of (Call (Reuse irp status)) = label_in irp
label_of other = None

-- what a label stands for that isn't bound
abbrev pub unbound : IrpRef
unbound = record { slot = 4294967295; use_no = 0 }

-- what a label stands for
abbrev pub label_at : List IrpRef → ℕ → IrpRef
label_at labels label = unwrap_or (slice_get labels label) unbound

-- the packet that is named so
abbrev pub packet_at : List IrpRef → Option Named → IrpRef
packet_at labels None = unbound
packet_at labels (Some (Irp irp)) = irp
packet_at labels (Some (Label label)) = label_at labels label

-- the packet that an act names
abbrev pub packet_of : List IrpRef → StepAct → IrpRef
packet_of labels act = packet_at labels (named_by act)

-- the packet that a reply gives
abbrev pub packet_in : Reply → Option IrpRef
packet_in (reply.Irp irp) = Some irp
packet_in other = None

-- the labels, once this one stands for this packet
abbrev pub bound : List IrpRef → Option ℕ → Option IrpRef → List IrpRef
bound labels (Some label) (Some irp) = slice_set labels label irp
bound labels label irp = labels

-- the labels, once an act was answered so: the label that it binds stands for the packet that the reply gives
abbrev pub learned : List IrpRef → StepAct → Reply → List IrpRef
learned labels act answered = bound labels (label_of act) (packet_in answered)
