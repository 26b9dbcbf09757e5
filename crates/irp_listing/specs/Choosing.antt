-- Which entries are shown.
use Rattle.std.specs.Prelude.{⊤, ◌≡◌, ◌⊎◌, Option, None, Some}
use Rattle.irp_types.specs.Calls.{packet_named}
use Rattle.irp_types.specs.declared.entry.Entry.{Entry}
use Rattle.irp_types.specs.declared.names.IrpRef.{IrpRef}
use Rattle.irp_types.specs.declared.reply.Reply.{Reply}
use Rattle.irp_types.specs.declared.reply.Reply.TheVariants.{Irp}

-- the packet that a reply gives
abbrev pub packet_in : Reply → Option IrpRef
packet_in (Irp irp) = Some irp
packet_in other = None

-- an entry names this use of a packet: its call does, or its reply gives it
abbrev pub NamesUse : IrpRef → Entry → Type 0
NamesUse irp entry = (packet_named entry.call ≡ Some irp) ⊎ (packet_in entry.reply ≡ Some irp)

-- an entry is shown: all are, or only those that name a use
abbrev pub IsChosen : Option IrpRef → Entry → Type 0
IsChosen None entry = ⊤
IsChosen (Some irp) entry = NamesUse irp entry
