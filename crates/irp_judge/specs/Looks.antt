-- What a Look would be replied with.
use Rattle.irp_types.specs.Refusals.{packet_refusal}
use Rattle.irp_types.specs.State.{StateValue, packet_of}
use Rattle.irp_types.specs.Steps.{seen_of}
use Rattle.irp_types.specs.declared.names.IrpRef.{IrpRef}
use Rattle.irp_types.specs.declared.reply.Reply.{Reply}
use Rattle.irp_types.specs.declared.reply.Reply.TheVariants.{Seen, Refused}
use Rattle.std.specs.Option.{option_map_or}

-- the refusal, or what the packet shows
abbrev pub looked : StateValue → IrpRef → Reply
looked state irp = option_map_or Refused (packet_refusal state irp) (Seen (seen_of (packet_of state irp)))
