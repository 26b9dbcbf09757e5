-- The standing facts where more routines are there.
use Rattle.std.proofs.Common.{◌≡◌, ℕ, ◌≤◌, true, arith}
use Rattle.std.specs.Prelude.{nat_lt}
use Rattle.std.proofs.lemmas.Bool.Decides.{nat_tests}
use Rattle.irp_types.specs.Lending.{StandWithMore}
use Rattle.irp_types.specs.Packet.{PacketValue}
use Rattle.irp_types.specs.Rules.{IsWithin, count_of_rule, is_known}
use Rattle.irp_types.specs.Standing.{IsCancellable, IsSound}
use Rattle.irp_types.specs.declared.names.CancelId.{CancelId}
use Rattle.irp_types.specs.declared.routine.Known.{Known}
use Rattle.irp_types.specs.declared.routine.Rule.{Rule}
use Rattle.irp_types.specs.declared.routine.Rule.TheVariants.{Watch, Change, Keeper, KeepOnError, Free}
use Rattle.irp_types.specs.declared.routine.Setting.{Setting}

more_of_rule : (fewer more : Known) → IsWithin fewer more → (rule : Rule) → count_of_rule fewer rule ≤ count_of_rule more rule
more_of_rule fewer more within Watch = within.watch
more_of_rule fewer more within Change = within.change
more_of_rule fewer more within Keeper = within.keeper
more_of_rule fewer more within KeepOnError = within.keep_on_error
more_of_rule fewer more within Free = within.free

below_more : (number fewer more : ℕ) → fewer ≤ more → nat_lt number fewer ≡ true → nat_lt number more ≡ true
below_more number fewer more most below = grind (arith, nat_tests)

known_with_more : (fewer more : Known) (setting : Setting) → IsWithin fewer more → is_known fewer setting ≡ true → is_known more setting ≡ true
known_with_more fewer more setting within known =
    below_more setting.routine.no (count_of_rule fewer setting.routine.rule) (count_of_rule more setting.routine.rule)
    (more_of_rule fewer more within setting.routine.rule) known

cancellable_with_more : (fewer more : Known) (packet : PacketValue) (routine : CancelId) → IsWithin fewer more → IsCancellable fewer packet routine → IsCancellable more packet routine
cancellable_with_more fewer more packet routine within can = record {
  there = omega (arith, can.there, within.cancel);
  held = can.held;
  unskipped = can.unskipped;
}

sound_with_more : (fewer more : Known) (packet : PacketValue) → IsWithin fewer more → IsSound fewer packet → IsSound more packet
sound_with_more fewer more packet within sound = record {
  some = sound.some;
  few = sound.few;
  placed = sound.placed;
  within = sound.within;
  prepared = sound.prepared;
  marked = sound.marked;
  devices = sound.devices;
  originator = sound.originator;
  routines = λ number setting is. known_with_more fewer more setting within (sound.routines number setting is);
  cancel = λ routine is. cancellable_with_more fewer more packet routine within (sound.cancel routine is);
  slots = sound.slots;
  keepers = sound.keepers;
}

pub stand_with_more : StandWithMore
stand_with_more fewer more state within facts = record {
  packets = λ slot live at. sound_with_more fewer more live.packet within (facts.packets slot live at);
  counter = facts.counter;
  positive = facts.positive;
  drawn = facts.drawn;
  apart = facts.apart;
  stacks = facts.stacks;
}
