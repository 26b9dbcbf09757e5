-- When two outcomes differ in the numbers of uses and slots of packets alone.
use Rattle.std.specs.Prelude.{ℕ, ◌≡◌, ◌≢◌, ◌<◌, ◌⊎◌, ◌++◌, List, length, map, Option, All, AllPairs, Any, Contains}
use Rattle.std.specs.List.{AllZip}
use Rattle.std.specs.Option.{option_map, option_map_or}
use Rattle.irp_types.specs.declared.names.IrpRef.{IrpRef}
use Rattle.irp_types.specs.declared.reply.Reply.TheVariants as reply
use Rattle.irp_transcript.specs.declared.word_line.WordReply.TheVariants as word
use Rattle.irp_machine.specs.declared.live_end.LiveEnd.{LiveEnd}
use Rattle.irp_machine.specs.declared.outcome.SlotEnd.{SlotEnd}
use Rattle.irp_plain.specs.declared.answered.Answered.{Answered}
use Rattle.irp_plain.specs.declared.answered.Answered.TheVariants as answered
use Rattle.irp_orders.specs.declared.found.Found.{Found}

-- ---- partners: which uses of one outcome are which of the other's

-- no use has two partners
abbrev pub AreOneToOne : List (ℕ × ℕ) → Type 0
AreOneToOne pairs = AllPairs (λ (one other : ℕ × ℕ). (one.0 ≢ other.0) × (one.1 ≢ other.1)) pairs

-- two uses are partners. 0 is no use, and its own partner
abbrev pub ArePartners : List (ℕ × ℕ) → ℕ → ℕ → Type 0
ArePartners pairs one other = ((one ≡ 0) × (other ≡ 0)) ⊎ ((0 < one) × (0 < other) × Contains pairs (one, other))

-- ---- answers

-- the use that an answer names, 0 where it names none
abbrev pub use_in : Answered → ℕ
use_in (answered.Reply (reply.Irp irp)) = irp.use_no
use_in (answered.Word (word.Taken use_no)) = use_no
use_in other = 0

-- the use that the answer of a step names, 0 where it names none
abbrev pub use_named : Option Answered → ℕ
use_named answer = option_map_or use_in answer 0

-- an answer without the slot and the use that it names
abbrev pub without_use : Answered → Answered
without_use (answered.Reply (reply.Irp irp)) = answered.Reply (reply.Irp (record { slot = 0; use_no = 0 }))
without_use (answered.Word (word.Taken use_no)) = answered.Word (word.Taken 0)
without_use other = other

-- two answers say the same, but for the uses that they name
abbrev pub SayTheSame : Option Answered → Option Answered → Type 0
SayTheSame one other = option_map without_use one ≡ option_map without_use other

-- ---- outcomes

-- the uses that an outcome names: those of its answers, its labels and its cancel slots
abbrev pub uses_of : Found → List ℕ
uses_of found =
    (map use_named found.answers.items
    ++ map (λ (irp : IrpRef). irp.use_no) found.outcome.end.labels)
    ++ map (λ (slot : SlotEnd). slot.content) found.outcome.end.slots

-- a cancel slot with nothing in it
abbrev pub emptied : SlotEnd → SlotEnd
emptied slot = record slot { content = 0 }

-- two live packets are equal but for slot and use
abbrev pub IsAsFar : LiveEnd → LiveEnd → Type 0
IsAsFar one other = record one { slot = other.slot; use_no = other.use_no } ≡ other

-- a packet is a live one's partner, and has come as far
abbrev pub IsPartner : List (ℕ × ℕ) → LiveEnd → LiveEnd → Type 0
IsPartner pairs one other = IsAsFar one other × ArePartners pairs one.use_no other.use_no

-- each live packet of one outcome has a partner among as many of the other's
abbrev pub ArePacketsAlike : List (ℕ × ℕ) → List LiveEnd → List LiveEnd → Type 0
ArePacketsAlike pairs ones others =
    (length ones ≡ length others) × All (λ one. Any (IsPartner pairs one) others) ones

-- all is equal but uses and live packets
pub record AreSameButUses (one other : Found) : Type 0 where
  pub answers : AllZip SayTheSame one.answers.items other.answers.items
  pub slots : map emptied one.outcome.end.slots ≡ map emptied other.outcome.end.slots
  pub locks : one.outcome.end.locks ≡ other.outcome.end.locks
  pub devices : one.outcome.end.devices ≡ other.outcome.end.devices

-- two outcomes differ in the numbers of uses and slots of packets alone: where one names a use, the other names its
-- partner, and all else is equal
pub record AreAlike (one other : Found) : Type 0 where
  pub same : AreSameButUses one other
  pub pairs : List (ℕ × ℕ)
  pub once : AreOneToOne pairs
  pub uses : AllZip (ArePartners pairs) (uses_of one) (uses_of other)
  pub packets : ArePacketsAlike pairs one.outcome.end.packets other.outcome.end.packets

-- ---- as partners are noted

-- some pairs more
abbrev pub Extends : List (ℕ × ℕ) → List (ℕ × ℕ) → Type 0
Extends old new = (more : List (ℕ × ℕ)) × (new ≡ old ++ more)
