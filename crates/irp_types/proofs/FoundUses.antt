-- The packet of a use stands at a slot.
use Rattle.std.proofs.Common.{◌≡◌, ℕ, Bool, true, false, not, Option, Some, None, refl}
use Rattle.std.specs.Prelude.{◌==◌}
use Rattle.std.specs.Option.{option_map_or}
use Rattle.std.proofs.lemmas.Bool.{eqb-true, false≢true}
use Rattle.irp_types.specs.State.{StateValue, LivePacket, live_at}
use Rattle.irp_types.specs.Refusals.{has_ended}
use Rattle.irp_types.specs.Histories.{packet_of_use, is_open, is_ended}
use Rattle.irp_types.proofs.LiveMaps.{found_key}

-- the slot of the packet of a use
abbrev pub StandsAt : StateValue → ℕ → LivePacket → Type 0
StandsAt state use_no live = (slot : ℕ) × (live_at state slot ≡ Some live) × (live.use_no ≡ use_no)

found_use : (state : StateValue) (use_no : ℕ) (live : LivePacket) → packet_of_use state use_no ≡ Some live → StandsAt state use_no live
found_use state use_no live is =
    let found = found_key (λ (given : LivePacket). given.use_no == use_no) state.live live is in
    (found.0, found.1, eqb-true live.use_no use_no found.2)

-- an open use has a slot, where its packet has not ended
pub open_use : (state : StateValue) (use_no : ℕ) → is_open state use_no ≡ true → (live : LivePacket) × StandsAt state use_no live × (has_ended live.packet.owner ≡ false)
open_use state use_no opened = by (packet_of_use state use_no) refl opened
  where
    unended : (ended : Bool) → not ended ≡ true → ended ≡ false
    unended true is = absurd (false≢true is)
    unended false is = refl

    by : (found : Option LivePacket) → packet_of_use state use_no ≡ found → option_map_or (λ (live : LivePacket). not (has_ended live.packet.owner)) found false ≡ true
        → (live : LivePacket) × StandsAt state use_no live × (has_ended live.packet.owner ≡ false)
    by None is fails = absurd (false≢true fails)
    by (Some live) is passes = (live, found_use state use_no live is, unended (has_ended live.packet.owner) passes)

-- an ended use has a slot, where its packet has ended
pub ended_use : (state : StateValue) (use_no : ℕ) → is_ended state use_no ≡ true → (live : LivePacket) × StandsAt state use_no live × (has_ended live.packet.owner ≡ true)
ended_use state use_no ended = by (packet_of_use state use_no) refl ended
  where
    by : (found : Option LivePacket) → packet_of_use state use_no ≡ found → option_map_or (λ (live : LivePacket). has_ended live.packet.owner) found false ≡ true
        → (live : LivePacket) × StandsAt state use_no live × (has_ended live.packet.owner ≡ true)
    by None is fails = absurd (false≢true fails)
    by (Some live) is passes = (live, found_use state use_no live is, passes)
