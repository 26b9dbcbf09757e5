-- The locations of packets.
use Rattle.std.proofs.Common.{ℕ, ◌≡◌, ◌+◌, ◌-◌, ◌<◌, get_or, sym, ap, ◌∙◌, arith}
use Rattle.irp_types.specs.Packet.{PacketValue, size_of, location_at, cleared}
use Rattle.irp_plain.proofs.SameLists.{same_reads_at}

-- equally many locations, each of them equal by its number
pub same_locations : (one other : PacketValue) → size_of one ≡ size_of other
    → ((k : ℕ) → k < size_of one → location_at one (k + 1) ≡ location_at other (k + 1)) → one.locations ≡ other.locations
same_locations one other long reads = same_reads_at one.locations other.locations cleared long (λ k below.
    let less : (k + 1) - 1 ≡ k = omega arith in
    ap (λ n. get_or one.locations n cleared) (sym less) ∙ reads k below ∙ ap (λ n. get_or other.locations n cleared) less)
