use Rattle.std.proofs.Common.{◌≡◌, ◌+◌, ◌≤◌, arith, sym, ◌∙◌, ap}
use Rattle.irp_types.specs.Packet.{size_of}
use Rattle.irp_types.specs.Unwinding.{unwound_packet}
use Rattle.irp_unwind.proofs.Settled.{same_asking}
use Rattle.irp_unwind.proofs.unwinding_laws.unwinding_is_settled.Goals as goal

pub returns : goal.returns
returns c reply irp packet first second asked others some within one two answered answers =
    let enough : size_of packet ≤ packet.current + size_of packet = omega arith in
    let same : asked ≡ others = same_asking (λ id shown answer. answer ≡ reply id shown) (λ id shown answer other first_is other_is. first_is ∙ sym other_is) irp (size_of packet) packet first second asked others some within enough one two answered answers in
    (same, one.left ∙ ap (unwound_packet packet) same ∙ sym two.left)
