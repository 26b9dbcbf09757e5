-- The list of an entry settles which completion routines were asked, and these settle what unwinding leaves.
use Rattle.std.proofs.Common.{◌≡◌, List, [], ◌∷◌, map, refl, ap, sym, ◌∙◌}
use Rattle.irp_types.specs.Packet.{PacketValue}
use Rattle.irp_types.specs.Unwinding.{Asking, as_asked, unwound_packet, Unwound}
use Rattle.irp_types.specs.declared.names.IrpRef.{IrpRef}
use Rattle.irp_types.specs.declared.asked.Asked.{Asked}

same_asking : (one two : Asking) → as_asked one ≡ as_asked two → one ≡ two
same_asking one two same =
    let id : one.id ≡ two.id = cc in
    let shown : one.shown ≡ two.shown = cc in
    let answer : one.answer ≡ two.answer = cc in
    λ i. record { id = id i; shown = shown i; answer = answer i }

pub same_askings : (one two : List Asking) → map as_asked one ≡ map as_asked two → one ≡ two
same_askings [] [] same = refl
same_askings [] (first ∷ others) same = let empty : ◌≡◌ {A = List Asked} [] (as_asked first ∷ map as_asked others) = same in absurd (cc)
same_askings (first ∷ others) [] same = let empty : ◌≡◌ {A = List Asked} (as_asked first ∷ map as_asked others) [] = same in absurd (cc)
same_askings (first ∷ others) (second ∷ rest) same =
    let whole : as_asked first ∷ map as_asked others ≡ as_asked second ∷ map as_asked rest = same in
    let heads : as_asked first ≡ as_asked second = cc in
    let tails : map as_asked others ≡ map as_asked rest = cc in
    let head = same_asking first second heads in
    let tail = same_askings others rest tails in
    λ i. head i ∷ tail i

pub same_unwound : (irp : IrpRef) (old new other : PacketValue) (one two : List Asking) → one ≡ two → Unwound irp old one new → Unwound irp old two other → new ≡ other
same_unwound irp old new other one two same first second = first.left ∙ ap (unwound_packet old) same ∙ sym second.left
