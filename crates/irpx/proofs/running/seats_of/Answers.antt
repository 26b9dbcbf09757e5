-- One seat more is taken.
use Rattle.std.proofs.Common.{◌≡◌, ◌+◌, ◌++◌, ◌∷◌, [], ap, ◌∙◌, arith}
use Rattle.std.proofs.lemmas.List.Sums.{sum_by-append}
use Rattle.std.specs.List.{count_by}
use Rattle.irp_script.proofs.Numbers.{count_push}
use Rattle.irpx.proofs.running.seats_of.Goals as goal

pub loop-pair-preserved : goal.loop-pair-preserved
loop-pair-preserved g c = λ test.
    let so_far = c.loop-pair.invariant test in
    let taken = count_push (λ own. own.seat) test c.loop-pair.pairs.items c.pop.new.self.items c.in-Some.pair c.in-Some.ensures.items in
    let pushed : c.push_reserved.new.self.items ≡ c.loop-pair.seats.items ++ c.into_pair-seat.result.0 ∷ [] = cc in
    let more : count_by test c.push_reserved.new.self.items ≡ count_by test c.loop-pair.seats.items + count_by test (c.into_pair-seat.result.0 ∷ []) =
    ap (count_by test) pushed ∙ sum_by-append _ c.loop-pair.seats.items (c.into_pair-seat.result.0 ∷ []) in
    let same = ap (λ seat. count_by test (seat ∷ [])) c.into_pair-seat.ensures.seat in
    omega (arith, so_far, taken, more, same)
