-- What is found among the pairs is found among those that are left.
use Rattle.std.proofs.Common.{arith, ◌≡◌, ◌≢◌, ℕ, ◌+◌, ◌<◌, suc, List, drop, length, Some, refl, sym, ap, ◌∙◌}
use Rattle.std.proofs.Math.Seq.{drop-cons}
use Rattle.std.proofs.lemmas.Bool.{ne_eqb, eq-eqb}
use Rattle.std.specs.Prelude.{slice_index_or}
use Rattle.irp_types.specs.State.{Entrance, dispatch_in}
use Rattle.irp_routines.proofs.drivers.dispatch_in.Goals as goal

-- the first pair that is left is the one
found : (pairs : List Entrance) (index major : ℕ) (d : Entrance) → index < length pairs → (slice_index_or pairs index d).0 ≡ major
    → dispatch_in (drop index pairs) major ≡ Some (slice_index_or pairs index d).1
found pairs index major d within same =
    rw (drop-cons pairs index d within, eq-eqb (slice_index_or pairs index d).0 major same) refl

-- or it is another
passed : (pairs : List Entrance) (index major : ℕ) (d : Entrance) → index < length pairs → (slice_index_or pairs index d).0 ≢ major
    → dispatch_in (drop index pairs) major ≡ dispatch_in (drop (suc index) pairs) major
passed pairs index major d within other =
    rw (drop-cons pairs index d within, ne_eqb (slice_index_or pairs index d).0 major other) refl

pub returns-then-pair-major : goal.returns-then-pair-major
returns-then-pair-major c =
    sym (c.loop-pair.invariant ∙ found c.args.pairs.now c.loop-pair.pair-index c.args.major _ c.loop-pair-test.true c.if-pair-major.true)

pub loop-pair-preserved : goal.loop-pair-preserved
loop-pair-preserved c =
    let index = c.loop-pair.pair-index in
    let next : suc index ≡ index + 1 = omega arith in
    c.loop-pair.invariant ∙ passed c.args.pairs.now index c.args.major _ c.loop-pair-test.true c.if-pair-major.false
    ∙ ap (λ count. dispatch_in (drop count c.args.pairs.now) c.args.major) next
