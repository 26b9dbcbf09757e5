-- The rest of the input was taken, or couldn't be.
use Rattle.std.proofs.Common.{ℕ, ◌≡◌, ◌<◌, List, ◌++◌, take, sym, subst, arith, length-take-le}
use Rattle.irp_feed.specs.Feeding.{IsSoFar}
use Rattle.irp_feed.proofs.Fed.{drained, not_drained, so_far_end, so_far_more}
use Rattle.irp_feed.proofs.input.drain.Goals as goal

pub returns-in-Err : goal.returns-in-Err
returns-in-Err g c = λ old text so_far.
    (let inv = c.loop-count.invariant.so_far old text so_far in
    not_drained c.in-Err.failed old (g.R.Read.remaining c.loop-count.input) (g.R.Read.remaining c.take_block.new.reader) c.loop-count.left text inv.0 inv.1 c.in-Err.ensures.within)

pub returns-then-count-eq0 : goal.returns-then-count-eq0
returns-then-count-eq0 g c = λ old text so_far.
    (let inv = c.loop-count.invariant.so_far old text so_far in
    let none : c.in-Ok.count ≡ 0 = grind arith in
    let ended : IsSoFar old (g.R.Read.remaining c.take_block.new.reader) c.loop-count.left (text ++ inv.0) =
    so_far_end old (g.R.Read.remaining c.loop-count.input) (g.R.Read.remaining c.take_block.new.reader) c.loop-count.left c.in-Ok.count (text ++ inv.0) c.take_block.new.buffer none inv.1 c.in-Ok.ensures.bytes in
    drained c.loop-count.has_newline old (g.R.Read.remaining c.take_block.new.reader) c.loop-count.left text inv.0 ended (c.in-Ok.ensures.end none))

pub loop-count-preserved : goal.loop-count-preserved
loop-count-preserved g c = record {
  few = omega (arith, c.loop-count.invariant.few);
  room = subst (λ (size : ℕ). 0 < size) (sym c.in-Ok.ensures.room) c.loop-count.invariant.room;
  so_far = λ old text so_far.
      (let inv = c.loop-count.invariant.so_far old text so_far in
      let block : List ℕ = take c.in-Ok.count c.take_block.new.buffer in (
        inv.0 ++ block,
        so_far_more old (g.R.Read.remaining c.loop-count.input) (g.R.Read.remaining c.take_block.new.reader) c.loop-count.left c.in-Ok.count text inv.0 block inv.1 c.in-Ok.ensures.bytes
            (length-take-le c.in-Ok.count c.take_block.new.buffer c.in-Ok.ensures.bound.1) c.in-Ok.ensures.bound.0,
      ));
}
