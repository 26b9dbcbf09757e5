-- An entry that isn't chosen is passed over; of another the block is put.
use Rattle.std.proofs.lemmas.Result.{on_ok_weaker}
use Rattle.irp_listing.proofs.Chosen.{passes_over, puts_chosen, puts_last, puts_nothing}
use Rattle.irp_listing.proofs.listing.put_chosen.Goals as goal

pub returns-then-not-is_chosen-clause-adds : goal.returns-then-not-is_chosen-clause-adds
returns-then-not-is_chosen-clause-adds c =
    passes_over c.args.choice.only c.args.entry.now c.args.pending.now.items c.is_chosen.result c.is_chosen.ensures c.if-not-is_chosen.true

pub returns-then-not-is_chosen-clause-exact : goal.returns-then-not-is_chosen-clause-exact
returns-then-not-is_chosen-clause-exact c = λ so_far after.
    puts_nothing c.args.choice so_far c.args.entry.now c.args.pending.now.items c.is_chosen.result c.is_chosen.ensures c.if-not-is_chosen.true

pub returns-clause-adds : goal.returns-clause-adds
returns-clause-adds c =
    on_ok_weaker c.put_block.result
    (puts_chosen c.args.choice c.args.stacks.now c.args.entry.now c.args.pending.now.items c.put_block.new.out.items c.is_chosen.result c.is_chosen.ensures
    c.if-not-is_chosen.false)
    c.put_block.ensures

pub returns-clause-exact : goal.returns-clause-exact
returns-clause-exact c = λ so_far after.
    on_ok_weaker c.put_block.result
    (puts_last c.args.choice so_far c.args.stacks.now c.args.entry.now c.args.pending.now.items c.put_block.new.out.items c.is_chosen.result c.is_chosen.ensures
    c.if-not-is_chosen.false after)
    c.put_block.ensures
