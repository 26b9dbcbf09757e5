-- Block after block is given, up to the end of the input.
use Rattle.std.proofs.Common.{ℕ, ◌-◌, ◌<◌, ◌≤◌, List, ◌++◌, length, Option, None, IfSome, Ok, Result, refl, subst, ◌∙◌, arith}
use Rattle.irp_transcript_reader.specs.Reading.{cut}
use Rattle.irp_feed.specs.Feeding.{IsSoFar, NextBlock, ReadsLines, piece_of, refused_line}
use Rattle.irp_feed.specs.declared.unfed.Unfed.{Unfed}
use Rattle.irp_feed.proofs.Fed.{behind_none, few_so_far, say_all, say_more, stops_behind, whole_piece}
use Rattle.irp_feed.proofs.feeding.feed_rest.Goals as goal

pub loop-read-init : goal.loop-read-init
loop-read-init g c = record {
  few = c.requires.few;
  room = refl;
  order = c.requires.order;
  within = c.requires.within;
  so_far = λ old fixed starts are. (
    starts.text,
    _,
    record { read = starts.read; few = omega arith },
    are,
    starts.so_far,
  );
}

pub returns-in_default : goal.returns-in_default
returns-in_default g c = λ old fixed starts are.
    (let inv = c.loop-read.invariant.so_far old fixed starts are in
    let block : List ℕ = piece_of c.loop-read.buffer c.loop-read.from c.loop-read.to in
    let now = g.R.Read.remaining c.refuse.new.input in
    let left = c.in_default.ensures c.loop-read.output fixed inv.1 inv.0 inv.2 inv.3 (few_so_far old (g.R.Read.remaining c.loop-read.input) c.loop-read.left inv.0 block inv.4) in
    let count : ℕ = length (cut inv.0).0 in (
      inv.1,
      stops_behind (refused_line c.refuse.result) count (inv.0 ++ block) inv.1 old now (c.refuse.ensures.before count tt)
          (say_more count inv.0 block inv.1 (say_all inv.0 inv.1 inv.2.read.lines)) (c.refuse.ensures.fails old (inv.0 ++ block) inv.4 tt),
      left,
    ))

pub returns-then-not-end_block : goal.returns-then-not-end_block
returns-then-not-end_block g c = λ old fixed starts are.
    (let inv = c.loop-read.invariant.so_far old fixed starts are in
    let block : List ℕ = piece_of c.loop-read.buffer c.loop-read.from c.loop-read.to in
    let now = g.R.Read.remaining c.loop-read.input in
    let fed = c.in-Ok.ensures c.loop-read.output fixed inv.1 inv.0 inv.2 inv.3 (few_so_far old now c.loop-read.left inv.0 block inv.4) in (
      fed.transcript,
      stops_behind None fed.count (inv.0 ++ block) fed.transcript old now tt fed.say
          (behind_none None old now c.loop-read.left (inv.0 ++ block) inv.4 tt),
      c.end_block.ensures.left fixed inv.1 fed.transcript fed.are,
    ))

pub returns-in-Err : goal.returns-in-Err
returns-in-Err g c = λ old fixed starts are.
    (let inv = c.loop-read.invariant.so_far old fixed starts are in
    let block : List ℕ = piece_of c.loop-read.buffer c.loop-read.from c.loop-read.to in
    let now = g.R.Read.remaining c.refuse-in-Err.new.input in
    let fed = c.in-Ok.ensures c.loop-read.output fixed inv.1 inv.0 inv.2 inv.3 (few_so_far old (g.R.Read.remaining c.loop-read.input) c.loop-read.left inv.0 block inv.4) in
    let reads = subst (λ (read : Result (Unit {0}) Unfed). ReadsLines read c.feed_block.new.reader (inv.0 ++ block) fed.transcript fed.count) c.in-Err.is fed.reads in (
      fed.transcript,
      stops_behind (refused_line c.refuse-in-Err.result) fed.count (inv.0 ++ block) fed.transcript old now (c.refuse-in-Err.ensures.before fed.count reads.1) fed.say
          (c.refuse-in-Err.ensures.fails old (inv.0 ++ block) inv.4 reads.0),
      c.end_block.ensures.left fixed inv.1 fed.transcript fed.are,
    ))

pub returns-in-Err-next_block : goal.returns-in-Err-next_block
returns-in-Err-next_block g c = λ old fixed starts are.
    (let inv = c.loop-read.invariant.so_far old fixed starts are in
    let block : List ℕ = piece_of c.loop-read.buffer c.loop-read.from c.loop-read.to in
    let text : List ℕ = inv.0 ++ block in
    let now = g.R.Read.remaining c.next_block.new.input in
    let fed = c.in-Ok.ensures c.loop-read.output fixed inv.1 inv.0 inv.2 inv.3 (few_so_far old (g.R.Read.remaining c.loop-read.input) c.loop-read.left inv.0 block inv.4) in
    let reads = subst (λ (read : Result (Unit {0}) Unfed). ReadsLines read c.feed_block.new.reader text fed.transcript fed.count) c.in_default-read.is fed.reads in
    let fails = c.in-Err-next_block.ensures.next old text fed.transcript inv.4 reads.read in (
      fed.transcript,
      stops_behind (refused_line c.in-Err-next_block.unfed) (length (cut text).0) text fed.transcript old now fails.1
          (say_all text fed.transcript reads.read.lines) fails.0,
      c.end_block.ensures.left fixed inv.1 fed.transcript fed.are,
    ))

pub returns-in-Ok-None : goal.returns-in-Ok-None
returns-in-Ok-None g c = λ old fixed starts are.
    (let inv = c.loop-read.invariant.so_far old fixed starts are in
    let block : List ℕ = piece_of c.loop-read.buffer c.loop-read.from c.loop-read.to in
    let text : List ℕ = inv.0 ++ block in
    let fed = c.in-Ok.ensures c.loop-read.output fixed inv.1 inv.0 inv.2 inv.3 (few_so_far old (g.R.Read.remaining c.loop-read.input) c.loop-read.left inv.0 block inv.4) in
    let reads = subst (λ (read : Result (Unit {0}) Unfed). ReadsLines read c.feed_block.new.reader text fed.transcript fed.count) c.in_default-read.is fed.reads in
    let ends = subst (λ (next : Option ℕ). NextBlock (Ok next) old (g.R.Read.remaining c.next_block.new.input) c.loop-read.left c.next_block.new.buffer text fed.transcript) c.in-Ok-None.field-0-is
    (c.in-Ok-None.ensures.next old text fed.transcript inv.4 reads.read) in
    (fed.transcript, (text, ends.0, ends.1), c.end_block.ensures.taken fixed inv.1 fed.transcript fed.are c.if-not-end_block.false))

pub loop-read-preserved : goal.loop-read-preserved
loop-read-preserved g c = record {
  few = omega (arith, c.loop-read.invariant.few);
  room = c.next_block.ensures.room ∙ c.loop-read.invariant.room;
  order = omega arith;
  within = (subst (λ (next : Option ℕ). IfSome next (λ count. (0 < count) × (count ≤ c.loop-read.left) × (count ≤ length c.next_block.new.buffer))) c.in-Ok-Some.field-0-is c.in-Ok-Some.ensures.bound).2;
  so_far = λ old fixed starts are.
      (let inv = c.loop-read.invariant.so_far old fixed starts are in
      let block : List ℕ = piece_of c.loop-read.buffer c.loop-read.from c.loop-read.to in
      let text : List ℕ = inv.0 ++ block in
      let fed = c.in-Ok.ensures c.loop-read.output fixed inv.1 inv.0 inv.2 inv.3 (few_so_far old (g.R.Read.remaining c.loop-read.input) c.loop-read.left inv.0 block inv.4) in
      let reads = subst (λ (read : Result (Unit {0}) Unfed). ReadsLines read c.feed_block.new.reader text fed.transcript fed.count) c.in_default-read.is fed.reads in
      let on = subst (λ (next : Option ℕ). NextBlock (Ok next) old (g.R.Read.remaining c.next_block.new.input) c.loop-read.left c.next_block.new.buffer text fed.transcript) c.in-Ok-Some.field-0-is
      (c.in-Ok-Some.ensures.next old text fed.transcript inv.4 reads.read) in (
        text,
        fed.transcript,
        reads,
        c.end_block.ensures.taken fixed inv.1 fed.transcript fed.are c.if-not-end_block.false,
        subst (λ (piece : List ℕ). IsSoFar old (g.R.Read.remaining c.next_block.new.input) (c.loop-read.left - c.in-Ok-Some.count) (text ++ piece))
            (whole_piece c.next_block.new.buffer c.in-Ok-Some.count) on,
      ));
}
