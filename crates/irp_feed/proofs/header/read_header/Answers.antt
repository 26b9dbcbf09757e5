-- The first line is a header, or refused.
use Rattle.std.proofs.Common.{ℕ, ◌≡◌, ◌<◌, ◌≤◌, ◌-◌, List, ◌++◌, length, take, Option, IfSome, Ok, sym, subst, ap, ◌∙◌, arith, append_assoc, length-take-le}
use Rattle.irp_fast_reader.specs.Fed.{Gives, HasRead}
use Rattle.irp_transcript_reader.specs.declared.line.Line.{Line}
use Rattle.irp_transcript.specs.Transcripts.{no_lines}
use Rattle.irp_transcript_reader.specs.declared.read_fault.ReadFault.{ReadFault}
use Rattle.irp_transcript_reader.specs.Reading.{cut, with_line}
use Rattle.irp_feed.specs.Feeding.{AreAllBefore, IsHopeless, IsSoFar, NextBlock, line_in, piece_of, refused_line}
use Rattle.irp_feed.proofs.Fed.{all_before, both_pieces, few_so_far, hopeless_of, line_told, say_all, say_more, stops_behind}
use Rattle.irp_feed.proofs.header.read_header.Goals as goal

pub returns-in-Err-clause-start : goal.returns-in-Err-clause-start
returns-in-Err-clause-start g c =
    let text : List ℕ = c.loop-to.invariant.text in
    let fails = c.in-Err.ensures.next (g.R.Read.remaining c.args.input.now) text no_lines c.loop-to.invariant.so_far c.loop-to.invariant.read in
    stops_behind (refused_line c.in-Err.unfed) (length (cut text).0) text no_lines (g.R.Read.remaining c.args.input.now) (g.R.Read.remaining c.next_block.new.input) fails.1 (say_all text no_lines c.loop-to.invariant.read.lines) fails.0

pub returns-in-Ok-None-clause-start : goal.returns-in-Ok-None-clause-start
returns-in-Ok-None-clause-start g c =
    let text : List ℕ = c.loop-to.invariant.text in
    let ends = subst (λ (next : Option ℕ). NextBlock (Ok next) (g.R.Read.remaining c.args.input.now) (g.R.Read.remaining c.next_block.new.input) c.loop-to.left c.next_block.new.buffer text no_lines) c.in-Ok-None.field-0-is
    (c.in-Ok-None.ensures.next (g.R.Read.remaining c.args.input.now) text no_lines c.loop-to.invariant.so_far c.loop-to.invariant.read) in
    (text, ends.0, ends.1)

pub returns-in-Err-next-clause-start : goal.returns-in-Err-next-clause-start
returns-in-Err-next-clause-start g c =
    let text : List ℕ = c.loop-to.invariant.text in
    let block : List ℕ = take c.in-Ok-Some.to c.next_block.new.buffer in
    let fault : ReadFault = c.in-Err-next.fault in
    let told : refused_line c.of.result ≡ line_in fault = ap refused_line c.of.ensures ∙ line_told fault c.refused_next-refused.result in
    let on = subst (λ (next : Option ℕ). NextBlock (Ok next) (g.R.Read.remaining c.args.input.now) (g.R.Read.remaining c.next_block.new.input) c.loop-to.left c.next_block.new.buffer text no_lines) c.in-Ok-Some.field-0-is
    (c.in-Ok-Some.ensures.next (g.R.Read.remaining c.args.input.now) text no_lines c.loop-to.invariant.so_far c.loop-to.invariant.read) in
    let few = few_so_far (g.R.Read.remaining c.args.input.now) (g.R.Read.remaining c.next_block.new.input) (c.loop-to.left - c.in-Ok-Some.to) text block on in
    let hopeless = hopeless_of fault c.next.new.self text no_lines block (c.in-Err-next.ensures.gives text no_lines c.loop-to.invariant.read (omega (arith, few))) in
    let all = all_before fault text (c.in-Err-next.ensures.refused text no_lines c.loop-to.invariant.read (omega (arith, few))) in
    stops_behind (refused_line c.refuse.result) (length (cut text).0) (text ++ block) no_lines (g.R.Read.remaining c.args.input.now) (g.R.Read.remaining c.refuse.new.input)
    (c.refuse.ensures.before (length (cut text).0) (subst (λ (line : Option ℕ). AreAllBefore line (length (cut text).0)) (sym told) all))
    (say_more (length (cut text).0) text block no_lines (say_all text no_lines c.loop-to.invariant.read.lines))
    (c.refuse.ensures.fails (g.R.Read.remaining c.args.input.now) (text ++ block) on (subst (λ (line : Option ℕ). IsHopeless line (text ++ block)) (sym told) hopeless))

pub returns-in-loop-to-clause-start : goal.returns-in-loop-to-clause-start
returns-in-loop-to-clause-start g c =
    let text : List ℕ = c.loop-to.invariant.text in
    let buffer : List ℕ = c.next_block.new.buffer in
    let to : ℕ = c.in-Ok-Some.to in
    let from : ℕ = c.in-Some.taken.1 in
    let block : List ℕ = take to buffer in
    let bound = subst (λ (next : Option ℕ). IfSome next (λ count. (0 < count) × (count ≤ c.loop-to.left) × (count ≤ length buffer))) c.in-Ok-Some.field-0-is c.in-Ok-Some.ensures.bound in
    let size : length block ≡ to = length-take-le to buffer bound.2 in
    let on = subst (λ (next : Option ℕ). NextBlock (Ok next) (g.R.Read.remaining c.args.input.now) (g.R.Read.remaining c.next_block.new.input) c.loop-to.left c.next_block.new.buffer text no_lines) c.in-Ok-Some.field-0-is
    (c.in-Ok-Some.ensures.next (g.R.Read.remaining c.args.input.now) text no_lines c.loop-to.invariant.so_far c.loop-to.invariant.read) in
    let few = few_so_far (g.R.Read.remaining c.args.input.now) (g.R.Read.remaining c.next_block.new.input) (c.loop-to.left - to) text block on in
    let gives = subst (λ (given : Option (Line × ℕ)). Gives (Ok given) c.next.new.self text no_lines block) c.in-Some.is
    (c.in-Ok.ensures.gives text no_lines c.loop-to.invariant.read (omega (arith, few))) in
    let read = subst (λ (given : Line). HasRead c.next.new.self (text ++ take from block) (with_line no_lines given)) c.in-Header.is gives.3 in
    let order : from ≤ to = omega (arith, size, gives.1) in
    let whole : (text ++ take from block) ++ piece_of buffer from to ≡ text ++ block =
    append_assoc text (take from block) (piece_of buffer from to) ∙ ap (λ (given : List ℕ). text ++ given) (both_pieces buffer from to order) in
    record {
      text = text ++ take from block;
      read = read;
      accepted = read.taken.one.accepted;
      order = order;
      within = bound.2;
      so_far = subst (IsSoFar (g.R.Read.remaining c.args.input.now) (g.R.Read.remaining c.next_block.new.input) (c.loop-to.left - to)) (sym whole) on;
    }

pub loop-to-preserved : goal.loop-to-preserved
loop-to-preserved g c =
    let text : List ℕ = c.loop-to.invariant.text in
    let block : List ℕ = take c.in-Ok-Some.to c.next_block.new.buffer in
    let on = subst (λ (next : Option ℕ). NextBlock (Ok next) (g.R.Read.remaining c.args.input.now) (g.R.Read.remaining c.next_block.new.input) c.loop-to.left c.next_block.new.buffer text no_lines) c.in-Ok-Some.field-0-is
    (c.in-Ok-Some.ensures.next (g.R.Read.remaining c.args.input.now) text no_lines c.loop-to.invariant.so_far c.loop-to.invariant.read) in
    let few = few_so_far (g.R.Read.remaining c.args.input.now) (g.R.Read.remaining c.next_block.new.input) (c.loop-to.left - c.in-Ok-Some.to) text block on in
    let gives = c.in-Ok.ensures.gives text no_lines c.loop-to.invariant.read (omega (arith, few)) in
    record {
      few = omega (arith, c.loop-to.invariant.few);
      room = c.next_block.ensures.room ∙ c.loop-to.invariant.room;
      text = text ++ block;
      read = subst (λ (given : Option (Line × ℕ)). Gives (Ok given) c.next.new.self text no_lines block) c.in_default.is gives;
      so_far = on;
    }
