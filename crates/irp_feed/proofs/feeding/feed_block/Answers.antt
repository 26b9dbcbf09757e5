-- Each line of the block is read, and taken.
use Rattle.std.proofs.Common.{ℕ, List, ◌++◌, Err, sym, subst, arith}
use Rattle.std.proofs.lemmas.List.{nil_from_length, take_rest}
use Rattle.irp_transcript_reader.specs.declared.line.Line.{Line}
use Rattle.irp_transcript.specs.Transcripts.{TranscriptValue}
use Rattle.irp_feed.specs.Feeding.{AreTaken}
use Rattle.irp_feed.specs.declared.unfed.Unfed.{Unfed}
use Rattle.irp_feed.proofs.Fed.{fits_within}
use Rattle.irp_feed.proofs.Within.{IsWithin, ends_within, few_words, kept_within, on_within, starts_within, stops_within}
use Rattle.irp_feed.proofs.feeding.feed_block.Goals as goal

pub loop-rest-init : goal.loop-rest-init
loop-rest-init g c = λ output fixed ended text read are few. starts_within c.args.reader.now (g.S.LineSink.has_taken c.args.sink.now output fixed ended) text c.args.block.now ended read are

pub returns : goal.returns
returns g c = λ output fixed ended text read are few.
    (let taken : TranscriptValue → Type 0 = g.S.LineSink.has_taken c.loop-rest.sink output fixed ended in
    ends_within c.loop-rest.reader taken text c.args.block.now c.loop-rest.rest.now (nil_from_length c.loop-rest.rest.now (grind arith)) (c.loop-rest.invariant output fixed ended text read are few))

pub returns-in-Ok-None : goal.returns-in-Ok-None
returns-in-Ok-None g c = λ output fixed ended text read are few.
    (let rest : List ℕ = c.loop-rest.rest.now in
    let block : List ℕ = c.args.block.now in
    let taken : TranscriptValue → Type 0 = g.S.LineSink.has_taken c.loop-rest.sink output fixed ended in
    let within = c.loop-rest.invariant output fixed ended text read are few in
    let gives = c.in-Ok-None.ensures.gives (text ++ within.piece) within.transcript within.reads.read (fits_within text block within.piece rest within.whole few) in
    kept_within c.loop-rest.reader c.next.new.self taken text block rest within (rw c.in-Ok-None.field-0-is at gives))

pub returns-in-Err : goal.returns-in-Err
returns-in-Err g c = λ output fixed ended text read are few.
    (let rest : List ℕ = c.loop-rest.rest.now in
    let block : List ℕ = c.args.block.now in
    let taken : TranscriptValue → Type 0 = g.S.LineSink.has_taken c.loop-rest.sink output fixed ended in
    let within = c.loop-rest.invariant output fixed ended text read are few in
    let fits = fits_within text block within.piece rest within.whole few in
    let gives = c.in-Err.ensures.gives (text ++ within.piece) within.transcript within.reads.read fits in
    let next = c.in-Err.ensures.refused (text ++ within.piece) within.transcript within.reads.read fits in
    subst (λ (unfed : Unfed). AreTaken (Err unfed) c.next.new.self taken (text ++ block)) (sym c.of.ensures)
    (stops_within c.in-Err.fault c.refused_next-refused.result c.loop-rest.reader c.next.new.self taken text block rest within gives next))

pub loop-rest-preserved : goal.loop-rest-preserved
loop-rest-preserved g c = λ output fixed ended text read are few.
    (let rest : List ℕ = c.loop-rest.rest.now in
    let block : List ℕ = c.args.block.now in
    let taken : TranscriptValue → Type 0 = g.S.LineSink.has_taken c.loop-rest.sink output fixed ended in
    let now : TranscriptValue → Type 0 = g.S.LineSink.has_taken c.take.new.self output fixed ended in
    let within = c.loop-rest.invariant output fixed ended text read are few in
    let line : Line = c.in-Ok-Some.taken.0 in
    let count : ℕ = c.in-Ok-Some.taken.1 in
    let all = c.in-Ok-Some.ensures.gives (text ++ within.piece) within.transcript within.reads.read (fits_within text block within.piece rest within.whole few) in
    let gives = rw c.in-Ok-Some.field-0-is at all in
    let are_now = c.in-Ok.ensures output fixed ended within.transcript within.are gives.2 (omega (arith, within.reads.read.taken.few))
    (few_words c.loop-rest.reader taken text block rest within few) in
    subst (IsWithin c.next.new.self now text block) (sym (take_rest rest count))
    (on_within c.loop-rest.reader c.next.new.self taken now text block rest count line within gives.0 gives.1 gives.3 are_now))

pub returns-in-Err-take : goal.returns-in-Err-take
returns-in-Err-take g c = λ output fixed ended text read are few.
    (let rest : List ℕ = c.loop-rest.rest.now in
    let block : List ℕ = c.args.block.now in
    let taken : TranscriptValue → Type 0 = g.S.LineSink.has_taken c.loop-rest.sink output fixed ended in
    let within = c.loop-rest.invariant output fixed ended text read are few in
    let all = c.in-Ok-Some.ensures.gives (text ++ within.piece) within.transcript within.reads.read (fits_within text block within.piece rest within.whole few) in
    let gives = rw c.in-Ok-Some.field-0-is at all in
    c.in-Err-take.ensures output fixed ended within.transcript within.are gives.2 (omega (arith, within.reads.read.taken.few))
    (few_words c.loop-rest.reader taken text block rest within few))
