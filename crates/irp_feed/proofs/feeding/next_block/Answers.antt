-- The text ends before its last line does.
use Rattle.std.proofs.Common.{ℕ, ◌≡◌, Option, length, sym, subst, ap, ◌∙◌, arith}
use Rattle.irp_transcript_reader.specs.Reading.{cut}
use Rattle.irp_transcript_reader.specs.declared.read_fault.ReadFault.{ReadFault}
use Rattle.irp_feed.specs.Feeding.{AreAllBefore, FailsBehind, IsNoBlock, line_in, refused_line}
use Rattle.irp_feed.specs.declared.unfed.RefusedLine.TheVariants.{NoNewline}
use Rattle.irp_feed.proofs.Fed.{all_before_end, behind_none, is_input, line_told, no_block, none_of_end, refused_of, so_far_end}
use Rattle.irp_feed.proofs.feeding.next_block.Goals as goal

pub returns-in-Err-finish-clause-next : goal.returns-in-Err-finish-clause-next
returns-in-Err-finish-clause-next g c = λ old text before so_far read.
    (let fault : ReadFault = c.in-Err-finish.fault in
    let told : refused_line c.of.result ≡ line_in fault = ap refused_line c.of.ensures ∙ line_told fault NoNewline in
    let none : c.in-Ok-eq0.field-0 ≡ 0 = grind arith in
    let ended = so_far_end old (g.R.Read.remaining c.args.input.now) (g.R.Read.remaining c.take_block.new.reader) c.args.left c.in-Ok-eq0.field-0 text c.take_block.new.buffer none so_far c.in-Ok-eq0.ensures.bytes in
    let reads = c.in-Err-finish.ensures.ended text before read (omega (arith, ended.count)) in
    subst (λ (line : Option ℕ). FailsBehind text old (g.R.Read.remaining c.take_block.new.reader) line × AreAllBefore line (length (cut text).0)) (sym told) (
      behind_none (line_in fault) old (g.R.Read.remaining c.take_block.new.reader) c.args.left text ended
          (none_of_end (line_in fault) old (g.R.Read.remaining c.take_block.new.reader) text (is_input old (g.R.Read.remaining c.take_block.new.reader) c.args.left text ended (c.in-Ok-eq0.ensures.end none)) (refused_of fault text reads)),
      all_before_end fault text before read.lines reads,
    ))

pub returns-in-Err-finish-clause-fault : goal.returns-in-Err-finish-clause-fault
returns-in-Err-finish-clause-fault g c = subst IsNoBlock (sym c.of.ensures) (no_block c.in-Err-finish.fault c.in-Err-finish.ensures.line)
