-- The header's line is the text of the one line, and where there is no header nothing goes out.
use Rattle.std.proofs.Common.{subst, refl, lit<}
use Rattle.irp_transcript_writer.specs.Puts.{PutsText}
use Rattle.irp_transcript_writer.proofs.Puts.{sent_none, text_one}
use Rattle.irp_transcript_writer.proofs.write.put_header.Goals as goal

pub returns-in-Some : goal.returns-in-Some
returns-in-Some g c =
    rw c.in-Some.is (subst (λ text. PutsText text 0 (g.O.Out.gone c.args.out.now) (g.O.Out.gone c.put_line.new.out) (g.O.Out.failures c.args.out.now) (g.O.Out.failures c.put_line.new.out) c.put_line.result) (text_one _) c.put_line.ensures)

pub returns-in-None : goal.returns-in-None
returns-in-None g c = rw c.in-None.is (sent_none 0 (g.O.Out.gone c.args.out.now) (lit< tt), refl)
