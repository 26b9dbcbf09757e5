use Rattle.std.proofs.Common.{rules, ◌≡◌, ◌<◌, ℕ, ◌+◌, length, List, sym, ap, ◌∙◌, get_or, take}
use Rattle.std.proofs.lemmas.List.Sums.{fold_more}
use Rattle.irp_text_faults.specs.Reading as spec
use Rattle.irp_text_faults.specs.declared.reading.Reading.{Reading}
use Rattle.irp_text_faults.specs.declared.reading.Sought.{Sought}
use Rattle.irp_text_faults.proofs.seeking.read_through.Goals as goal

read_more : (key : List ℕ) (sought : Sought) (text : List ℕ) (at : ℕ) (read next : Reading) → at < length text
    → read ≡ spec.read_through key sought text (take at text) → next ≡ spec.read_on key sought text read (get_or text at 0)
    → next ≡ spec.read_through key sought text (take (at + 1) text)
read_more key sought text at read next inside is on =
    on ∙ ap (λ (so_far : Reading). spec.read_on key sought text so_far (get_or text at 0)) is
    ∙ sym (fold_more (spec.read_on key sought text) spec.nothing_read text at 0 inside)

pub loop-byte-preserved : goal.loop-byte-preserved
loop-byte-preserved c = record {
  is = read_more c.args.key.now c.args.sought c.args.text.now c.loop-byte.byte-index c.loop-byte.read c.read_on-read.result
      c.loop-byte-test.true c.loop-byte.invariant.is c.read_on-read.ensures.is;
  at = search rules;
  sound = c.read_on-read.ensures.sound;
}
