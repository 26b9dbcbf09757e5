-- One more line ends in the block, or none does.
use Rattle.std.proofs.Common.{ℕ, ◌≡◌, ◌+◌, ◌<◌, ◌^◌, Err, sym, subst, ap, ◌∙◌, arith}
use Rattle.std.proofs.lemmas.Bool.{eq-eqb, eqb-true}
use Rattle.irp_transcript_reader.specs.declared.read_fault.ReadFault.{ReadFault}
use Rattle.irp_fast_reader.specs.Fed.{Gives, IsNextLine, fault_at}
use Rattle.irp_fast_reader.proofs.Blocks.{IsBare, bare_all}
use Rattle.irp_fast_reader.proofs.Fed.{EndsAt, block_fails, block_kept, few, line_fails, line_read, next_line}
use Rattle.irp_fast_reader.proofs.reader.Reader.next.Goals as goal

pub returns-in-Ok-clause-gives : goal.returns-in-Ok-clause-gives
returns-in-Ok-clause-gives c = λ text before read short.
    (let bare : IsBare c.args.block.now = bare_all c.args.block.now (λ before below same. c.in_default.ensures before (omega arith) below (eq-eqb _ 10 same)) in
    block_kept c.args.self.now text before read c.keep.new.self c.args.block.now bare c.in-Ok.ensures.kept.0 c.in-Ok.ensures.kept.1 c.keep.ensures.lines c.keep.ensures.count)

pub returns-in-Err-clause-gives : goal.returns-in-Err-clause-gives
returns-in-Err-clause-gives c = λ text before read short.
    (let bare : IsBare c.args.block.now = bare_all c.args.block.now (λ before below same. c.in_default.ensures before (omega arith) below (eq-eqb _ 10 same)) in
    let low : c.keep.new.self.count + 1 < 2 ^ 64 = omega (arith, (few c.args.self.now text before read).0, c.keep.ensures.count, short) in
    let told : c.fault.result ≡ fault_at (c.args.self.now.count + 1) c.in-Err.unread =
    c.fault.ensures low ∙ ap (λ (count : ℕ). fault_at (count + 1) c.in-Err.unread) c.keep.ensures.count in
    subst (λ (fault : ReadFault). Gives (Err fault) c.keep.new.self text before c.args.block.now) (sym told)
    (block_fails c.args.self.now text before read c.in-Err.unread c.keep.new.self c.args.block.now c.keep.new.self.kept.items bare c.in-Err.ensures.kept))

pub returns-in-Ok-end_line-clause-gives : goal.returns-in-Ok-end_line-clause-gives
returns-in-Ok-end_line-clause-gives c = λ text before read short.
    (let first = c.in-Some.ensures in
    let ends : EndsAt c.args.block.now c.in-Some.place =
    record { none = λ before below same. first.0.before before (omega arith) below (eq-eqb _ 10 same); within = first.0.high; newline = eqb-true _ 10 first.1 } in
    let given = c.in-Ok-end_line.ensures.given before read.taken in
    let low = (few c.args.self.now text before read).0 in
    let counted : c.saturating_add-self.result ≡ c.args.self.now.count + 1 = grind (arith, low, short) in (
      omega arith,
      omega (arith, first.0.high),
      given.0,
      line_read c.args.self.now text before read _ c.args.block.now c.in-Some.place c.in-Ok-end_line.line ends given c.in-Ok-end_line.ensures.kept counted,
    ))

pub returns-in-Err-end_line-clause-gives : goal.returns-in-Err-end_line-clause-gives
returns-in-Err-end_line-clause-gives c = λ text before read short.
    (let first = c.in-Some.ensures in
    let ends : EndsAt c.args.block.now c.in-Some.place =
    record { none = λ before below same. first.0.before before (omega arith) below (eq-eqb _ 10 same); within = first.0.high; newline = eqb-true _ 10 first.1 } in
    let low : c.end_line.new.self.count + 1 < 2 ^ 64 = omega (arith, (few c.args.self.now text before read).0, c.end_line.ensures.count, short) in
    let told : c.fault-in-Err-end_line.result ≡ fault_at (c.args.self.now.count + 1) c.in-Err-end_line.unread =
    c.fault-in-Err-end_line.ensures low ∙ ap (λ (count : ℕ). fault_at (count + 1) c.in-Err-end_line.unread) c.end_line.ensures.count in
    subst (λ (fault : ReadFault). Gives (Err fault) c.end_line.new.self text before c.args.block.now) (sym told)
    (line_fails c.args.self.now text before read c.in-Err-end_line.unread c.end_line.new.self c.end_line.new.self.lines c.args.block.now c.in-Some.place ends
    (c.in-Err-end_line.ensures.given before read.taken)))

pub returns-in-Err-clause-refused : goal.returns-in-Err-clause-refused
returns-in-Err-clause-refused c = λ text before read short.
    (let low : c.keep.new.self.count + 1 < 2 ^ 64 = omega (arith, (few c.args.self.now text before read).0, c.keep.ensures.count, short) in
    let told : c.fault.result ≡ fault_at (c.args.self.now.count + 1) c.in-Err.unread =
    c.fault.ensures low ∙ ap (λ (count : ℕ). fault_at (count + 1) c.in-Err.unread) c.keep.ensures.count in
    subst (IsNextLine text) (sym told) (next_line c.args.self.now text before read c.in-Err.unread))

pub returns-in-Err-end_line-clause-refused : goal.returns-in-Err-end_line-clause-refused
returns-in-Err-end_line-clause-refused c = λ text before read short.
    (let low : c.end_line.new.self.count + 1 < 2 ^ 64 = omega (arith, (few c.args.self.now text before read).0, c.end_line.ensures.count, short) in
    let told : c.fault-in-Err-end_line.result ≡ fault_at (c.args.self.now.count + 1) c.in-Err-end_line.unread =
    c.fault-in-Err-end_line.ensures low ∙ ap (λ (count : ℕ). fault_at (count + 1) c.in-Err-end_line.unread) c.end_line.ensures.count in
    subst (IsNextLine text) (sym told) (next_line c.args.self.now text before read c.in-Err-end_line.unread))
