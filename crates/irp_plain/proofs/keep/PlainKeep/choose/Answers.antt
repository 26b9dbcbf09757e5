use Rattle.std.proofs.Common.{arith, ◌≡◌, ap, ◌∙◌, length}
use Rattle.std.specs.FinMap as fin
use Rattle.irp_manager.specs.Slots.{live_of}
use Rattle.irp_plain.proofs.KeepMaps.{vacant_end}
use Rattle.irp_plain.proofs.keep.PlainKeep.choose.Goals as goal

pub returns-in_default-clause-vacant : goal.returns-in_default-clause-vacant
returns-in_default-clause-vacant c =
    let last : c.len.result ≡ length c.args.self.now = omega (arith, c.len.ensures, ap length c.self.view_is) in
    ap (λ slot. fin.get (live_of c.args.self.now) slot) last ∙ vacant_end c.args.self.now
