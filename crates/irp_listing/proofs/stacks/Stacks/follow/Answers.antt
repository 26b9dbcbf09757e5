-- What is kept after one more entry is what the entries then tell.
use Rattle.std.proofs.Common.{◌∙◌, ap, length}
use Rattle.irp_listing.specs.Stacks.{held, tells_above, tells_lost, with_told}
use Rattle.irp_listing.proofs.Following.{as_many, follows}
use Rattle.irp_listing.proofs.stacks.Stacks.follow.Goals as goal

pub returns : goal.returns
returns c = λ so_far after.
    let above = c.keep.ensures ∙ ap (with_told c.args.self.now.above) c.above_set.ensures in
    let lost = c.keep-2.ensures ∙ ap (with_told c.args.self.now.lost) c.taken_out.ensures in
    record {
      above = λ device. ap (λ list. held list device) above
          ∙ follows tells_above so_far c.args.entry.now c.args.self.now.above device after.devices.0 (after.above device);
      lost = λ device. ap (λ list. held list device) lost
          ∙ follows tells_lost so_far c.args.entry.now c.args.self.now.lost device after.devices.1 (after.lost device);
      devices = (
        ap length above ∙ as_many c.args.self.now.above (tells_above c.args.entry.now) after.devices.0,
        ap length lost ∙ as_many c.args.self.now.lost (tells_lost c.args.entry.now) after.devices.1,
      );
    }
