use Rattle.irp_manager.proofs.MapMaps.{mapped_emptied}
use Rattle.irp_manager.proofs.map_keep.MapKeepKeep.give_back.Goals as goal

pub returns-clause-gone : goal.returns-clause-gone
returns-clause-gone c = mapped_emptied c.args.self.now.places.entries c.remove-gone.new.self.entries c.args.slot c.remove-gone.ensures.updates.0

pub returns-clause-gave : goal.returns-clause-gave
returns-clause-gave c = returns-clause-gone c
