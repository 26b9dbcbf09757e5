use Rattle.irp_text_faults.proofs.fault.fault_of.Goals as goal

pub returns-clause-placed : goal.returns-clause-placed
returns-clause-placed c = record { at = c.in_part.result; part = c.in_part.ensures; place = c.place_of-place.ensures }
