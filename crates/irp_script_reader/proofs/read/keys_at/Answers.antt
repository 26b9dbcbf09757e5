-- The keys that were looked for are those of the form.
use Rattle.irp_script_reader.specs.Scripts.{keys_at}
use Rattle.irp_script_reader.proofs.Tells.{tells_or}
use Rattle.irp_script_reader.proofs.read.keys_at.Goals as goal

pub returns-in-One : goal.returns-in-One
unfolding keys_at
returns-in-One c = rw c.in-One.is (tells_or c.ok_or.ensures.value c.refused-fault.ensures c.only_keys.ensures)

pub returns-in-Two : goal.returns-in-Two
unfolding keys_at
returns-in-Two c = rw c.in-Two.is (tells_or c.ok_or-in-Two.ensures.value c.refused-fault.ensures c.only_keys-in-Two.ensures)

pub returns-in-Four : goal.returns-in-Four
unfolding keys_at
returns-in-Four c = rw c.in-Four.is (tells_or c.ok_or-in-Four.ensures.value c.refused-fault.ensures c.only_keys-in-Four.ensures)
