-- What is wrong is told once.
use Rattle.irp_live.proofs.told.next_line.Goals as goal

pub returns-in-None-Some : goal.returns-in-None-Some
returns-in-None-Some c = rw (c.in-None-Some.is-0, c.in-None-Some.is-1) c.line_of-in-None-Some.ensures
