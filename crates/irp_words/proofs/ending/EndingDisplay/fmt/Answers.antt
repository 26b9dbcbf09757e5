-- A file that isn't opened is named.
use Rattle.irp_words.proofs.ending.EndingDisplay.fmt.Goals as goal

pub returns-in-NoFile-clause-writes : goal.returns-in-NoFile-clause-writes
returns-in-NoFile-clause-writes g c = rw c.in-NoFile.is c.write.ensures.writes
