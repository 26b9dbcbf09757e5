use Rattle.irp_types.specs.declared.limit.Limit.TheVariants.{ThirtyTwo}
use Rattle.irp_routines.specs.Answers.{IsAnswered}
use Rattle.irp_example.proofs.bench.run.Given as goal

abbrev pub ghosts-session-L-Ledger : goal.ghosts-session-L-Ledger
ghosts-session-L-Ledger g a = record { name = a.blank.name; parts = a.blank.parts }

-- a question may be answered as the one who is asked may answer it
abbrev pub ghosts-session-L-Session : goal.ghosts-session-L-Session
ghosts-session-L-Session g a = record {
  seats = 2;
  fixed = record { locks = 1; tables = g.A.Ask.tables a.ask; limit = ThirtyTwo };
  may = IsAnswered (g.A.Ask.may_plan a.ask) (g.A.Ask.may_answer a.ask) (g.A.Ask.may_cancel a.ask);
}
