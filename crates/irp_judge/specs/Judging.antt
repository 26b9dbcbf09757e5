-- What a judge keeps of the entries that it was fed.
use Rattle.std.specs.Prelude.{ℕ, ◌≡◌, List, [], ◌∷◌, ◌++◌, take, length, Option, Some, None}
use Rattle.irp_types.specs.State.{StateValue}
use Rattle.irp_types.specs.Histories.{LeadsTo}
use Rattle.irp_types.specs.declared.entry.Entry.{Entry}
use Rattle.irp_transcript.specs.Headers.{fixed_of}
use Rattle.irp_transcript.specs.declared.header.Header.{Header}
use Rattle.irp_judge.specs.Checked.{IsFirstWrong}
use Rattle.irp_judge.specs.declared.verdict.Wrong.{Wrong}

-- a judge as contracts see it: what it was made with, how many entries it was fed, what is wrong with them, and the
-- manager's state
pub record JudgeValue : Type 0 where
  pub header : Header
  pub fed : ℕ
  pub wrong : Option Wrong
  pub state : StateValue

-- the legal history that the manager's state is behind: all entries; or, where one isn't legal, those before it and the
-- manager's own in its place
abbrev pub followed : List Entry → Option Wrong → List Entry
followed history None = history
followed history (Some wrong) = take wrong.at history ++ wrong.made ∷ []

-- a judge was fed this history: it counted the entries, keeps what is wrong with them, and the state that the manager
-- is in behind what it could follow
pub record HasJudged (judge : JudgeValue) (history : List Entry) : Type 0 where
  pub counted : judge.fed ≡ length history
  pub wrong : IsFirstWrong (fixed_of judge.header) history judge.wrong
  pub state : LeadsTo (fixed_of judge.header) (followed history judge.wrong) judge.state
