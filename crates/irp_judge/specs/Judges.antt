-- What contracts see of a judge.
use Rattle.irp_manager.specs.Keeps.{mapped}
use Rattle.irp_manager.specs.ManagerStates.{state_of}
use Rattle.irp_judge.specs.Judging.{JudgeValue}
use Rattle.irp_judge.specs.declared.judge.Judge.{Judge}

-- a judge as contracts see it
abbrev pub seen : Judge → JudgeValue
seen judge = record {
  header = judge.header.now;
  fed = judge.fed;
  wrong = judge.wrong;
  state = state_of mapped judge.core;
}
