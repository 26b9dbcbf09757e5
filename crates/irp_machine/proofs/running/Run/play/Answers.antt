use Rattle.std.proofs.Common.{sym}
use Rattle.irp_machine.specs.Runs.{RunValue}
use Rattle.irp_machine.proofs.RunsOn.{runs_on}
use Rattle.irp_machine.proofs.running.Run.play.Goals as goal

pub returns : goal.returns
returns c =
    let inside = c.self.inside in
    let own : RunValue = record {
      header = inside.header.now;
      script = inside.script.now;
      rules = inside.machine;
      standing = inside.standing;
      entries = inside.entries.items;
    } in
    record {
      plays = runs_on own c.args.self c.self.view_is c.args.seat c.args.step c.in-Some.planned c.in_ok-behind.behind c.play_in.new.standing
          c.play_in.new.entries.items (sym c.in-Some.ensures.act) c.in_ok-behind.ensures.plays;
    }
