use Rattle.std.proofs.Common.{rules, ◌≡◌, Some}
use Rattle.irp_machine.specs.Machine.{act_of}
use Rattle.irp_machine.proofs.Histories.{played_in}
use Rattle.irp_machine.proofs.replaying.play.Goals as goal

pub returns-clause-plays : goal.returns-clause-plays
returns-clause-plays c =
    let machine = c.args.machine.now in
    let standing = c.args.standing.now in
    let act : act_of machine standing c.args.seat ≡ Some c.in-Some.planned = search rules in
    played_in machine standing c.play_in.new.standing c.args.seat c.in-Some.planned (act_of machine standing c.args.seat) c.args.entries.now.items
    c.play_in.new.entries.items c.in_ok-_behind._behind act c.in_ok-_behind.ensures.plays
