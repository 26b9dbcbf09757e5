use Rattle.std.proofs.Common.{ap, subst, ◌∙◌}
use Rattle.irp_machine.specs.Machine.{seat_at}
use Rattle.irp_machine.specs.Next.{next_of}
use Rattle.irp_machine.specs.Replays.{IsActed}
use Rattle.irp_machine.specs.Standings.{StandingValue, after_change}
use Rattle.irp_machine.proofs.Histories.{played_so}
use Rattle.irp_machine.proofs.replaying.play_in.Goals as goal

pub returns-clause-plays : goal.returns-clause-plays
returns-clause-plays c =
    let machine = c.args.machine.now in
    let standing = c.args.standing.now in
    let planned = c.args.planned in
    let acted =
    subst
    (λ (before : StandingValue).
    IsActed machine before c.args.seat planned (next_of before (seat_at before c.args.seat) planned) c.args.entries.now.items c.act_again.new.standing c.act_again.new.entries.items
    c.in_ok-change.change)
    c.in_ok-before.ensures c.in_ok-change.ensures.records in
    played_so machine standing c.act_again.new.standing c.change.new.self c.args.seat planned c.args.entries.now.items
    c.act_again.new.entries.items c.in_ok-change.change acted
    (c.in_ok-change-2.ensures ∙ ap (λ tells. after_change c.args.seat c.in_ok-change.change planned.place tells c.act_again.new.standing) c.tells.ensures)
