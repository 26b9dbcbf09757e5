use Rattle.std.proofs.Common.{rules, ◌≡◌, ◌+◌, codes}
use Rattle.irp_grammar.specs.Lines.{ahead, next_of}
use Rattle.irp_grammar.specs.Reading.{members_of}
use Rattle.irp_grammar.proofs.Adding.{created_more}
use Rattle.irp_grammar.proofs.said.Said.take_stack_devices.Goals as goal

-- one more is created, whether it is the last or not
pub loop-at-preserved : goal.loop-at-preserved
loop-at-preserved c =
    created_more c.args.head.section c.loop-at.at c.args.head.seat c.args.head.condition (ahead c.args.words.now)
    (ahead c.loop-at.words) (ahead c.take_next_device.new.words) c.loop-at.lock c.in_ok-lock.lock (members_of c.args.self.now)
    (members_of c.loop-at.self) (members_of c.take_next_device.new.self) c.loop-at.invariant c.in_ok-lock.ensures

pub returns-then-left-eq0 : goal.returns-then-left-eq0
returns-then-left-eq0 c =
    let created =
    created_more c.args.head.section c.loop-at.at c.args.head.seat c.args.head.condition (ahead c.args.words.now)
    (ahead c.loop-at.words) (ahead c.take_next_device.new.words) c.loop-at.lock c.in_ok-lock.lock (members_of c.args.self.now)
    (members_of c.loop-at.self) (members_of c.take_next_device.new.self) c.loop-at.invariant c.in_ok-lock.ensures in
    let begins : next_of (ahead c.args.words.now) ≡ codes "lock" = search rules in
    record {
      count = c.loop-at.at + 1;
      lock = c.in_ok-lock.lock;
      steps = created.steps;
      given = created.given;
      begins = begins;
      devices = created.devices;
      is = created.is;
    }
