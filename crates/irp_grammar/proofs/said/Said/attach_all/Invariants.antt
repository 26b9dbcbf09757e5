use Rattle.std.proofs.Common.{◌≡◌, ◌≤◌, ◌-◌, max}
use Rattle.irp_grammar.specs.Reading.{attachments, members_of, with_steps}
use Rattle.irp_grammar.proofs.said.Said.attach_all.Given as goal

-- those from the first on are attached so far
abbrev pub invariant-loop-device : goal.invariant-loop-device
invariant-loop-device l =
    (l.first ≤ l.device) × (l.device ≤ max l.first l.initial.self.devices)
    × (members_of l.self
    ≡ with_steps l.head.section (attachments (l.device - l.first) l.head.seat l.head.condition l.first) (members_of l.initial.self))
