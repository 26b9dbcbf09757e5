use Rattle.std.proofs.Common.{◌≡◌, Bool, length, sym, [], subst}
use Rattle.irp_types.specs.State.{Tables}
use Rattle.irp_types.specs.Calls.{Call}
use Rattle.irp_types.specs.declared.call.Call.TheVariants.{CreateDevice, Attach, Detach, Delete, Allocate, Free, Reuse, Look}
use Rattle.irp_types.specs.declared.reply.Reply.{Reply}
use Rattle.irp_types.specs.Standing.{StandingFacts}
use Rattle.irp_manager.specs.ManagerStates.{Stepped, SteppedAny, state_of}
use Rattle.irp_manager.proofs.Handed.{handed, if_ok}
use Rattle.irp_manager.proofs.manager_state.ManagerState.answer.Goals as goal

pub returns-in-CreateDevice-clause-stepped : goal.returns-in-CreateDevice-clause-stepped
returns-in-CreateDevice-clause-stepped g c =
    let tables = g.A.Ask.tables c.args.ask.now in
    let old = c.args.self.now in
    let call : Call = CreateDevice c.in-CreateDevice.driver c.in-CreateDevice.lock in
    if_ok
    (λ (reply : Reply). (given : Tables) (drained : Bool) → length given.drivers ≡ c.drivers.result → StandingFacts given.counts (state_of g.K.Keep.live old) → Stepped g.K.Keep.live given drained old call [] reply c.create_device.new.self)
    (λ (reply : Reply). Stepped g.K.Keep.live tables c.args.drained old c.args.call c.args.asked.now.items reply c.create_device.new.self)
    (λ reply stepped. handed g.K.Keep.live tables c.args.drained old c.args.call call c.args.asked.now.items reply c.create_device.new.self c.in-CreateDevice.is c.requires.empty
    (stepped tables c.args.drained (sym c.drivers.ensures) c.requires.stands))
    c.create_device.result c.create_device.ensures.stepped

pub returns-in-Attach-clause-stepped : goal.returns-in-Attach-clause-stepped
returns-in-Attach-clause-stepped g c =
    let drained = c.args.drained in
    let tables = g.A.Ask.tables c.args.ask.now in
    let call : Call = Attach c.in-Attach.device c.in-Attach.to in
    handed g.K.Keep.live tables drained c.args.self.now c.args.call call c.args.asked.now.items c.attach.result c.attach.new.self c.in-Attach.is c.requires.empty (c.attach.ensures.stepped tables drained c.requires.stands)

pub returns-in-Detach-clause-stepped : goal.returns-in-Detach-clause-stepped
returns-in-Detach-clause-stepped g c =
    let drained = c.args.drained in
    let tables = g.A.Ask.tables c.args.ask.now in
    let call : Call = Detach c.in-Detach.lower in
    handed g.K.Keep.live tables drained c.args.self.now c.args.call call c.args.asked.now.items c.detach.result c.detach.new.self c.in-Detach.is c.requires.empty (c.detach.ensures.stepped tables drained c.requires.stands)

pub returns-in-Allocate-clause-stepped : goal.returns-in-Allocate-clause-stepped
returns-in-Allocate-clause-stepped g c =
    let tables = g.A.Ask.tables c.args.ask.now in
    let old = c.args.self.now in
    let call : Call = Allocate c.in-Allocate.size in
    if_ok
    (λ (reply : Reply). SteppedAny g.K.Keep.live old call [] reply c.allocate.new.self)
    (λ (reply : Reply). Stepped g.K.Keep.live tables c.args.drained old c.args.call c.args.asked.now.items reply c.allocate.new.self)
    (λ reply stepped. handed g.K.Keep.live tables c.args.drained old c.args.call call c.args.asked.now.items reply c.allocate.new.self c.in-Allocate.is c.requires.empty (stepped tables c.args.drained c.requires.stands))
    c.allocate.result c.allocate.ensures.stepped

pub returns-in-Free-clause-stepped : goal.returns-in-Free-clause-stepped
returns-in-Free-clause-stepped g c =
    let drained = c.args.drained in
    let tables = g.A.Ask.tables c.args.ask.now in
    let call : Call = Free c.in-Free.irp in
    handed g.K.Keep.live tables drained c.args.self.now c.args.call call c.args.asked.now.items c.free.result c.free.new.self c.in-Free.is c.requires.empty (c.free.ensures.stepped tables drained c.requires.stands)

pub returns-in-Reuse-clause-stepped : goal.returns-in-Reuse-clause-stepped
returns-in-Reuse-clause-stepped g c =
    let drained = c.args.drained in
    let tables = g.A.Ask.tables c.args.ask.now in
    let call : Call = Reuse c.in-Reuse.irp c.in-Reuse.status in
    handed g.K.Keep.live tables drained c.args.self.now c.args.call call c.args.asked.now.items c.reuse.result c.reuse.new.self c.in-Reuse.is c.requires.empty (c.reuse.ensures.stepped tables drained c.requires.stands)

pub returns-in-Look-clause-stepped : goal.returns-in-Look-clause-stepped
returns-in-Look-clause-stepped g c =
    let drained = c.args.drained in
    let tables = g.A.Ask.tables c.args.ask.now in
    let call : Call = Look c.in-Look.irp in
    handed g.K.Keep.live tables drained c.args.self.now c.args.call call c.args.asked.now.items c.look.result c.args.self.now c.in-Look.is c.requires.empty (c.look.ensures tables drained c.requires.stands)

pub returns-in-Delete-clause-stepped : goal.returns-in-Delete-clause-stepped
returns-in-Delete-clause-stepped g c =
    let drained = c.args.drained in
    let tables = g.A.Ask.tables c.args.ask.now in
    let call : Call = Delete c.in-Delete.device in
    handed g.K.Keep.live tables drained c.args.self.now c.args.call call c.args.asked.now.items c.delete.result c.delete.new.self c.in-Delete.is c.requires.empty (c.delete.ensures.stepped tables c.requires.stands)

pub returns-in-Cancel-clause-stepped : goal.returns-in-Cancel-clause-stepped
returns-in-Cancel-clause-stepped g c =
    let tables = g.A.Ask.tables c.args.ask.now in
    subst (λ (given : Call). Stepped g.K.Keep.live tables c.args.drained c.args.self.now given c.cancel.new.asked.items c.cancel.result c.cancel.new.self) (sym c.in-Cancel.is) (c.cancel.ensures.stepped c.args.drained)

pub returns-in-FinishTaken-clause-stepped : goal.returns-in-FinishTaken-clause-stepped
returns-in-FinishTaken-clause-stepped g c =
    let tables = g.A.Ask.tables c.args.ask.now in
    subst (λ (given : Call). Stepped g.K.Keep.live tables c.args.drained c.args.self.now given c.finish_taken.new.asked.items c.finish_taken.result c.finish_taken.new.self) (sym c.in-FinishTaken.is) (c.finish_taken.ensures.stepped c.args.drained)

pub returns-in-SetNext-clause-stepped : goal.returns-in-SetNext-clause-stepped
returns-in-SetNext-clause-stepped g c =
    subst (λ (given : Call). Stepped g.K.Keep.live (g.A.Ask.tables c.args.ask.now) c.args.drained c.args.self.now given c.by_owner.new.asked.items c.by_owner.result c.by_owner.new.self) c.in-SetNext.call-is (c.by_owner.ensures.stepped c.args.drained)
