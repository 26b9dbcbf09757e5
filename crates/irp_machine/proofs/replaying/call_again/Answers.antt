use Rattle.std.proofs.Common.{rules, ◌≡◌, ◌++◌, ◌∷◌, [], List, length, ap, ◌∙◌}
use Rattle.irp_types.specs.declared.entry.Entry.{Entry}
use Rattle.irp_machine.proofs.Histories.{call_recorded}
use Rattle.irp_machine.proofs.replaying.call_again.Goals as goal

pub returns : goal.returns
returns c =
    let history : List Entry = c.args.entries.now.items in
    let applied = c.in_ok-applied.applied in
    let numbered : c.len-number.result ≡ length history = search rules in
    let entry : Entry = record {
      number = c.len-number.result;
      call = c.args.calling.call;
      asked = c.from_vec.result;
      reply = applied.reply;
      seat = c.args.seat;
      lock = applied.lock;
      drained = applied.drained;
    } in
    let grown : c.push_reserved.new.self.items ≡ history ++ entry ∷ [] =
    c.push_reserved.ensures.items ∙ ap (λ (history : List Entry). history ++ entry ∷ []) c.reserve.ensures.items in
    let recorded =
    call_recorded c.args.machine.now c.args.standing.now c.call.new.next c.args.seat c.args.planned c.args.calling c.args.learned.now
    applied c.called.result c.requires.learned c.in_ok-applied.ensures.applied c.in_ok-applied.ensures.rest c.called.ensures
    c.from_vec.result c.len-number.result history c.push_reserved.new.self.items c.history_goes_on.ensures c.from_vec.ensures numbered grown c.requires.leads in
    record { records = recorded.0; leads = recorded.1 }
