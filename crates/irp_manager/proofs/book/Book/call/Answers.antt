use Rattle.std.proofs.Common.{◌≡◌, ◌++◌, ◌∷◌, [], List, length, refl, sym, ap, ◌≤◌, ◌+◌, ◌∙◌, subst, rules, arith, length-append}
use Rattle.std.specs.Prelude.{vec_capacity}
use Rattle.irp_types.specs.State.{Fixed}
use Rattle.irp_types.specs.Steps.{Step}
use Rattle.irp_types.specs.Histories.{IsEntryAt, LeadsTo}
use Rattle.irp_types.specs.declared.asked.Asked.{Asked}
use Rattle.irp_types.specs.Calls.{Call}
use Rattle.irp_types.specs.declared.entry.Entry.{Entry}
use Rattle.irp_routines.specs.Answers.{AreAnswered}
use Rattle.irp_manager.specs.Passing.{PassesPlan, PassesAnswer, PassesCancel}
use Rattle.irp_manager.specs.Keeps.{slabbed}
use Rattle.irp_manager.specs.ManagerStates.{state_of, fixed_with, most_asked}
use Rattle.irp_manager.specs.Booked.{receipt_of}
use Rattle.irp_manager.specs.Rooms.{can_ask}
use Rattle.irp_manager.proofs.Few.{few_stepped}
use Rattle.irp_manager.proofs.Recording.{leads_more, legal, undrained, done_is_drained}
use Rattle.irp_manager.proofs.book.Book.call.Goals as goal
use Rattle.irp_manager.proofs.book.Book.call.Given.{Over}

-- what is recorded
entry : (g : Over) → goal.After-took g → Entry
entry g c = record {
  number = c.len-length.result;
  seat = c.number.result;
  call = c.args.call;
  lock = c.in-Ok-apply.applied.lock;
  drained = c.in-Ok-apply.applied.drained;
  asked = c.put.result;
  reply = c.in-Ok-apply.applied.reply;
}

grown : (g : Over) (c : goal.After-took g) → c.push_reserved.new.self.items ≡ c.self.inside.history.items ++ entry g c ∷ []
unfolding entry
grown g c = c.push_reserved.ensures.items ∙ ap (λ (history : List Entry). history ++ entry g c ∷ []) c.reserve.ensures.items

place : (g : Over) (c : goal.After-took g) → c.len-length.result ≡ length c.self.inside.history.items
place g c = search rules

-- what is fixed, before the call
before : (g : Over) → goal.After-took g → Fixed
before g c = fixed_with c.self.inside.state c.self.inside.guarded.tables

-- the step that is recorded
stepped : (g : Over) (c : goal.After-took g) → Step (before g c) (state_of slabbed c.self.inside.state) c.in-Ok-apply.applied.drained c.args.call c.put.result c.in-Ok-apply.applied.reply (state_of slabbed c.apply.new.self)
unfolding before
stepped g c =
    subst (λ (asked : List Asked). Step (before g c) (state_of slabbed c.self.inside.state) c.in-Ok-apply.applied.drained c.args.call asked c.in-Ok-apply.applied.reply (state_of slabbed c.apply.new.self))
    (sym c.put.ensures) (c.in-Ok-apply.ensures.stepped.step (before g c) refl (refl, refl))

leads : (g : Over) (c : goal.After-took g) → LeadsTo (before g c) c.push_reserved.new.self.items (state_of slabbed c.apply.new.self)
unfolding entry before
leads g c =
    let old = state_of slabbed c.self.inside.state in
    let new = state_of slabbed c.apply.new.self in
    let applied = c.in-Ok-apply.applied in
    let holds : IsEntryAt (before g c) (length c.self.inside.history.items) old (entry g c) new = record {
      numbered = place g c;
      lock = c.in-Ok-apply.ensures.lock;
      undrained = undrained (g.N.DrainNote.knows_drained c.args.note.now) applied.lock applied.drained c.in-Ok-apply.ensures.drained;
      step = stepped g c;
    } in
    leads_more c.history_goes_on.ensures (before g c) c.self.inside.history.items c.push_reserved.new.self.items old new (entry g c) c.self.invariant.leads holds (grown g c)

-- the same, with what is fixed after the call
leads_on : (g : Over) (c : goal.After-took g) → LeadsTo (fixed_with c.apply.new.self c.self.inside.guarded.tables) c.push_reserved.new.self.items (state_of slabbed c.apply.new.self)
unfolding before
leads_on g c =
    let tables = c.self.inside.guarded.tables in
    let kept = c.in-Ok-apply.ensures.stepped.fixed in
    subst (λ (fixed : Fixed). LeadsTo fixed c.push_reserved.new.self.items (state_of slabbed c.apply.new.self))
    (λ i. record { locks = sym kept.0 i; tables = tables; limit = sym kept.1 i }) (leads g c)

pub invariant_of-self-2 : goal.invariant_of-self-2
invariant_of-self-2 g c =
    let long : length c.push_reserved.new.self.items ≡ length (c.self.inside.history.items ++ entry g c ∷ []) = ap length (grown g c) in
    let here = place g c in
    record {
      leads = leads_on g c;
      stands = c.in-Ok-apply.ensures.stepped.stands;
      few = omega (arith, length-append c.self.inside.history.items (entry g c ∷ []));
      spare = c.shared_copy-copy.ensures.empty;
      counted = omega (arith, c.took.ensures.total, c.self.invariant.counted, long, length-append c.self.inside.history.items (entry g c ∷ []));
    }

pub returns-clause-legal : goal.returns-clause-legal
returns-clause-legal g c =
    let fixed : Fixed = fixed_with c.apply.new.self c.self.inside.guarded.tables in
    legal fixed c.push_reserved.new.self.items (state_of slabbed c.apply.new.self) (leads_on g c)

pub returns-clause-recorded : goal.returns-clause-recorded
unfolding entry
returns-clause-recorded g c =
    let here = place g c in
    let held = c.self.inside.guarded in
    let own = g.A.Ask.tables held.ask ≡ held.tables in
    let may = subst (λ (asked : List Asked). AreAnswered (PassesPlan held.tables own (g.A.Ask.may_plan held.ask)) (PassesAnswer held.tables own (g.A.Ask.may_answer held.ask)) (PassesCancel held.tables own (g.A.Ask.may_cancel held.ask)) asked)
    (sym c.put.ensures) c.in-Ok-apply.ensures.may in
    let few = subst (λ (asked : List Asked). length asked ≤ most_asked c.args.call) (sym c.put.ensures) c.in-Ok-apply.ensures.few in
    let copied : c.shared_copy-copy.result ≡ entry g c = c.shared_copy-copy.ensures.copied in
    rw (← c.self.view_is) (record {
      called = record {
        entry = entry g c;
        appended = grown g c;
        numbered = here;
        of_call = record {
          within = search rules;
          after = search rules;
          by = c.number.ensures;
          asks = refl;
          noted = c.in-Ok-apply.ensures.drained;
          deletes = λ device deletes done. done_is_drained (before g c) (state_of slabbed c.self.inside.state) c.in-Ok-apply.applied.drained device c.put.result c.in-Ok-apply.applied.reply (state_of slabbed c.apply.new.self)
              (subst (λ (call : Call). Step (before g c) (state_of slabbed c.self.inside.state) c.in-Ok-apply.applied.drained call c.put.result c.in-Ok-apply.applied.reply (state_of slabbed c.apply.new.self)) deletes (stepped g c)) done;
          few = few;
        };
        told = c.of-receipt.ensures ∙ ap (receipt_of c.push_reserved.new.self.items) copied;
        kept = record {
          number = c.took.ensures.number;
          entries = c.took.ensures.entries ∙ ap (λ (one : Entry). c.args.seat.now.entries ++ one ∷ []) copied;
          seen = c.took.ensures.seen ∙ ap (λ (one : Entry). one.number + 1) copied;
        };
      };
      answered = may;
    })

pub shared_copy-copy-requires-clause-ample : goal.shared_copy-copy-requires-clause-ample
shared_copy-copy-requires-clause-ample g c =
    let state = state_of slabbed c.self.inside.state in
    let few : length c.in-Ok-apply.applied.asked.items ≤ can_ask state c.args.call = few_stepped _ _ _ _ _ _ _ _ c.in-Ok-apply.ensures.stepped c.self.invariant.stands in
    let ample : can_ask state c.args.call ≤ vec_capacity c.place_for.new.spare = c.in-Ok.ensures.ample in
    let same : length c.put.result ≡ length c.in-Ok-apply.applied.asked.items = ap length c.put.ensures in
    omega (arith, few, ample, same)
