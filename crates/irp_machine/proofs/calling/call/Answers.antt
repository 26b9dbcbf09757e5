use Rattle.std.proofs.Common.{◌≡◌, ℕ, List, Option, Some, None, false, is_some, refl, sym, ap, ◌∙◌}
use Rattle.irp_manager.specs.ManagerStates.{state_of}
use Rattle.irp_manager.specs.Notes.{known_by}
use Rattle.irp_manager.specs.Slots.{live_of}
use Rattle.irp_transcript.specs.Headers.{fixed_of}
use Rattle.irp_types.specs.Calls.{Call}
use Rattle.irp_types.specs.State.{LivePacket}
use Rattle.irp_plain.specs.Keeps.{next_slot}
use Rattle.irp_machine.specs.Calling.{is_taken}
use Rattle.irp_machine.proofs.calling.call.Goals as goal

-- what isn't some is none
none_of : (found : Option LivePacket) → is_some found ≡ false → found ≡ None
none_of None is = refl
none_of (Some live) is = (let never : ⊥ = cc in absurd never)

pub returns-clause-applied : goal.returns-clause-applied
returns-clause-applied g c = record {
  called = record {
    asked = c.in_ok-applied.applied.asked.items;
    stands = c.requires.stands;
    noted = c.in_ok-applied.ensures.drained ∙ ap (known_by (g.N.DrainNote.knows_drained c.args.note.now)) c.in_ok-applied.ensures.lock;
    step = c.in_ok-applied.ensures.stepped.step (fixed_of c.args.asker.now.header.now) refl c.requires.agrees;
    told = c.in_ok-applied.ensures.may;
    slot = λ size irp is next.
        let state = state_of live_of c.args.manager.now in
        let vacant = ap (λ (call : Call). is_taken state c.next_slot-slot.result call) (sym is) ∙ sym c.is_taken.ensures ∙ c.if-is_taken.false in
        c.in_ok-applied.ensures.granted size irp is next (none_of _ vacant)
        ∙ c.next_slot-slot.ensures
        ∙ ap (λ (freed : List ℕ). next_slot freed c.packets.result) c.deref.ensures.value
        ∙ ap (λ live. next_slot c.args.freed.now.items live) c.packets.ensures;
    freed = c.in_ok-note_freed.ensures;
  };
  asked = refl;
  lock = c.in_ok-applied.ensures.lock;
}
