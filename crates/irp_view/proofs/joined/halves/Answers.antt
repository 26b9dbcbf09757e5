-- A word is cut at its first dot; a word whose parts aren't both numbers names no use.
use Rattle.std.proofs.Common.{inl, inr, ◌∙◌, sym}
use Rattle.irp_view.proofs.Cuts.{halves_are, never_joined, not_number}
use Rattle.irp_view.proofs.joined.halves.Goals as goal

pub returns-in_err-slot-clause-none : goal.returns-in_err-slot-clause-none
returns-in_err-slot-clause-none c none slot use_no joined =
    never_joined c.args.word.now slot use_no c.split_once.result c.split_once.ensures.cases joined c.in_err-slot.was

pub returns-else-is_slot-clause-none : goal.returns-else-is_slot-clause-none
returns-else-is_slot-clause-none c none slot use_no joined =
    let are = halves_are c.args.word.now slot use_no c.split_once.result (c.in_ok-slot.slot, c.in_ok-slot.use_no) c.split_once.ensures.cases joined c.in_ok-slot.was in
    elim c.else-is_slot.either [
      | inl both ↦ not_number c.in_ok-slot.use_no.now c.number-2.result c.number-2.ensures (sym c.is_some-is_use.ensures ∙ both.1) are.1
      | inr other ↦ not_number c.in_ok-slot.slot.now c.number.result c.number.ensures (sym c.is_some-is_slot.ensures ∙ other) are.0
    ]
