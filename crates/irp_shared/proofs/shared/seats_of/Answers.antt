use Rattle.std.proofs.Common.{ℕ, ◌+◌, length, sym, subst, ◌∙◌, rules}
use Rattle.irp_shared.specs.Opening.{IsNew, AreNew}
use Rattle.irp_shared.proofs.Opened.{are_new_more}
use Rattle.irp_shared.proofs.shared.seats_of.Goals as goal

pub loop-number-preserved : goal.loop-number-preserved
loop-number-preserved g c =
    let old = c.loop-number.invariant.3 in
    let new : IsNew (length c.loop-number.seats.items) c.new.result = record { numbered = c.new.ensures.0 ∙ sym old.counted; unseen = c.new.ensures.1; empty = c.new.ensures.2 } in
    let more = are_new_more c.loop-number.seats.items c.push_reserved.new.self.items c.new.result (subst (λ (count : ℕ). AreNew count c.loop-number.seats.items) (sym old.counted) old) c.push_reserved.ensures.items new in (
      search rules,
      search rules,
      search rules,
      subst (λ (count : ℕ). AreNew (count + 1) c.push_reserved.new.self.items) old.counted more,
    )
