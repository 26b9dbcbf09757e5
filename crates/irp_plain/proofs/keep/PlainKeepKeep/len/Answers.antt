use Rattle.std.proofs.Common.{arith, ◌≡◌, ◌+◌, Bool, cond, is_some, ap, sym, ◌∙◌}
use Rattle.std.specs.FinMap as fin
use Rattle.irp_manager.specs.Slots.{kept, place_at}
use Rattle.irp_manager.proofs.SlotMaps.{len-kept, len-none}
use Rattle.irp_plain.proofs.KeepMaps.{seen_at}
use Rattle.irp_plain.proofs.keep.PlainKeepKeep.len.Goals as goal
use Rattle.irp_plain.proofs.keep.PlainKeepKeep.len.Goals.{then-is_some, else-is_some}

pub loop-place-init : goal.loop-place-init
loop-place-init c = record { counted = sym (len-none c.args.self.now); few = omega arith }

pub loop-place-preserved : goal.loop-place-preserved
loop-place-preserved c =
    let places = c.args.self.now in
    let at = c.loop-place.place-index in
    let so_far = fin.len (kept places at) in
    let place = seen_at c.deref-place-items.result.now places (c.deref-place-items.ensures.value ∙ c.self.view_is) at c.place-item.result (omega (arith, c.loop-place-test.true)) c.place-item.is in
    let known : is_some (place_at places at) ≡ c.is_some.result = ap is_some (sym place) ∙ sym c.is_some.ensures in
    let counted = c.loop-place.invariant.counted in
    let few = c.loop-place.invariant.few in
    elim c.if-is_some.branch [
      | then-is_some w ↦
          (let step : fin.len (kept places (at + 1)) ≡ so_far + 1 =
          len-kept places at ∙ ap (λ (b : Bool). cond b (so_far + 1) so_far) (known ∙ w.if-is_some.true) in
          record { counted = omega (arith, step, counted, w.count-is); few = omega (arith, few, w.count-is) })
      | else-is_some w ↦
          (let step : fin.len (kept places (at + 1)) ≡ so_far =
          len-kept places at ∙ ap (λ (b : Bool). cond b (so_far + 1) so_far) (known ∙ w.if-is_some.false) in
          record { counted = omega (arith, step, counted, w.count-is); few = omega (arith, few, w.count-is) })
    ]
