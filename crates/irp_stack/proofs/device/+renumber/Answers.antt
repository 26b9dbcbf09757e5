-- Each step of renumbering is a step of the walk.
use Rattle.std.proofs.Common.{◌≡◌, ◌+◌, ◌-◌, ◌<◌, suc, length, refl, sym, ◌∙◌, ap, subst, arith}
use Rattle.std.specs.List.{AllByRecursion}
use Rattle.irp_types.specs.Limits.{most_locations}
use Rattle.irp_stack.specs.Records.{walk}
use Rattle.irp_stack.proofs.Renumbered.{at_place, walk_edit, known_first, known_rest, step_on, step_end, step_short}
use Rattle.irp_stack.proofs.Regrouped.{edit_length}
use Rattle.irp_stack.proofs.device.+renumber.Goals as goal

pub set_place-upper-requires : goal.set_place-upper-requires
set_place-upper-requires t c =
    let some : 0 < most_locations + 1 - c.args.size = omega (arith, c.requires.few) in
    known_first (λ d. d < length c.args.devices.now.items) (most_locations + 1 - c.args.size) c.args.devices.now.items c.args.device.0 some
    c.requires.known

pub renumber-requires : goal.renumber-requires
renumber-requires t c =
    let lt = c.if-size-lt-MOST_IN_STACK.true in
    let R = c.args.devices.now.items in
    let M = c.set_place-upper.new.devices.items in
    let m = most_locations + 1 - (c.args.size + 1) in
    let e : most_locations + 1 - c.args.size ≡ suc m = omega (arith, lt) in
    let up = sym c.set_place-upper.ensures.upper ∙ c.in-Some.is in
    let rest = known_rest (λ d. d < length R) (most_locations + 1 - c.args.size) m R c.args.device.0 c.in-Some.next e up c.requires.known in
    let g = at_place c.args.bottom c.args.size in
    let walked : walk m M c.in-Some.next.0 ≡ walk m R c.in-Some.next.0 =
    ap (λ l. walk m l c.in-Some.next.0) c.set_place-upper.ensures.set ∙ walk_edit m R c.args.device.0 g (λ r. refl) c.in-Some.next.0 in
    let long : length M ≡ length R = ap length c.set_place-upper.ensures.set ∙ edit_length R c.args.device.0 g in
    (omega (arith, lt), (omega arith, (omega (arith, lt), subst (λ n. AllByRecursion (λ d. d < n) (walk m M c.in-Some.next.0)) (sym long) (subst (AllByRecursion (λ d. d < length R)) (sym walked) rest))))

pub returns-in-Some : goal.returns-in-Some
returns-in-Some t c =
    let lt = c.if-size-lt-MOST_IN_STACK.true in
    let m = most_locations + 1 - (c.args.size + 1) in
    let e : most_locations + 1 - c.args.size ≡ suc m = omega (arith, lt) in
    c.renumber.ensures
    ∙ step_on c.args.bottom c.args.size (most_locations + 1 - c.args.size) m c.args.devices.now.items c.set_place-upper.new.devices.items
    c.args.device.0 c.in-Some.next e
    (sym c.set_place-upper.ensures.upper ∙ c.in-Some.is) c.set_place-upper.ensures.set

pub returns-in_default : goal.returns-in_default
returns-in_default t c =
    let lt = c.if-size-lt-MOST_IN_STACK.true in
    let m = most_locations + 1 - (c.args.size + 1) in
    let e : most_locations + 1 - c.args.size ≡ suc m = omega (arith, lt) in
    step_end c.args.bottom c.args.size (most_locations + 1 - c.args.size) m c.args.devices.now.items c.set_place-upper.new.devices.items
    c.args.device.0 e
    (sym c.set_place-upper.ensures.upper ∙ c.in_default.is) c.set_place-upper.ensures.set

pub returns-else-size-lt-MOST_IN_STACK : goal.returns-else-size-lt-MOST_IN_STACK
returns-else-size-lt-MOST_IN_STACK t c =
    let e : most_locations + 1 - c.args.size ≡ 1 = omega (arith, c.if-size-lt-MOST_IN_STACK.false, c.requires.few) in
    step_short c.args.bottom c.args.size (most_locations + 1 - c.args.size) c.args.devices.now.items c.set_place-upper.new.devices.items
    c.args.device.0 e c.set_place-upper.ensures.set
