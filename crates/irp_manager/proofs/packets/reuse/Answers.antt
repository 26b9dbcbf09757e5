use Rattle.std.proofs.Common.{◌≡◌, Bool, true, false, [], ◌∷◌, Option, sym, ◌∙◌, ap, arith}
use Rattle.std.specs.Prelude.{nat_le, Some}
use Rattle.irp_types.specs.Limits.{use_limit}
use Rattle.irp_types.specs.Checks.{Check, first_failing, or_else}
use Rattle.irp_types.specs.Refusals.{flight_check}
use Rattle.irp_types.specs.declared.refusal.Refusal.{Refusal}
use Rattle.irp_types.specs.declared.refusal.Refusal.TheVariants.{Full}
use Rattle.irp_manager.specs.Calls.{packet_refusal_in}
use Rattle.irp_manager.proofs.Fresh.{reuse_checks}
use Rattle.irp_manager.proofs.packets.reuse.Goals as goal

pub returns-in-Some-clause-refusal : goal.returns-in-Some-clause-refusal
returns-in-Some-clause-refusal c =
    let live = c.args.live.now in
    let later : Check = (nat_le use_limit c.args.use_no, Full) in
    sym (reuse_checks (packet_refusal_in (Some live) c.args.irp) (flight_check live.packet) (later ∷ [])
    ∙ ap (λ (given : Option Refusal). or_else given (first_failing (later ∷ []))) (sym c.flight_refusal.ensures ∙ c.in-Some.is))

pub returns-then-use_no-ge-USE_LIMIT-clause-refusal : goal.returns-then-use_no-ge-USE_LIMIT-clause-refusal
returns-then-use_no-ge-USE_LIMIT-clause-refusal c =
    let live = c.args.live.now in
    let later : Check = (nat_le use_limit c.args.use_no, Full) in
    let past : nat_le use_limit c.args.use_no ≡ true = grind (arith, c.if-use_no-ge-USE_LIMIT.true) in
    sym (reuse_checks (packet_refusal_in (Some live) c.args.irp) (flight_check live.packet) (later ∷ [])
    ∙ ap (λ (given : Option Refusal). or_else given (first_failing (later ∷ []))) (sym c.flight_refusal.ensures ∙ c.in_default.is)
    ∙ ap (λ (fails : Bool). first_failing ((fails, Full) ∷ [])) past)

pub returns-clause-refusal : goal.returns-clause-refusal
returns-clause-refusal c =
    let live = c.args.live.now in
    let later : Check = (nat_le use_limit c.args.use_no, Full) in
    let left : nat_le use_limit c.args.use_no ≡ false = grind (arith, c.if-use_no-ge-USE_LIMIT.false) in
    sym (reuse_checks (packet_refusal_in (Some live) c.args.irp) (flight_check live.packet) (later ∷ [])
    ∙ ap (λ (given : Option Refusal). or_else given (first_failing (later ∷ []))) (sym c.flight_refusal.ensures ∙ c.in_default.is)
    ∙ ap (λ (fails : Bool). first_failing ((fails, Full) ∷ [])) left)
