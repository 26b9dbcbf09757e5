-- What has the text of a refusal is that refusal.
use Rattle.std.proofs.Common.{◌≡◌, ℕ, ◌==◌, Bool, true, false, List, [], ◌∷◌, ◌++◌, ap, sym, refl, ◌∙◌, arith, rules, Option, Some, None}
use Rattle.std.specs.Prelude.{codes, if◌then◌else◌}
use Rattle.std.specs.Fmt.{decimal}
use Rattle.std.specs.Option.{option_map_or}
use Rattle.irp_types.specs.Calls.{Call}
use Rattle.irp_types.specs.declared.call.Call.TheVariants as call
use Rattle.irp_types.specs.declared.location.Owner.{Owner}
use Rattle.irp_types.specs.declared.location.Owner.TheVariants as owner
use Rattle.irp_types.specs.declared.names.DeviceId.{DeviceId}
use Rattle.irp_types.specs.declared.names.IrpRef.{IrpRef}
use Rattle.irp_types.specs.declared.refusal.Refusal.{Refusal}
use Rattle.irp_types.specs.declared.reply.Reply.TheVariants as reply
use Rattle.irp_types.specs.declared.status.Status.{Status}
use Rattle.irp_names.specs.Rows.{Row, named}
use Rattle.irp_forms.specs.Found.{refusal_found}
use Rattle.irp_forms.specs.Names.{first_named, refusal_name, refusals}
use Rattle.irp_names.specs.Replies.{RefusalsAreToldApart, answered_device, reply_text}
use Rattle.irp_names.specs.Small.{owner_text, packet_text, wide_hex}
use Rattle.irp_names.specs.Statuses.{status_name, status_rows, status_text}

-- ---- no two refusals have one name

same_refusal : (one other : Refusal) → refusal_name one ≡ refusal_name other → one ≡ other
same_refusal one other same =
    let both : Some one ≡ Some other = sym (refusal_found one) ∙ ap (first_named refusal_name refusals) same ∙ refusal_found other in
    cc (both)

-- ---- how texts begin

-- the first letter of a text
letter : List ℕ → ℕ
letter [] = 0
letter (first ∷ rest) = first

-- the names of a table begin with this letter
Begin : ℕ → List Row → Type 0
Begin at [] = Unit {0}
Begin at (row ∷ rows) = (letter row.1 ≡ at) × Begin at rows

name_begins : (at : ℕ) (rows : List Row) (number : ℕ) (name : List ℕ) → Begin at rows → named rows number ≡ Some name → letter name ≡ at
unfolding Begin
name_begins at [] number name begin is = absurd (cc (is))
name_begins at (row ∷ rows) number name begin is = by (name_begins at rows number name begin.1) (number == row.0) is
  where
    by : (named rows number ≡ Some name → letter name ≡ at) → (b : Bool) → (if b then Some row.1 else named rows number) ≡ Some name → letter name ≡ at
    by rest true is = let same : row.1 ≡ name = cc (is) in ap letter (sym same) ∙ begin.0
    by rest false is = rest is

all_begin : Begin 83 status_rows
unfolding letter Begin
all_begin = search rules

name_letter : (number : ℕ) (name : List ℕ) → status_name number ≡ Some name → letter name ≡ 83
name_letter number name is = name_begins 83 status_rows number name all_begin is

status_letter : (status : Status) → letter (status_text status) ≡ 114 → ⊥
unfolding letter
status_letter status = by (status_name status.0) refl
  where
    by : (name : Option (List ℕ)) → status_name status.0 ≡ name
        → letter (option_map_or (λ (given : List ℕ). given) name (codes "status " ++ wide_hex 8 true status.0)) ≡ 114 → ⊥
    by None is bad = omega (arith, bad)
    by (Some name) is bad = omega (arith, bad, name_letter status.0 name is)

device_letter : (call : Call) (device : DeviceId) → letter (answered_device call device) ≡ 114 → ⊥
unfolding letter
device_letter (call.Attach above to) device bad = omega (arith, bad)
device_letter (call.Detach lower) device bad = omega (arith, bad)
device_letter _ device bad = omega (arith, bad)

packet_letter : (irp : IrpRef) → letter (packet_text irp) ≡ 114 → ⊥
unfolding letter
packet_letter irp = by (irp.slot == 4294967295)
  where
    by : (b : Bool) → letter (if b then codes "IRP of a label that isn't bound" else codes "IRP " ++ (decimal irp.slot ++ (codes "." ++ decimal irp.use_no))) ≡ 114 → ⊥
    by true bad = omega (arith, bad)
    by false bad = omega (arith, bad)

owner_letter : (one : Owner) (rest : List ℕ) → letter (owner_text one ++ rest) ≡ 114 → ⊥
unfolding letter
owner_letter owner.Originator rest bad = omega (arith, bad)
owner_letter (owner.Device device) rest bad = omega (arith, bad)
owner_letter owner.Ended rest bad = omega (arith, bad)

-- the text of a refusal begins with r
refused_letter : (call : Call) (one : Refusal) → letter (reply_text call (reply.Refused one)) ≡ 114
unfolding letter
refused_letter call one = refl

differ : {one other : List ℕ} → one ≡ other → letter other ≡ 114 → (letter one ≡ 114 → ⊥) → ⊥
differ same refused apart = apart (ap letter same ∙ refused)

-- ---- all of them

pub told_apart : RefusalsAreToldApart
unfolding letter
told_apart call another reply.Done refusal same = absurd (differ same (refused_letter another refusal) (λ bad. omega (arith, bad)))
told_apart call another (reply.Device device) refusal same = absurd (differ same (refused_letter another refusal) (device_letter call device))
told_apart call another (reply.Irp irp) refusal same = absurd (differ same (refused_letter another refusal) (packet_letter irp))
told_apart call another (reply.Status status) refusal same = absurd (differ same (refused_letter another refusal) (status_letter status))
told_apart call another (reply.Previous cancel) refusal same = absurd (differ same (refused_letter another refusal) (λ bad. omega (arith, bad)))
told_apart call another (reply.Cancelled true) refusal same = absurd (differ same (refused_letter another refusal) (λ bad. omega (arith, bad)))
told_apart call another (reply.Cancelled false) refusal same = absurd (differ same (refused_letter another refusal) (λ bad. omega (arith, bad)))
told_apart call another (reply.Seen seen) refusal same = absurd (differ same (refused_letter another refusal) (owner_letter seen.owner _))
told_apart call another (reply.Refused given) refusal same =
    let names : refusal_name given ≡ refusal_name refusal = cc (same) in
    ap reply.Refused (same_refusal given refusal names)
