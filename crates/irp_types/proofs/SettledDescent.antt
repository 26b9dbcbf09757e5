-- The list of an entry settles the packet that a descent leaves.
use Rattle.std.proofs.Common.{◌≡◌, ℕ, ◌+◌, ◌-◌, ◌≤◌, List, take, reverse, sym, ◌∙◌, ap, subst, arith, inl, inr, Option, Some, None}
use Rattle.std.specs.Prelude.{slice_index_or}
use Rattle.std.proofs.lemmas.Bool.{cases_lt}
use Rattle.std.proofs.lemmas.List.{ext_get_or}
use Rattle.irp_types.specs.Status.{invalid_device_request}
use Rattle.irp_types.specs.Packet.{PacketValue, location_at, cleared, with_status}
use Rattle.irp_types.specs.Unwinding.{Asking}
use Rattle.irp_types.specs.Stacks.{DevicesValue, stack_of, stack_size_of}
use Rattle.irp_types.specs.State.{Tables}
use Rattle.irp_types.specs.Descent.{Frame, first_location, last_frame, PassedDown, Ends, Descended}
use Rattle.irp_types.specs.declared.status.Status.{Status}
use Rattle.irp_types.specs.declared.names.IrpRef.{IrpRef}
use Rattle.irp_types.specs.declared.location.Preparation.TheVariants.{Nothing}
use Rattle.irp_types.specs.declared.answer.Plan.{Plan}
use Rattle.irp_types.specs.declared.answer.Plan.TheVariants.{Finish, Hold, HoldSlot, Skip, Forward, ForwardPend}
use Rattle.irp_types.specs.declared.asked.Asked.{Asked}
use Rattle.irp_types.proofs.SettledUnwinding.{same_askings, same_unwound}
use Rattle.irp_types.proofs.SettledFrames.{AreRun, AreAlike, same_frames}

-- a location of the packet that the frames have reached
same_location : (packet : PacketValue) (frames : List Frame) (one two : PacketValue) → PassedDown packet frames one → PassedDown packet frames two
    → (number : ℕ) → 1 ≤ number → location_at one number ≡ location_at two number
same_location packet frames one two first second number some =
    elim (cases_lt number (last_frame frames).location) as (λ _. location_at one number ≡ location_at two number) [
      | inl low ↦ first.below number some low ∙ sym (second.below number some low)
      | inr not_low ↦
          elim (cases_lt (first_location packet) number) as (λ _. location_at one number ≡ location_at two number) [
            | inl high ↦ first.above number high ∙ sym (second.above number high)
            | inr not_high ↦ first.used number (omega arith) (omega arith) ∙ sym (second.used number (omega arith) (omega arith))
          ]
    ]

same_reached : (packet : PacketValue) (frames : List Frame) (one two : PacketValue) → PassedDown packet frames one → PassedDown packet frames two → one ≡ two
same_reached packet frames one two first second =
    let locations : one.locations ≡ two.locations = ext_get_or cleared one.locations two.locations (first.size ∙ sym second.size) (λ place within.
    let number : (place + 1) - 1 ≡ place = omega arith in
    sym (ap (λ at. slice_index_or one.locations at cleared) number)
    ∙ same_location packet frames one two first second (place + 1) (omega arith)
    ∙ ap (λ at. slice_index_or two.locations at cleared) number) in
    first.others
    ∙ (λ i. record packet { locations = locations i; current = (last_frame frames).location; preparation = Nothing })
    ∙ sym second.others

same_end : (irp : IrpRef) (last : Frame) (reached : PacketValue) (plan : Option Plan) (one two : List Asking) (new other : PacketValue) → one ≡ two
    → Ends irp last reached one new plan → Ends irp last reached two other plan → new ≡ other
same_end irp last reached None one two new other same first second =
    same_unwound irp (with_status reached invalid_device_request 0) new other one two same first second
same_end irp last reached (Some (Finish status information)) one two new other same first second =
    same_unwound irp (with_status reached status information) new other one two same first second
same_end irp last reached (Some (Hold cancel)) one two new other same first second = first.1 ∙ sym second.1
same_end irp last reached (Some HoldSlot) one two new other same first second = first.1 ∙ sym second.1
same_end irp last reached (Some Skip) one two new other same first second = absurd first
same_end irp last reached (Some (Forward set)) one two new other same first second = absurd first
same_end irp last reached (Some (ForwardPend set)) one two new other same first second = absurd first

pub same_descent : (tables : Tables) (irp : IrpRef) (devices : DevicesValue) (old : PacketValue) (target : ℕ) (asked : List Asked) (new other : PacketValue) (status another : Status)
    → Descended tables irp devices old target asked new status → Descended tables irp devices old target asked other another → new ≡ other
same_descent tables irp devices old target asked new other status another first second =
    let down : List ℕ = reverse (take (stack_size_of devices target) (stack_of devices target)) in
    let run_one : AreRun tables irp devices old down (first_location old) first.frames = record {
      some = first.right.some;
      devices_are = first.right.devices_are;
      placed = first.right.locations;
      passing = first.right.down;
      stops = first.right.stops;
      planned = first.right.planned;
    } in
    let run_two : AreRun tables irp devices old down (first_location old) second.frames = record {
      some = second.right.some;
      devices_are = second.right.devices_are;
      placed = second.right.locations;
      passing = second.right.down;
      stops = second.right.stops;
      planned = second.right.planned;
    } in
    let alike : AreAlike tables irp devices old down (first_location old) first.frames second.frames first.unwinding second.unwinding =
    record { run_one = run_one; run_two = run_two; listed = sym first.listed ∙ second.listed } in
    let settled = same_frames tables irp devices old down (first_location old) first.frames second.frames first.unwinding second.unwinding alike in
    let frames : second.frames ≡ first.frames = sym settled.0 in
    let unwinding : first.unwinding ≡ second.unwinding = same_askings first.unwinding second.unwinding settled.1 in
    let passed : PassedDown old first.frames second.reached = subst (λ given. PassedDown old given second.reached) frames second.passed in
    let reached : second.reached ≡ first.reached = same_reached old first.frames second.reached first.reached passed first.passed in
    let ended : Ends irp (last_frame first.frames) first.reached second.unwinding other (last_frame first.frames).plan =
    subst (λ (given : List Frame × PacketValue). Ends irp (last_frame given.0) given.1 second.unwinding other (last_frame given.0).plan) (λ i. (frames i, reached i)) second.ended in
    same_end irp (last_frame first.frames) first.reached (last_frame first.frames).plan first.unwinding second.unwinding new other unwinding first.ended ended
