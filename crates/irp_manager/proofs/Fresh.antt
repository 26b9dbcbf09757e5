-- The standing facts once a packet or a device was made.
use Rattle.std.proofs.Common.{◌≡◌, ℕ, ◌+◌, ◌<◌, ◌≤◌, true, false, refl, List, [], ◌∷◌, Option, None, Some, sym, ◌∙◌, ap, subst, arith, ◌⊎◌, inl, inr}
use Rattle.std.proofs.lemmas.Bool.{cases_eq}
use Rattle.std.proofs.lemmas.Option.{same_Some, none-some}
use Rattle.std.specs.FinMap as fin
use Rattle.irp_types.specs.Checks.{Check, first_failing, or_else}
use Rattle.irp_types.specs.Packet.{PacketValue}
use Rattle.irp_types.specs.Stacks.{DevicesValue, AreStacks}
use Rattle.irp_types.specs.State.{StateValue, LivePacket, live_at}
use Rattle.irp_types.specs.Steps.{with_new_packet}
use Rattle.irp_types.specs.Standing.{IsSound, StandingFacts}
use Rattle.irp_types.specs.declared.routine.Known.{Known}
use Rattle.irp_types.specs.declared.refusal.Refusal.{Refusal}
use Rattle.irp_manager.proofs.Maps.{get_inserted, get_kept, get_removed, get_left}

-- a live packet is the new one, or stood before
new_or_old : (state : StateValue) (slot : ℕ) (packet : PacketValue) (other : ℕ) (there : LivePacket) → live_at (with_new_packet state slot packet) other ≡ Some there
    → ((other ≡ slot) × (there ≡ record { packet = packet; use_no = state.next_use })) ⊎ (live_at state other ≡ Some there)
new_or_old state slot packet other there at =
    let new : LivePacket = record { packet = packet; use_no = state.next_use } in
    elim (cases_eq other slot) as (λ _. ((other ≡ slot) × (there ≡ new)) ⊎ (live_at state other ≡ Some there)) [
      | inl is ↦
          let same : Some there ≡ Some new = sym at ∙ ap (fin.get (fin.insert state.live slot new)) is ∙ get_inserted state.live slot new in
          inl (is, same_Some there new same)
      | inr apart ↦ inr (sym (get_kept state.live slot new other apart) ∙ at)
    ]

pub stands_new : (counts : Known) (state : StateValue) (slot : ℕ) (packet : PacketValue) → IsSound counts packet → StandingFacts counts state → StandingFacts counts (with_new_packet state slot packet)
stands_new counts state slot packet sound stands = record {
  packets = λ other there at. elim (new_or_old state slot packet other there at) as (λ _. IsSound counts there.packet) [
    | inl new ↦ subst (λ (live : LivePacket). IsSound counts live.packet) (sym new.1) sound
    | inr old ↦ stands.packets other there old
  ];
  counter = omega arith;
  positive = λ other there at. elim (new_or_old state slot packet other there at) as (λ _. 1 ≤ there.use_no) [
    | inl new ↦ subst (λ (live : LivePacket). 1 ≤ live.use_no) (sym new.1) stands.counter
    | inr old ↦ stands.positive other there old
  ];
  drawn = λ other there at. elim (new_or_old state slot packet other there at) as (λ _. there.use_no < state.next_use + 1) [
    | inl new ↦ subst (λ (live : LivePacket). live.use_no < state.next_use + 1) (sym new.1) (omega arith)
    | inr old ↦ let drawn = stands.drawn other there old in omega (arith, drawn)
  ];
  apart = λ one two first second at_one at_two same.
      elim (new_or_old state slot packet one first at_one) as (λ _. one ≡ two) [
        | inl new_one ↦ elim (new_or_old state slot packet two second at_two) as (λ _. one ≡ two) [
          | inl new_two ↦ new_one.0 ∙ sym new_two.0
          | inr old_two ↦
              let drawn = stands.drawn two second old_two in
              let number : first.use_no ≡ state.next_use = ap (λ (live : LivePacket). live.use_no) new_one.1 in
              absurd (omega (arith, drawn, number, same))
        ]
        | inr old_one ↦ elim (new_or_old state slot packet two second at_two) as (λ _. one ≡ two) [
          | inl new_two ↦
              let drawn = stands.drawn one first old_one in
              let number : second.use_no ≡ state.next_use = ap (λ (live : LivePacket). live.use_no) new_two.1 in
              absurd (omega (arith, drawn, number, same))
          | inr old_two ↦ stands.apart one two first second old_one old_two same
        ]
      ];
  stacks = stands.stacks;
}

pub stands_devices : (counts : Known) (state : StateValue) (devices : DevicesValue) → AreStacks devices → StandingFacts counts state → StandingFacts counts (record state { devices = devices })
stands_devices counts state devices stacks stands = record {
  packets = stands.packets;
  counter = stands.counter;
  positive = stands.positive;
  drawn = stands.drawn;
  apart = stands.apart;
  stacks = stacks;
}

-- which packet stood at a slot before one was taken out
stood_before : (state : StateValue) (slot other : ℕ) (there : LivePacket) → fin.get (fin.remove state.live slot) other ≡ Some there → live_at state other ≡ Some there
stood_before state slot other there at =
    elim (cases_eq other slot) as (λ _. live_at state other ≡ Some there) [
      | inl is ↦ absurd (none-some there (sym (get_removed state.live slot) ∙ ap (fin.get (fin.remove state.live slot)) (sym is) ∙ at))
      | inr apart ↦ sym (get_left state.live slot other apart) ∙ at
    ]

pub stands_without : (counts : Known) (state : StateValue) (slot : ℕ) → StandingFacts counts state → StandingFacts counts (record state { live = fin.remove state.live slot })
stands_without counts state slot stands = record {
  packets = λ other there at. stands.packets other there (stood_before state slot other there at);
  counter = stands.counter;
  positive = λ other there at. stands.positive other there (stood_before state slot other there at);
  drawn = λ other there at. stands.drawn other there (stood_before state slot other there at);
  apart = λ one two first second at_one at_two same. stands.apart one two first second (stood_before state slot one first at_one) (stood_before state slot two second at_two) same;
  stacks = stands.stacks;
}

-- the checks of a reuse, one after the other
pub reuse_checks : (named : Option Refusal) (flight : Check) (later : List Check) → or_else named (first_failing (flight ∷ later)) ≡ or_else (or_else named (first_failing (flight ∷ []))) (first_failing later)
reuse_checks (Some refusal) flight later = refl
reuse_checks None (true, refusal) later = refl
reuse_checks None (false, refusal) later = refl
