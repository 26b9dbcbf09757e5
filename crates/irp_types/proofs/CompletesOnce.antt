-- Each use of a packet is completed at most once: once it was, it is never open again.
use Rattle.std.proofs.Common.{◌≡◌, ℕ, ◌+◌, ◌-◌, ◌<◌, ◌≤◌, zero, suc, Bool, true, false, cond, ◌&&◌, List, ◌∷◌, length, filter, Some, refl, sym, ◌∙◌, ap, subst, arith}
use Rattle.std.specs.List.{range_with_len}
use Rattle.std.specs.Ordering.{nat_cmp}
use Rattle.std.proofs.lemmas.Bool.{and_parts, false≢true}
use Rattle.std.proofs.lemmas.Option.{none-some, same_Some}
use Rattle.std.specs.FinMap as fin
use Rattle.irp_types.specs.State.{StateValue, LivePacket, Fixed, live_at, opening_state}
use Rattle.irp_types.specs.Refusals.{has_ended}
use Rattle.irp_types.specs.Histories.{LeadsThrough, is_open, is_ended, HistoryCompletesOnce, LegalCompletesOnce}
use Rattle.irp_types.specs.declared.entry.Entry.{Entry}
use Rattle.irp_types.proofs.FoundUses.{open_use, ended_use}
use Rattle.irp_types.proofs.StatesByNumber.{state_at, opens_at, entry_before, follows_at}
use Rattle.irp_types.proofs.UsesOverSteps.{AreUses, IsOver, UsesGoOn, over_step, uses_over, over_goes_on}

-- a test that no number of a range passes
none_pass : (test : ℕ → Bool) (first count : ℕ) → ((number : ℕ) → first ≤ number → number < first + count → test number ≡ true → ⊥) → length (filter test (range_with_len first count)) ≡ 0
none_pass test first zero none = refl
none_pass test first (suc count) none =
    elim (test first) as (λ passes. test first ≡ passes → length (cond passes (first ∷ filter test (range_with_len (first + 1) count)) (filter test (range_with_len (first + 1) count))) ≡ 0) [
      | true ↦ λ is. absurd (none first (omega arith) (omega arith) is)
      | false ↦ λ is. none_pass test (first + 1) count (λ number from to. none number (omega (arith, from)) (omega (arith, to)))
    ] refl

-- a test that no two numbers of a range pass
one_passes : (test : ℕ → Bool) (first count : ℕ)
    → ((one two : ℕ) → first ≤ one → one < two → two < first + count → test one ≡ true → test two ≡ true → ⊥)
    → length (filter test (range_with_len first count)) ≤ 1
one_passes test first zero apart = omega arith
one_passes test first (suc count) apart =
    elim (test first) as (λ passes. test first ≡ passes → length (cond passes (first ∷ filter test (range_with_len (first + 1) count)) (filter test (range_with_len (first + 1) count))) ≤ 1) [
      | true ↦ λ is.
          let behind = none_pass test (first + 1) count (λ number from to. apart first number (omega arith) (omega (arith, from)) (omega (arith, to)) is) in
          omega (arith, behind)
      | false ↦ λ is. one_passes test (first + 1) count (λ one two from rises to. apart one two (omega (arith, from)) rises (omega (arith, to)))
    ] refl

-- nothing is live in the opening state
opening_uses : AreUses opening_state
opening_uses = record {
  drawn = λ slot live there. absurd (none-some live (sym (fin.get-empty nat_cmp slot) ∙ there));
  apart = λ slot other live another there elsewhere same. absurd (none-some live (sym (fin.get-empty nat_cmp slot) ∙ there));
}

-- a use whose packet has ended is over
over_from_ended : (state : StateValue) (use_no : ℕ) → AreUses state → is_ended state use_no ≡ true → IsOver use_no state
over_from_ended state use_no uses ended =
    let found = ended_use state use_no ended in
    let below = uses.drawn found.1.0 found.0 found.1.1 in
    let number : found.0.use_no ≡ use_no = found.1.2 in
    record {
      drawn = subst (λ given. given < state.next_use) number below;
      ended = λ slot live there same.
          let slots = uses.apart slot found.1.0 live found.0 there found.1.1 (same ∙ sym number) in
          let one : Some found.0 ≡ Some live = sym found.1.1 ∙ ap (live_at state) (sym slots) ∙ there in
          subst (λ (given : LivePacket). has_ended given.packet.owner ≡ true) (same_Some found.0 live one) found.2;
    }

-- a use that is over is not open
over_not_open : (state : StateValue) (use_no : ℕ) → IsOver use_no state → is_open state use_no ≡ true → ⊥
over_not_open state use_no over unended =
    let found = open_use state use_no unended in
    false≢true (sym found.2 ∙ over.ended found.1.0 found.0 found.1.1 found.1.2)

module _ (fixed : Fixed) (history : List Entry) (states : List StateValue) (leads : LeadsThrough fixed history states) where
  goes_on : (number : ℕ) → number + 1 < length states → UsesGoOn (state_at states number) (state_at states (number + 1))
  goes_on number within =
      let found = entry_before fixed history states leads number within in
      let entry : Entry = found.0 in
      over_step fixed (state_at states number) entry.drained entry.call entry.asked entry.reply (state_at states (number + 1))
      (follows_at fixed history states leads number entry within found.1).step

  uses_at : (number : ℕ) → number < length states → AreUses (state_at states number)
  uses_at zero within = subst AreUses (sym (opens_at fixed history states leads)) opening_uses
  uses_at (suc number) within =
      let next : number + 1 ≡ suc number = omega arith in
      subst (λ given. AreUses (state_at states given)) next
      (uses_over (state_at states number) (state_at states (number + 1)) (goes_on number (omega arith)) (uses_at number (omega arith)))

  over_after : (use_no number more : ℕ) → number + more < length states → IsOver use_no (state_at states number) → IsOver use_no (state_at states (number + more))
  over_after use_no number zero within over = let next : number ≡ number + 0 = omega arith in subst (λ given. IsOver use_no (state_at states given)) next over
  over_after use_no number (suc more) within over =
      let next : number + more + 1 ≡ number + suc more = omega arith in
      subst (λ given. IsOver use_no (state_at states given)) next
      (over_goes_on (state_at states (number + more)) (state_at states (number + more + 1)) (goes_on (number + more) (omega arith)) use_no (over_after use_no number more (omega arith) over))

  abbrev completes : ℕ → ℕ → Bool
  completes use_no number = is_open (state_at states number) use_no && is_ended (state_at states (number + 1)) use_no

  not_twice : (use_no one two : ℕ) → one < two → two < length states - 1 → completes use_no one ≡ true → completes use_no two ≡ true → ⊥
  not_twice use_no one two rises within first second =
      let ended : is_ended (state_at states (one + 1)) use_no ≡ true = (and_parts (is_open (state_at states one) use_no) (is_ended (state_at states (one + 1)) use_no) first).1 in
      let unended : is_open (state_at states two) use_no ≡ true = (and_parts (is_open (state_at states two) use_no) (is_ended (state_at states (two + 1)) use_no) second).0 in
      let over = over_from_ended (state_at states (one + 1)) use_no (uses_at (one + 1) (omega arith)) ended in
      let reached : (one + 1) + (two - (one + 1)) ≡ two = omega arith in
      let still = over_after use_no (one + 1) (two - (one + 1)) (omega arith) over in
      over_not_open (state_at states two) use_no (subst (λ given. IsOver use_no (state_at states given)) reached still) unended

pub completes_once : HistoryCompletesOnce
completes_once fixed history states use_no leads =
    one_passes (completes fixed history states leads use_no) 0 (length states - 1)
    (λ one two from rises to. not_twice fixed history states leads use_no one two rises (omega (arith, to)))

pub legal_completes_once : LegalCompletesOnce
legal_completes_once fixed history legal = (legal.0, legal.1, λ use_no. completes_once fixed history legal.0 use_no legal.1)
