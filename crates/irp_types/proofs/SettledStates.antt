-- A history settles the states that it leads through.
use Rattle.std.proofs.Common.{◌≡◌, ℕ, ◌+◌, ◌<◌, zero, suc, List, length, sym, ◌∙◌, subst, arith, ext_get_or}
use Rattle.irp_types.specs.State.{StateValue, Fixed, opening_state}
use Rattle.irp_types.specs.Histories.{IsEntryAt, LeadsThrough, HistorySettlesStates}
use Rattle.irp_types.specs.declared.entry.Entry.{Entry}
use Rattle.irp_types.proofs.SettledSteps.{entry_settles_next_state}
use Rattle.irp_types.proofs.StatesByNumber.{state_at, opens_at, entry_before, follows_at}

module _ (fixed : Fixed) (history : List Entry) (states others : List StateValue) (one : LeadsThrough fixed history states) (two : LeadsThrough fixed history others) where
  lengths : length states ≡ length others
  lengths = let first = one.longer in let second = two.longer in omega (arith, first, second)

  same_next : (number : ℕ) → number + 1 < length states → state_at states number ≡ state_at others number → state_at states (number + 1) ≡ state_at others (number + 1)
  same_next number within same =
      let found = entry_before fixed history states one number within in
      let entry : Entry = found.0 in
      entry_settles_next_state fixed number (state_at others number) entry (state_at states (number + 1)) (state_at others (number + 1))
      (subst (λ old. IsEntryAt fixed number old entry (state_at states (number + 1))) same (follows_at fixed history states one number entry within found.1))
      (follows_at fixed history others two number entry (omega (arith, within, lengths)) found.1)

  same_at : (number : ℕ) → number < length states → state_at states number ≡ state_at others number
  same_at zero within = opens_at fixed history states one ∙ sym (opens_at fixed history others two)
  same_at (suc number) within =
      let next : number + 1 ≡ suc number = omega arith in
      subst (λ given. state_at states given ≡ state_at others given) next (same_next number (omega arith) (same_at number (omega arith)))

  same_states : states ≡ others
  same_states = ext_get_or opening_state states others lengths same_at

pub history_settles_states : HistorySettlesStates
history_settles_states fixed history states others one two = same_states fixed history states others one two
