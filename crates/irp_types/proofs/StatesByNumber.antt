-- The states that a history leads through, by number.
use Rattle.std.proofs.Common.{◌≡◌, ℕ, ◌+◌, ◌<◌, List, length, get_or, Some, arith, inl, inr}
use Rattle.std.specs.Prelude.{slice_get}
use Rattle.std.proofs.lemmas.Option.{slice_get_cases, slice_get-get_or, get_or_from_slice_get}
use Rattle.irp_types.specs.State.{StateValue, Fixed, opening_state}
use Rattle.irp_types.specs.Histories.{IsEntryAt, LeadsThrough}
use Rattle.irp_types.specs.declared.entry.Entry.{Entry}

-- the state of a number; the opening state past the last
abbrev pub state_at : List StateValue → ℕ → StateValue
state_at states number = get_or states number opening_state

module _ (fixed : Fixed) (history : List Entry) (states : List StateValue) (leads : LeadsThrough fixed history states) where
  longer : length states ≡ length history + 1
  longer = leads.longer

  pub opens_at : state_at states 0 ≡ opening_state
  opens_at = get_or_from_slice_get states 0 opening_state opening_state leads.opens

  -- before each state but the first there is an entry
  pub entry_before : (number : ℕ) → number + 1 < length states → (entry : Entry) × (slice_get history number ≡ Some entry)
  entry_before number within =
      elim (slice_get_cases history number).1 as (λ _. (entry : Entry) × (slice_get history number ≡ Some entry)) [
        | inl found ↦ (found.0, found.2)
        | inr past ↦ let beyond = past.0 in absurd (omega (arith, beyond, within, longer))
      ]

  pub follows_at : (number : ℕ) (entry : Entry) → number + 1 < length states → slice_get history number ≡ Some entry → IsEntryAt fixed number (state_at states number) entry (state_at states (number + 1))
  follows_at number entry within there =
      leads.follows number entry (state_at states number) (state_at states (number + 1)) there
      (slice_get-get_or states number opening_state (omega (arith, within)))
      (slice_get-get_or states (number + 1) opening_state within)
