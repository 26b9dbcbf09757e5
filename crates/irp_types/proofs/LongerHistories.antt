-- A history that is one entry longer.
use Rattle.std.proofs.Common.{◌≡◌, ℕ, ◌+◌, ◌<◌, List, [], ◌∷◌, ◌++◌, length, inl, inr, sym, ap, ◌∙◌, subst, arith, length-append}
use Rattle.std.specs.Prelude.{slice_get, Option, Some}
use Rattle.irp_types.specs.State.{StateValue, Fixed, opening_state}
use Rattle.irp_types.specs.Histories.{IsEntryAt, LeadsThrough, HistoryGoesOn}
use Rattle.irp_types.specs.declared.entry.Entry.{Entry}
use Rattle.irp_types.proofs.LongerLists.{get_front, get_last, front_or_last}

same_item : {X : Type 0} (item other : X) (found : Option X) → found ≡ Some item → found ≡ Some other → item ≡ other
same_item item other found one two = cc

-- the added entry, at the last place
entry_at_end : (fixed : Fixed) (end number : ℕ) (last old : StateValue) (added entry : Entry) (next new : StateValue)
    → number ≡ end → last ≡ old → added ≡ entry → next ≡ new → IsEntryAt fixed end last added next → IsEntryAt fixed number old entry new
entry_at_end fixed end number last old added entry next new place from is to holds =
    subst (λ (all : ℕ × StateValue × Entry × StateValue). IsEntryAt fixed all.0 all.1 all.2 all.3) (λ i. (sym place i, from i, is i, to i)) holds

entry_in_longer : (fixed : Fixed) (history : List Entry) (states : List StateValue) (last : StateValue) (added : Entry) (next : StateValue)
    → LeadsThrough fixed history states
    → slice_get states (length history) ≡ Some last
    → IsEntryAt fixed (length history) last added next
    → (number : ℕ) (entry : Entry) (old new : StateValue)
    → slice_get (history ++ added ∷ []) number ≡ Some entry
    → slice_get (states ++ next ∷ []) number ≡ Some old
    → slice_get (states ++ next ∷ []) (number + 1) ≡ Some new
    → IsEntryAt fixed number old entry new
entry_in_longer fixed history states last added next leads ends holds number entry old new at_entry at_old at_new =
    let longer : length states ≡ length history + 1 = leads.longer in
    elim (front_or_last history added number entry at_entry) [
      | inl within ↦
          let below : number < length history = within.0 in
          elim (front_or_last states next number old at_old) [
            | inl old_in ↦
                elim (front_or_last states next (number + 1) new at_new) [
                  | inl new_in ↦ leads.follows number entry old new within.1 old_in.1 new_in.1
                  | inr new_past ↦ let past : number + 1 ≡ length states = new_past.0 in absurd (omega arith)
                ]
            | inr old_past ↦ let past : number ≡ length states = old_past.0 in absurd (omega arith)
          ]
      | inr last_one ↦
          let end : number ≡ length history = last_one.0 in
          elim (front_or_last states next number old at_old) [
            | inl old_in ↦
                elim (front_or_last states next (number + 1) new at_new) [
                  | inl new_in ↦ let past : number + 1 < length states = new_in.0 in absurd (omega arith)
                  | inr new_past ↦
                      let from : last ≡ old = same_item last old (slice_get states (length history)) ends (ap (slice_get states) (sym end) ∙ old_in.1) in
                      entry_at_end fixed (length history) number last old added entry next new end from last_one.1 new_past.1 holds
                ]
            | inr old_past ↦ let past : number ≡ length states = old_past.0 in absurd (omega arith)
          ]
    ]

pub history_goes_on : HistoryGoesOn
history_goes_on fixed history old entry new leads holds =
    let states = leads.0 in
    let longer : length states ≡ length history + 1 = leads.1.longer in
    let more_entries = length-append history (entry ∷ []) in
    let end : length (history ++ entry ∷ []) ≡ length states = omega (arith, longer, more_entries) in (
      states ++ new ∷ [],
      record {
        longer = omega (arith, longer, length-append states (new ∷ []), more_entries);
        opens = get_front states (new ∷ []) 0 opening_state leads.1.opens;
        follows = entry_in_longer fixed history states old entry new leads.1 leads.2 holds;
      },
      ap (slice_get (states ++ new ∷ [])) end ∙ get_last states new,
    )
