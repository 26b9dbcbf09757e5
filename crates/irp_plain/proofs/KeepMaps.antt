-- A list of places as the map of its live packets.
use Rattle.std.proofs.Common.{ℕ, ◌≡◌, ◌<◌, ◌≤◌, inl, inr, List, [], ◌∷◌, ◌++◌, length, set, get_or, Option, Some, None, ap, sym, ◌∙◌, refl, arith}
use Rattle.std.proofs.lemmas.Bool.{cases_eq, cases_lt}
use Rattle.std.proofs.lemmas.List.{get_or-set_same, get_or-set_other, get_or_append_left, get_or_push, length_push, get_or_read}
use Rattle.std.proofs.Math.ListN.{get_or-eq_default}
use Rattle.std.specs.FinMap as fin
use Rattle.irp_types.specs.State.{LivePacket}
use Rattle.std.specs.Prelude.{OnSome}
use Rattle.irp_manager.specs.Slots.{place_at, live_of}
use Rattle.irp_manager.proofs.SlotMaps.{get-live}
use Rattle.irp_manager.proofs.Maps.{get_removed, get_left, same}

-- nothing stands past the end
nothing_past : (places : List (Option LivePacket)) (slot : ℕ) → length places ≤ slot → place_at places slot ≡ None
nothing_past places slot past = get_or-eq_default places None past

-- a place that is emptied
pub emptied : (places : List (Option LivePacket)) (slot : ℕ) → slot < length places → live_of (set places slot None) ≡ fin.remove (live_of places) slot
emptied places slot below = same _ _ (λ q.
    elim (cases_eq q slot) as (λ _. fin.get (live_of (set places slot None)) q ≡ fin.get (fin.remove (live_of places) slot) q) [
      | inl here ↦
          get-live (set places slot None) q ∙ ap (λ q. place_at (set places slot None) q) here ∙ get_or-set_same places slot None None below
          ∙ sym (get_removed (live_of places) slot) ∙ ap (λ q. fin.get (fin.remove (live_of places) slot) q) (sym here)
      | inr other ↦
          get-live (set places slot None) q ∙ get_or-set_other places slot q None None other ∙ sym (get-live places q) ∙ sym (get_left (live_of places) slot q other)
    ])

-- a slot past the end has no packet to be taken away
pub none_emptied : (places : List (Option LivePacket)) (slot : ℕ) → length places ≤ slot → live_of places ≡ fin.remove (live_of places) slot
none_emptied places slot past = same _ _ (λ q.
    elim (cases_eq q slot) as (λ _. fin.get (live_of places) q ≡ fin.get (fin.remove (live_of places) slot) q) [
      | inl here ↦
          get-live places q ∙ ap (place_at places) here ∙ nothing_past places slot past
          ∙ sym (get_removed (live_of places) slot) ∙ ap (λ q. fin.get (fin.remove (live_of places) slot) q) (sym here)
      | inr other ↦ sym (get_left (live_of places) slot q other)
    ])

-- what stands at a place, seen as the map
pub found_at : (places value : List (Option LivePacket)) → places ≡ value → (slot : ℕ) (place : Option LivePacket) → slot < length places → place ≡ get_or places slot place
    → place ≡ fin.get (live_of value) slot
found_at places value same slot place below read =
    get_or_read places slot place below read None ∙ sym (get-live places slot) ∙ ap (λ (places : List (Option LivePacket)). fin.get (live_of places) slot) same

pub none_at : (places value : List (Option LivePacket)) → places ≡ value → (slot : ℕ) → length places ≤ slot → None ≡ fin.get (live_of value) slot
none_at places value same slot past =
    sym (nothing_past places slot past) ∙ sym (get-live places slot) ∙ ap (λ (places : List (Option LivePacket)). fin.get (live_of places) slot) same

-- a vacant place at the end changes no packet
pub grown : (places : List (Option LivePacket)) → live_of (places ++ None ∷ []) ≡ live_of places
grown places = same _ _ (λ q. get-live (places ++ None ∷ []) q ∙ at q ∙ sym (get-live places q))
  where
    at : (q : ℕ) → place_at (places ++ None ∷ []) q ≡ place_at places q
    at q = elim (cases_lt q (length places)) as (λ _. place_at (places ++ None ∷ []) q ≡ place_at places q) [
      | inl below ↦ get_or_append_left places (None ∷ []) None q below
      | inr above ↦ elim (cases_eq q (length places)) as (λ _. place_at (places ++ None ∷ []) q ≡ place_at places q) [
        | inl here ↦ get_or_push places None None q (sym here) ∙ sym (nothing_past places q above)
        | inr other ↦
            nothing_past (places ++ None ∷ []) q (omega (arith, above, other, length_push places None)) ∙ sym (nothing_past places q above)
      ]
    ]

-- the slot behind all others isn't live
pub vacant_end : (places : List (Option LivePacket)) → fin.get (live_of places) (length places) ≡ None
vacant_end places = get-live places (length places) ∙ nothing_past places (length places) (omega arith)

-- a fact that holds anyway
pub on_some : {X : Type 0} (result : Option X) (P : Type 0) → P → OnSome result P
on_some None P holds = tt
on_some (Some x) P holds = holds

-- what stands at a place, seen as the value
pub seen_at : (places value : List (Option LivePacket)) → places ≡ value → (slot : ℕ) (place : Option LivePacket) → slot < length places → place ≡ get_or places slot place
    → place ≡ place_at value slot
seen_at places value same slot place below read =
    get_or_read places slot place below read None ∙ ap (λ (places : List (Option LivePacket)). place_at places slot) same

-- a packet stands within the places
pub some_within : (places : List (Option LivePacket)) (slot : ℕ) (live : LivePacket) → place_at places slot ≡ Some live → slot < length places
some_within places slot live there =
    elim (cases_lt slot (length places)) as (λ _. slot < length places) [
      | inl within ↦ within
      | inr past ↦ (let never : None ≡ Some live = sym (nothing_past places slot past) ∙ there in absurd (let no : ⊥ = cc in no))
    ]

-- places that have the same in each slot below both their ends are the same map
pub same_places : (one other : List (Option LivePacket)) (past : ℕ) → length one ≤ past → length other ≤ past
    → ((slot : ℕ) → slot < past → fin.get (live_of one) slot ≡ fin.get (live_of other) slot) → live_of one ≡ live_of other
same_places one other past one_ends other_ends reads = same _ _ (λ q.
    elim (cases_lt q past) as (λ _. fin.get (live_of one) q ≡ fin.get (live_of other) q) [
      | inl below ↦ reads q below
      | inr above ↦ sym (none_at one one refl q (omega arith)) ∙ none_at other other refl q (omega arith)
    ])
