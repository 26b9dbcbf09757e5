-- The kinds of plans, by their names.
use Rattle.std.specs.Prelude.{ℕ, codes, get_or, List, [], ◌∷◌, map, Option}
use Rattle.std.specs.List.{find, slice_get}
use Rattle.std.specs.Option.{option_map}
use Rattle.std.proofs.Common.{bytes_eq}
use Rattle.irp_forms.specs.declared.key_parts.Part.{Part}
use Rattle.irp_forms.specs.declared.key_parts.Part.TheVariants as part
use Rattle.irp_names.specs.declared.plan_kinds.PlanKind.{PlanKind}
use Rattle.irp_names.specs.declared.plan_kinds.PlanKind.TheVariants as kind

-- what the first row with this name has
abbrev pub under : List ℕ → List (List ℕ × PlanKind) → Option PlanKind
under word rows = option_map (λ row. row.1) (find (λ row. bytes_eq word row.0) rows)

-- each kind under its name
unfoldable pub plan_rows : List (List ℕ × PlanKind)
plan_rows =
    (codes "finish", kind.Finish)
    ∷ (codes "hold", kind.Hold)
    ∷ (codes "hold_slot", kind.HoldSlot)
    ∷ (codes "skip", kind.Skip)
    ∷ (codes "forward", kind.Forward)
    ∷ (codes "forward_pend", kind.ForwardPend)
    ∷ []

-- what follows each name, in the order of the kinds
unfoldable pub plan_parts : List (List Part)
plan_parts =
    (part.Status ∷ part.Information ∷ [])
    ∷ (part.CancelOrEnd ∷ [])
    ∷ []
    ∷ []
    ∷ (part.SettingOrEnd ∷ [])
    ∷ (part.SettingOrEnd ∷ [])
    ∷ []

-- the place of a kind's row
abbrev pub plan_place : PlanKind → ℕ
plan_place kind.Finish = 0
plan_place kind.Hold = 1
plan_place kind.HoldSlot = 2
plan_place kind.Skip = 3
plan_place kind.Forward = 4
plan_place kind.ForwardPend = 5

-- its name, and what follows that
unfoldable pub plan_word : PlanKind → List ℕ
plan_word one = get_or (map (λ row. row.0) plan_rows) (plan_place one) []

unfoldable pub parts_of : PlanKind → List Part
parts_of one = get_or plan_parts (plan_place one) []

-- the kind at a place of these rows, and of all
abbrev pub placed : ℕ → List (List ℕ × PlanKind) → Option PlanKind
placed place rows = option_map (λ row. row.1) (slice_get rows place)

unfoldable pub kind_at : ℕ → Option PlanKind
kind_at place = placed place plan_rows

-- the kind that a name names
unfoldable pub kind_named : List ℕ → Option PlanKind
kind_named word = under word plan_rows
