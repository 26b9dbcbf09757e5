-- The calls of a history that are refused.
use Rattle.std.specs.Prelude.{ℕ, ◌≡◌, ◌==◌, ◌+◌, ◌-◌, List, [], ◌∷◌, ◌++◌, codes, length, take, Option, None, Some, if◌then◌else◌}
use Rattle.std.specs.Fmt.{decimal}
use Rattle.std.specs.List.{flat_map}
use Rattle.irp_types.specs.declared.entry.Entry.{Entry}
use Rattle.irp_types.specs.declared.refusal.Refusal.{Refusal}
use Rattle.irp_names.specs.Refusals.{refusal_name}
use Rattle.irp_judge.specs.Differences.{refusal_in}
use Rattle.irp_listing.specs.Lines.{line_of}
use Rattle.irp_view.specs.declared.refused_calls.RefusedCalls.{RefusedCalls}

-- the place of an entry, and how its call is refused; nothing where it isn't
abbrev pub refused_at : ℕ → Option Refusal → List (ℕ × Refusal)
refused_at place None = []
refused_at place (Some refusal) = (place, refusal) ∷ []

-- the same of all of these entries, in order, where the first stands at this place
abbrev pub refused_from : ℕ → List Entry → List (ℕ × Refusal)
refused_from place [] = []
refused_from place (entry ∷ entries) = refused_at place (refusal_in entry.reply) ++ refused_from (place + 1) entries

-- as many of them as are told, and kept
abbrev pub most_told : ℕ
most_told = 10

-- these entries came, their refused calls were counted, and the first ones kept
pub record HasNoted (refused : RefusedCalls) (entries : List Entry) : Type 0 where
  pub came : refused.entries ≡ length entries
  pub counted : refused.count ≡ length (refused_from 0 entries)
  pub kept : refused.first.items ≡ take most_told (refused_from 0 entries)

-- a refused call, and how many more there are than are told
abbrev pub refused_text : ℕ × Refusal → List ℕ
refused_text refused = codes ", entry " ++ (decimal refused.0 ++ (codes " " ++ refusal_name refused.1))

abbrev pub more_text : ℕ → List ℕ
more_text more = if more == 0 then [] else codes ", and " ++ (decimal more ++ codes " more")

-- the line for refused calls, where there are some: how many, and which
abbrev pub refused_line : List (ℕ × Refusal) → List ℕ
refused_line [] = []
refused_line refused =
    line_of (codes "refused calls: " ++ (decimal (length refused)
    ++ (flat_map refused_text (take most_told refused) ++ more_text (length refused - most_told))))
