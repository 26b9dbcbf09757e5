-- A seat as callers see it.
use Rattle.std.specs.Prelude.{ℕ, ◌≡◌, ◌+◌, List, [], ◌∷◌, ◌++◌}
use Rattle.irp_types.specs.declared.entry.Entry.{Entry}

-- the seat's number, how much of the history it has seen, the entries of its own calls, and for how many more there is
-- room
pub record Seated : Type 0 where
  pub number : ℕ
  pub seen : ℕ
  pub entries : List Entry
  pub room : ℕ

-- the seat has one entry more, this one, and has seen it and all before it
pub record Keeps (entry : Entry) (old new : Seated) : Type 0 where
  pub number : new.number ≡ old.number
  pub entries : new.entries ≡ old.entries ++ entry ∷ []
  pub seen : new.seen ≡ entry.number + 1
