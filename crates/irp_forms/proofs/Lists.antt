-- Reading a list from left to right.
use Rattle.std.proofs.Common.{List, ◌++◌, Option, Some, None}

abbrev pub prepend : {T : Type 0} → List T → Option (List T) → Option (List T)
prepend xs None = None
prepend xs (Some ys) = Some (xs ++ ys)
