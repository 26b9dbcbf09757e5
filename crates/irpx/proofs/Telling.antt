-- What telling a verdict leaves where the output fails.
use Rattle.std.proofs.Common.{ℕ, ◌<◌, List, length, take, drop, Option, sym, arith, length-drop}
use Rattle.std.proofs.lemmas.List.{take-append-drop}
use Rattle.std.specs.Io.KnownBytes.{Appends}
use Rattle.irp_fast_reader.specs.Fitting.{Begins}

-- the first bytes of a text are a beginning of it
pub begins_at : (text : List ℕ) (done : ℕ) (old new : Option (List ℕ)) → done < length text → Appends old new (take done text) → Begins text old new
begins_at text done old new within gone = record {
  front = take done text;
  rest = drop done text;
  whole = sym (take-append-drop done text);
  short = omega (arith, length-drop done text);
  gone = gone;
}
