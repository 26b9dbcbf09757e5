-- The header of a script's transcripts.
use Rattle.std.specs.Prelude.{◌≡◌, List, [], ◌∷◌, length, map, replicate, eqb, IsPermutation}
use Rattle.std.specs.List.{IsDistinct}
use Rattle.std.specs.List.Sorted.{IsStrictlyIncreasing}
use Rattle.irp_types.specs.State.{Entrance}
use Rattle.irp_transcript.specs.Headers.{majors}
use Rattle.irp_transcript.specs.declared.header.Header.{Header}
use Rattle.irp_steps.specs.Behaviours.{cancel_rule_of}
use Rattle.irp_steps.specs.Forms.{form_of}
use Rattle.irp_script_reader.specs.Sound.{known_of}
use Rattle.irp_script_reader.specs.declared.script.ScriptParts.{ScriptParts}

-- no major function code stands twice
abbrev pub AreMajorsApart : List Entrance → Type 0
AreMajorsApart driver = IsDistinct eqb (majors driver)

-- the pairs of a driver, by rising major function code
pub record IsSorted (driver sorted : List Entrance) : Type 0 where
  pub pairs : IsPermutation driver sorted
  pub rising : IsStrictlyIncreasing (majors sorted)

-- each driver has the pairs of the one at its place, sorted
abbrev pub AreSorted : List (List Entrance) → List (List Entrance) → Type 0
AreSorted [] [] = Unit {0}
AreSorted (driver ∷ drivers) (sorted ∷ others) = IsSorted driver sorted × AreSorted drivers others
AreSorted drivers others = ⊥

-- the header tells the routines, rules and drivers of the script, its form, and how many locks and seats it has
pub record IsHeaderOf (script : ScriptParts) (header : Header) : Type 0 where
  pub cancels : header.cancels ≡ map cancel_rule_of script.cancels
  pub completions : header.completions ≡ known_of script
  pub dispatches : header.dispatches ≡ replicate (length script.dispatches) (known_of script)
  pub drivers : AreSorted script.drivers header.drivers
  pub form : header.form ≡ form_of script.form
  pub locks : header.locks ≡ script.locks
  pub seats : header.seats ≡ script.seats
