-- What is written of a warning.
use Rattle.std.specs.Prelude.{ℕ, List, ◌++◌, codes, string_bytes}
use Rattle.irp_text_faults.specs.Told.{place_text, section_text}
use Rattle.irp_text_faults.specs.declared.places.Place.{Place}
use Rattle.irp_warnings.specs.declared.warning.Warning.{Warning}

-- a warning at this place: the step, the place, and what isn't meant
abbrev pub warning_text : Place → Warning → List ℕ
warning_text place warning =
    codes "warning: "
    ++ (section_text warning.section warning.index ++ (place_text place ++ string_bytes warning.words))
