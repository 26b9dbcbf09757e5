-- What is told of a text: of the script that its words say, or that it isn't read.
use Rattle.std.proofs.Common.{◌≡◌, inl, inr, ℕ, Bool, List, [], subst, sym}
use Rattle.irp_script_reader.specs.declared.script.Script.{Script}
use Rattle.irp_grammar.specs.Reading.{IsReadFrom, IsSaidIn}
use Rattle.irp_grammar.specs.Saying.{TellsScript}
use Rattle.irp_grammar.specs.declared.law.Told.{Told}
use Rattle.irp_grammar.specs.declared.said.Said.{Said}
use Rattle.irp_streams.specs.declared.reading.StreamFault.{StreamFault}
use Rattle.irp_streams.specs.declared.reading.StreamFault.TheVariants as stream
use Rattle.irp_words.specs.Ending.{of_unread}
use Rattle.irp_words.specs.Telling.{EndsOf, Fails}
use Rattle.irp_words.specs.declared.ending.Ending.{Ending}

pub told_of_words : (text : List ℕ) (said : Said) (told : Told) (strict : Bool) (ending : Ending)
    → (said.faults.items ≡ [] → IsReadFrom text said) → TellsScript said told
    → EndsOf (λ (its : Script). its ≡ told.script) strict ending → EndsOf (IsSaidIn text) strict ending
told_of_words text said told strict ending read tells (inl fails) = inl fails
told_of_words text said told strict ending read tells (inr is) =
    let its : IsSaidIn text told.script = record {
      said = said;
      read = read tells.faultless;
      faultless = tells.faultless;
      says = tells.says;
    } in
    inr (record {
      script = is.script;
      its = subst (λ (its : Script). IsSaidIn text its) (sym is.its) its;
      found = is.found;
      warnings = is.warnings;
      ends = is.ends;
    })

-- an input that isn't read
pub unread_fails : (fault : StreamFault) → Fails (of_unread fault)
unread_fails stream.Failed = tt
unread_fails stream.NoMemory = tt
