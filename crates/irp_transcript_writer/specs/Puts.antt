-- What a call that writes a text did.
use Rattle.std.specs.Prelude.{◌≡◌, ℕ, ◌+◌, ◌-◌, ◌<◌, ◌^◌, min, List, ◌++◌, length, Option, Result, Ok, Err}
use Rattle.std.specs.Io.KnownBytes.{Appends}
use Rattle.irp_streams.specs.Out.{risen}
use Rattle.irp_transcript_writer.specs.declared.{write.Cause.Cause, write.WriteFault.WriteFault}
use Rattle.irp_transcript_writer.specs.declared.write.Cause.TheVariants.{Io, Memory}

-- a number of bytes, counted up to the greatest `u64`
abbrev pub told : ℕ → ℕ
told count = min count (2 ^ 64 - 1)

-- the count of failures after a fault of this cause: it rises for the output's, and stays for the memory's
abbrev pub counts_for : Cause → ℕ → ℕ
counts_for Io count = risen count
counts_for Memory count = count

-- the count of failures rose exactly where the fault is the output's
abbrev pub CountsFault : {T : Type 0} → ℕ → ℕ → Result T WriteFault → Type 0
CountsFault old new (Ok value) = new ≡ old
CountsFault old new (Err fault) = new ≡ counts_for fault.cause old

-- all of the text went out after so many bytes, and their number then is given
pub record Sent (text : List ℕ) (before : ℕ) (old new : Option (List ℕ)) (written : ℕ) : Type 0 where
  pub gone : Appends old new text
  pub count : written ≡ told (before + length text)

-- a beginning of the text, not the whole, went out after so many bytes, and their number then is given
pub record Stopped (text : List ℕ) (before : ℕ) (old new : Option (List ℕ)) (written : ℕ) : Type 0 where
  pub front : List ℕ
  pub rest : List ℕ
  pub whole : text ≡ front ++ rest
  pub short : 0 < length rest
  pub gone : Appends old new front
  pub count : written ≡ told (before + length front)

-- what a call that puts a text after so many bytes did to what went out and to the count of failures
abbrev pub PutsText : List ℕ → ℕ → Option (List ℕ) → Option (List ℕ) → ℕ → ℕ → Result ℕ WriteFault → Type 0
PutsText text before old new old_failures new_failures (Ok written) =
    Sent text before old new written × (new_failures ≡ old_failures)
PutsText text before old new old_failures new_failures (Err fault) =
    Stopped text before old new fault.written × (new_failures ≡ counts_for fault.cause old_failures)
