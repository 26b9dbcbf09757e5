-- What went out of a text, and what the output's count of failures is then.
use Rattle.std.specs.Prelude.{ℕ, ◌≡◌, ◌<◌, List, ◌++◌, length}
use Rattle.std.specs.Io.KnownBytes.{Appends, Keeps}
use Rattle.irp_streams.specs.Out.{risen}
use Rattle.irp_streams.specs.Streams.{Bytes}
use Rattle.irp_streams.specs.declared.reading.StreamFault.{StreamFault}
use Rattle.irp_streams.specs.declared.reading.StreamFault.TheVariants.{Failed, NoMemory}

-- a beginning of the text went out, which isn't the whole text
pub record Begins (text : List ℕ) (old new : Bytes) : Type 0 where
  pub front : List ℕ
  pub rest : List ℕ
  pub whole : text ≡ front ++ rest
  pub short : 0 < length rest
  pub gone : Appends old new front

-- nothing went out, and nothing failed
abbrev pub IsQuiet : Bytes → Bytes → ℕ → ℕ → Type 0
IsQuiet old new before after = Keeps old new × (after ≡ before)

-- the count of failures after a fault: it rises for the output's, and stays for the memory's
abbrev pub count_after : StreamFault → ℕ → ℕ
count_after Failed count = risen count
count_after NoMemory count = count

-- all of the text went out, and nothing failed
abbrev pub Written : List ℕ → Bytes → Bytes → ℕ → ℕ → Type 0
Written text old new before after = Appends old new text × (after ≡ before)

-- a beginning of the text went out, before this fault
abbrev pub BreaksOff : List ℕ → Bytes → Bytes → ℕ → ℕ → StreamFault → Type 0
BreaksOff text old new before after fault = Begins text old new × (after ≡ count_after fault before)
