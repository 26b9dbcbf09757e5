-- Numbers, places, spans and uses of packets, as texts write them.
use Rattle.std.specs.Prelude.{
  ◌≡◌,
  ◌≤◌,
  ◌<◌,
  ◌⊎◌,
  ◌++◌,
  ℕ,
  List,
  [],
  length,
  ◌≢◌,
  codes,
  Option,
  MatchOption,
}
use lib.ListN.{get_or}
use Rattle.irp_command_line.specs.CommandLine.{Writes}
use Rattle.irp_types.specs.declared.names.IrpRef.{IrpRef}
use Rattle.irp_view.specs.declared.orders.Span.{Span}

-- such a value, or None where there is none
abbrev pub OrNone : {T : Type 0} → (T → Type 0) → Option T → Type 0
OrNone {T} Fits result = MatchOption result ((value : T) → Fits value → ⊥) Fits

-- a place: the number that the text writes, or this one where there is no text
abbrev pub IsPlace : ℕ → List ℕ → ℕ → Type 0
IsPlace missing text place = ((text ≡ []) × (place ≡ missing)) ⊎ Writes text place

abbrev pub last_place : ℕ
last_place = 18446744073709551615

-- no dot stands in the text
abbrev pub HasNoDot : List ℕ → Type 0
HasNoDot text = (at : ℕ) → at < length text → get_or text at 0 ≢ 46

-- the text is these two with two dots between them, the first of its dots
abbrev pub IsParted : List ℕ → List ℕ → List ℕ → Type 0
IsParted text from to = (text ≡ from ++ (codes ".." ++ to)) × HasNoDot from

-- a span: `A..B`, where A isn't above B, `A..` or `..B`
pub record IsSpan (text : List ℕ) (span : Span) : Type 0 where
  pub from : List ℕ
  pub to : List ℕ
  pub parts : text ≡ from ++ (codes ".." ++ to)
  pub begins : IsPlace 0 from span.from
  pub ends : IsPlace last_place to span.to
  pub ordered : span.from ≤ span.to

-- a use of a packet: the numbers of its slot and of its use
abbrev pub IsUse : List ℕ → List ℕ → IrpRef → Type 0
IsUse slot use_no irp = Writes slot irp.slot × Writes use_no irp.use_no
