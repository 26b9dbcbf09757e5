-- The block of rows that tells what is wrong with an entry.
use Rattle.std.specs.Prelude.{ℕ, ◌≡◌, ◌+◌, ◌<◌, ◌^◌, true, false, List, [], ◌++◌, codes, Option, None, Some, IfSome}
use Rattle.std.specs.Fmt.{decimal}
use Rattle.irp_types.specs.declared.entry.Entry.{Entry}
use Rattle.irp_listing.specs.Heads.{caller_text}
use Rattle.irp_listing.specs.Lines.{line_of, row_of}
use Rattle.irp_judge.specs.declared.difference.Difference.{Difference}
use Rattle.irp_judge.specs.declared.difference.Difference.TheVariants as kind
use Rattle.irp_judge.specs.declared.cause.Cause.{Cause}
use Rattle.irp_judge.specs.declared.verdict.Wrong.{Wrong}
use Rattle.irp_view.specs.Parts.{part_text, value_text}
use Rattle.irp_view.specs.Sections.{section_of, title_of}
use Rattle.irp_view.specs.declared.sections.Section.{Section}

-- the names of the rows
abbrev pub differs_in : List ℕ
differs_in = codes "differs in  "

abbrev pub says : List ℕ
says = codes "says        "

abbrev pub manager : List ℕ
manager = codes "manager     "

abbrev pub rule : List ℕ
rule = codes "rule        "

abbrev pub why : List ℕ
why = codes "why         "

abbrev pub see : List ℕ
see = codes "see         "

-- how the first line begins: the entry's number, and its line in the transcript; and that line, with words
abbrev pub place_of : ℕ → ℕ → List ℕ
place_of at line = codes "entry " ++ (decimal at ++ (codes " (line " ++ (decimal line ++ codes "): ")))

abbrev pub head_of : ℕ → ℕ → List ℕ → List ℕ
head_of at line words = place_of at line ++ line_of words

-- the words are those that are known, if any are
abbrev pub AreWords : Option (List ℕ) → List ℕ → Type 0
AreWords known words = IfSome known (λ text. words ≡ text)

-- the last row: where the rule stands
abbrev pub see_row : Section → List ℕ
see_row section = row_of see (codes "docs/RULES.md, " ++ title_of section)

-- what a refusal comes from is told where the entry differs in it
abbrev pub cause_told : Difference → Option Cause → Option Cause
cause_told kind.Refusal cause = cause
cause_told _ cause = None

-- and has a row, if the manager refuses the call
abbrev pub why_row : Option Cause → List ℕ → List ℕ
why_row None words = []
why_row (Some cause) words = row_of why words

-- the first line was put behind what stood there, with who called what; the header is a transcript's first line
pub record AddsHead (at : ℕ) (entry : Entry) (before after : List ℕ) : Type 0 where
  pub line : ℕ
  pub line_is : at + 2 < 2 ^ 64 → line ≡ at + 2
  pub put : after ≡ before ++ head_of at line (caller_text entry.call entry.drained)

-- a row with these words, where they are known, was
pub record AddsRow (name : List ℕ) (known : Option (List ℕ)) (before after : List ℕ) : Type 0 where
  pub words : List ℕ
  pub are : AreWords known words
  pub put : after ≡ before ++ row_of name words

-- the row of a cause was, if there is one
pub record AddsCause (cause : Option Cause) (before after : List ℕ) : Type 0 where
  pub words : List ℕ
  pub put : after ≡ before ++ why_row cause words

-- the row of a section was
abbrev pub AddsSection : Section → List ℕ → List ℕ → Type 0
AddsSection section before after = after ≡ before ++ see_row section

-- the first line and the four rows that each block has: which entry it is, in which line, and its call; the part that
-- differs first, what the entry says there and what the manager makes; the rule
pub record AreRows (entry : Entry) (wrong : Wrong) (rows : List ℕ) : Type 0 where
  pub line : ℕ
  pub line_is : wrong.at + 2 < 2 ^ 64 → line ≡ wrong.at + 2
  pub words : List ℕ
  pub whole :
      rows ≡ head_of wrong.at line (caller_text entry.call entry.drained)
      ++ (row_of differs_in (part_text wrong.difference entry)
      ++ (row_of says (value_text wrong.difference false entry)
      ++ (row_of manager (value_text wrong.difference true wrong.made) ++ row_of rule words)))

-- they were put behind what stood there
pub record AddsRows (entry : Entry) (wrong : Wrong) (before after : List ℕ) : Type 0 where
  pub rows : List ℕ
  pub are : AreRows entry wrong rows
  pub put : after ≡ before ++ rows

-- the text for what is wrong with an entry: these rows; what a refusal comes from, exactly where the manager refuses
-- the call and the entry differs in that; and the section of the rules, which the difference settles for all but who
-- is asked, and replies
pub record IsWhy (entry : Entry) (wrong : Wrong) (text : List ℕ) : Type 0 where
  pub rows : List ℕ
  pub are : AreRows entry wrong rows
  pub cause : List ℕ
  pub section : Section
  pub section_is : IfSome (section_of wrong.difference) (λ known. section ≡ known)
  pub whole : text ≡ rows ++ (why_row (cause_told wrong.difference wrong.cause) cause ++ see_row section)

-- it was put behind what stood there
pub record AddsWhy (entry : Entry) (wrong : Wrong) (before after : List ℕ) : Type 0 where
  pub text : List ℕ
  pub is : IsWhy entry wrong text
  pub put : after ≡ before ++ text
