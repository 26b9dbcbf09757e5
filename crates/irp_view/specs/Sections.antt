-- The sections of docs/RULES.md that are named.
use Rattle.std.specs.Prelude.{ℕ, List, codes, Option, Some, None}
use Rattle.irp_judge.specs.declared.difference.QuestionPart.{QuestionPart}
use Rattle.irp_judge.specs.declared.difference.QuestionPart.TheVariants as part
use Rattle.irp_judge.specs.declared.difference.Difference.{Difference}
use Rattle.irp_judge.specs.declared.difference.Difference.TheVariants as kind
use Rattle.irp_view.specs.declared.sections.Section.{Section}
use Rattle.irp_view.specs.declared.sections.Section.TheVariants as section

-- the heading of a section
abbrev pub title_of : Section → List ℕ
title_of section.SendingDown = codes "Sending a packet down"
title_of section.Unwinding = codes "Unwinding"
title_of section.Cancelling = codes "Cancelling"
title_of section.Closures = codes "Rules of closures"
title_of section.Shown = codes "What each closure is shown"
title_of section.Calls = codes "The eighteen calls"
title_of section.Histories = codes "Histories"

-- the section that a question's part settles, and the one that a difference settles; of the others it goes by the call
-- and by who is asked
abbrev pub section_of_part : QuestionPart → Option Section
section_of_part part.TooMany = None
section_of_part part.TooFew = None
section_of_part part.Closure = None
section_of_part (part.Shown field) = Some section.Shown
section_of_part part.Answer = Some section.Closures

abbrev pub section_of : Difference → Option Section
section_of kind.Number = Some section.Histories
section_of kind.Lock = Some section.Histories
section_of kind.Drained = Some section.Histories
section_of kind.Refusal = Some section.Calls
section_of (kind.Question at part) = section_of_part part
section_of kind.Reply = None
