use Rattle.std.proofs.Common.{ℕ, List, Option, Some, subst}
use Rattle.std.specs.Prelude.{codes}
use Rattle.std.specs.Fmt.{DisplaysOnOk, decimal, ◌++?◌}
use Rattle.irp_types.specs.declared.shown.Shown.{Shown}
use Rattle.irp_names.specs.Majors.{major_text}
use Rattle.irp_listing.specs.Questions.{result_told}
use Rattle.irp_listing.proofs.questions.ShownToDispatchDisplay.fmt.Goals as goal

-- what is told, where the word and the two flags are told so
abbrev told : Shown → Option (List ℕ) × List ℕ × List ℕ → Option (List ℕ)
told shown parts =
    Some (codes ": ") ++? Some (major_text shown.major) ++? Some (codes ", location ") ++? Some (decimal shown.location)
    ++? Some (codes ", word 0x") ++? parts.0 ++? Some (result_told shown.status shown.information) ++? Some parts.1 ++? Some parts.2

pub returns-clause-writes : goal.returns-clause-writes
returns-clause-writes g c =
    subst (λ (parts : Option (List ℕ) × List ℕ × List ℕ). DisplaysOnOk g.W.Write.write_str_gives c.args.f.now c.write.result (told c.args.self.now.0 parts) c.write.new.self)
    (λ i. (c.in_radix.ensures i, c.told_if.ensures i, c.told_if-2.ensures i)) c.write.ensures.writes
