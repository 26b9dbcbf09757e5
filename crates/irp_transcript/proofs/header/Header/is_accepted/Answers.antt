-- A header is accepted by its counts, its dispatches and its drivers.
use Rattle.std.proofs.Common.{◌∙◌, sym, subst}
use Rattle.std.specs.List.{All}
use Rattle.irp_types.specs.Rules.{IsWithin}
use Rattle.irp_types.specs.State.{IsDriver}
use Rattle.irp_transcript.specs.Headers.{fixed_of}
use Rattle.irp_transcript.proofs.Each.{no_truth}
use Rattle.irp_transcript.proofs.Accepted.{counts_of, header_of}
use Rattle.irp_transcript.proofs.header.Header.is_accepted.Goals as goal

pub returns-then-not-has_counts : goal.returns-then-not-has_counts
returns-then-not-has_counts c =
    (λ yes. absurd (no_truth yes), λ is. absurd (no_truth (sym c.if-not-has_counts.true ∙ c.has_counts.ensures.1 (counts_of c.args.self.now is))))

pub returns-then-not-are_within : goal.returns-then-not-are_within
returns-then-not-are_within c =
    let P = All (λ known. IsWithin known c.args.self.now.completions) in (
      λ yes. absurd (no_truth yes),
      λ is. absurd (no_truth (sym c.if-not-are_within.true ∙ c.are_within.ensures.1 (subst P (sym c.as_slice.ensures) is.tables.known))),
    )

pub returns : goal.returns
returns c =
    let P = All (λ known. IsWithin known c.args.self.now.completions) in
    let Q = All (IsDriver (fixed_of c.args.self.now).tables) in (
      λ yes. header_of c.args.self.now (c.has_counts.ensures.0 c.if-not-has_counts.false)
          (subst P c.as_slice.ensures (c.are_within.ensures.0 c.if-not-are_within.false)) (subst Q c.as_slice-2.ensures (c.are_drivers.ensures.0 yes)),
      λ is. c.are_drivers.ensures.1 (subst Q (sym c.as_slice-2.ensures) is.tables.drivers),
    )
