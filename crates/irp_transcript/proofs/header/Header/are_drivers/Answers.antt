-- The drivers are so where each is, and the first that isn't stops the test.
use Rattle.std.proofs.Common.{◌∙◌, sym, refl, subst}
use Rattle.irp_types.specs.State.{IsDriver}
use Rattle.irp_transcript.specs.Headers.{fixed_of}
use Rattle.irp_transcript.proofs.Each.{no_truth, each_more, each_fails, each_done}
use Rattle.irp_transcript.proofs.header.Header.are_drivers.Goals as goal

pub returns-then-not-is_driver : goal.returns-then-not-is_driver
returns-then-not-is_driver c =
    let is = c.is_driver.ensures in (
      λ yes. absurd (no_truth yes),
      λ all. absurd (each_fails (IsDriver (fixed_of c.args.self.now).tables) c.args.drivers.now c.loop-driver.driver-index c.driver-item.result
          c.loop-driver-test.true c.driver-item.is
          (λ holds. no_truth (sym c.if-not-is_driver.true ∙ is.1 (subst (IsDriver (fixed_of c.args.self.now).tables) (sym c.as_slice.ensures) holds))) all),
    )

pub loop-driver-preserved : goal.loop-driver-preserved
loop-driver-preserved c =
    each_more (IsDriver (fixed_of c.args.self.now).tables) c.args.drivers.now c.loop-driver.driver-index c.driver-item.result
    c.loop-driver-test.true c.driver-item.is c.loop-driver.invariant
    (subst (IsDriver (fixed_of c.args.self.now).tables) c.as_slice.ensures (c.is_driver.ensures.0 c.if-not-is_driver.false))

pub returns : goal.returns
returns c = (
  λ _. each_done (IsDriver (fixed_of c.args.self.now).tables) c.args.drivers.now c.loop-driver.driver-index c.loop-driver-test.false c.loop-driver.invariant,
  λ _. refl,
)
