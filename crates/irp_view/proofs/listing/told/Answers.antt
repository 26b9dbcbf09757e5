-- What stopped it is told.
use Rattle.std.proofs.Common.{ℕ, Option, sym, subst}
use Rattle.irp_view.specs.Listed.{HasSent, StopsAt}
use Rattle.irp_view.specs.Streams.{streams_of}
use Rattle.irp_streams.specs.declared.reading.StreamFault.{StreamFault}
use Rattle.irp_view.proofs.listing.told.Goals as goal

pub returns-in-Some : goal.returns-in-Some
returns-in-Some c = λ old new output aim transcript stops left.
    (transcript, stops.first, subst (λ (given : Option StreamFault). HasSent given output aim transcript) c.in-Some.is left)

pub returns-in-None : goal.returns-in-None
returns-in-None c = λ old new output aim transcript stops left.
    subst (λ (line : Option ℕ). StopsAt aim.chosen line (streams_of old aim.before) (streams_of new output)) (sym c.unread_behind.ensures)
    (transcript, stops, subst (λ (given : Option StreamFault). HasSent given output aim transcript) c.in-None.is left)
