-- What stopped it is told.
use Rattle.std.proofs.Common.{ℕ, Option, inl, sym, subst}
use Rattle.irp_streams.specs.declared.reading.StreamFault.{StreamFault}
use Rattle.irp_view.specs.Story.{HasSentStory, StopsStory}
use Rattle.irp_view.specs.Streams.{streams_of}
use Rattle.irp_view.proofs.story.untold.Goals as goal

pub returns-in-Some : goal.returns-in-Some
returns-in-Some c = λ old new output before transcript stops left.
    (transcript, inl stops.first, subst (λ (given : Option StreamFault). HasSentStory given output before transcript) c.in-Some.is left)

pub returns-in-None : goal.returns-in-None
returns-in-None c = λ old new output before transcript stops left.
    subst (λ (line : Option ℕ). StopsStory line (streams_of old before) (streams_of new output)) (sym c.unread_behind.ensures)
    (inl (transcript, stops, subst (λ (given : Option StreamFault). HasSentStory given output before transcript) c.in-None.is left))
