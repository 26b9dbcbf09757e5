-- A story that is told while the text of its transcript is read, block after block.
use Rattle.std.proofs.Common.{◌≡◌, ◌+◌, ℕ, List, [], ◌++◌, Option, Some, None, OnOk, MatchResult, Result, Ok, Err, inl, inr, refl, sym, subst, ap, ◌∙◌, append-nil, arith}
use Rattle.irp_transcript.specs.Transcripts.{TranscriptValue, no_lines}
use Rattle.irp_transcript.specs.declared.header.Header.{Header}
use Rattle.irp_transcript_writer.specs.Json.{line_text}
use Rattle.irp_judge.specs.declared.verdict.Verdict.TheVariants.{Legal}
use Rattle.irp_fast_reader.specs.declared.reader.Reader.{Reader}
use Rattle.irp_feed.specs.Feeding.{Starts, Stops, header_alone, piece_of}
use Rattle.irp_feed.specs.Input.{Bytes, Holds, TakesAtMost, most_taken}
use Rattle.irp_feed.specs.declared.header.Start.{Start}
use Rattle.irp_story.specs.Lines.{verdict_line}
use Rattle.irp_story.specs.Stories.{HasTold, IsStory}
use Rattle.irp_story.specs.declared.story.Story.{Story as StoryOf}
use Rattle.irp_story.proofs.Told.{text_one}
use Rattle.irp_streams.proofs.Pieces.{appends_none}
use Rattle.irp_streams.specs.Writing.{BreaksOff, IsQuiet, Written}
use Rattle.irp_streams.specs.declared.reading.StreamFault.{StreamFault}
use Rattle.irp_view.specs.Ending.{of_unshown}
use Rattle.irp_view.specs.Program.{Obeys}
use Rattle.irp_view.specs.Story.{HasSentStory, IsSent, IsTelling, StopsStory, TellsBegun, TellsInput}
use Rattle.irp_view.specs.Streams.{Output, Streams, streams_of}
use Rattle.irp_view.specs.declared.listing.Unshown.{Unshown}
use Rattle.irp_view.specs.declared.listing.Unshown.TheVariants.{Unread as IsUnread, Unwritten as IsUnwritten}
use Rattle.irp_view.specs.declared.ending.Ending.TheVariants.{Done}
use Rattle.irp_view.specs.declared.orders.Order.TheVariants.{Read}
use Rattle.irp_view.specs.declared.orders.Task.TheVariants.{Story}
use Rattle.irp_view.specs.declared.story.Telling.{Telling}
use Rattle.irp_view.proofs.Listed.{breaks_then, written_then}

-- ---- a line

-- nothing failed
begun_calm : (fault : Option StreamFault) (output before : Output) (transcript : TranscriptValue) → fault ≡ None → TellsBegun transcript before output
    → HasSentStory fault output before transcript
begun_calm fault output before transcript none went = subst (λ (given : Option StreamFault). HasSentStory given output before transcript) (sym none) went

-- one more was told
pub told_on : {E : Type 0} (result : Result (Unit {0}) E) (old new : Telling) (output before : Output) (ended last transcript : TranscriptValue)
    → (is : IsTelling old output before ended last) → new.fault ≡ old.fault → OnOk result (HasTold new.story transcript (is.went.text ++ new.text.items))
    → MatchResult result (λ done. IsTelling new output before ended transcript) (λ error. HasSentStory new.fault output before ended)
told_on (Ok done) old new output before ended last transcript is same told = record { calm = same ∙ is.calm; went = is.went; told = told }
told_on (Err error) old new output before ended last transcript is same told = begun_calm new.fault output before ended (same ∙ is.calm) is.went

-- ---- a block that was sent

module _ (telling : Telling) (mid new before : Output) (ended transcript : TranscriptValue) (is : IsTelling telling mid before ended transcript) where
  abbrev whole : List ℕ
  whole = is.went.text ++ telling.text.items

  abbrev went_on : Written telling.text.items mid.gone new.gone mid.failures new.failures → TellsBegun transcript before new
  went_on written = record {
    text = whole;
    is = inl is.told.begun;
    written = written_then is.went.text telling.text.items before.gone mid.gone new.gone before.failures mid.failures new.failures is.went.written written;
  }

  pub story_sent : (cleared : Telling) → Written telling.text.items mid.gone new.gone mid.failures new.failures → cleared.text.items ≡ [] → cleared.story ≡ telling.story
      → cleared.fault ≡ telling.fault → IsTelling cleared new before transcript transcript
  story_sent cleared written none same fault = record {
    calm = fault ∙ is.calm;
    went = went_on written;
    told = subst (λ (given : StoryOf). HasTold given transcript (whole ++ cleared.text.items)) (sym same)
        (subst (HasTold telling.story transcript) (sym (append-nil whole) ∙ ap (λ (given : List ℕ). whole ++ given) (sym none)) is.told);
  }

  pub story_left : (fault : Option StreamFault) → Written telling.text.items mid.gone new.gone mid.failures new.failures → fault ≡ telling.fault → HasSentStory fault new before transcript
  story_left fault written same = begun_calm fault new before transcript (same ∙ is.calm) (went_on written)

  pub story_breaks : (fault : StreamFault) → BreaksOff telling.text.items mid.gone new.gone mid.failures new.failures fault → HasSentStory (Some fault) new before transcript
  story_breaks fault broken = record {
    text = whole;
    is = inl is.told.begun;
    broken = breaks_then is.went.text telling.text.items before.gone mid.gone new.gone before.failures mid.failures new.failures fault is.went.written broken;
  }

-- ---- the end

module _ (old : Telling) (new : List ℕ) (mid after before : Output) (transcript : TranscriptValue) (is : IsTelling old mid before transcript transcript) where
  story_ends : IsStory transcript (is.went.text ++ new) → (left rest : Bytes) → Holds left rest transcript
      → Written new mid.gone after.gone mid.failures after.failures → TellsInput (Ok tt) (streams_of left before) (streams_of rest after)
  story_ends story left rest holds written = (
    transcript,
    holds,
    record {
      text = is.went.text ++ new;
      is = story;
      written = written_then is.went.text new before.gone mid.gone after.gone before.failures mid.failures after.failures is.went.written written;
    },
  )

  end_breaks : (fault : StreamFault) → IsStory transcript (is.went.text ++ new) → (left rest : Bytes) → Holds left rest transcript
      → BreaksOff new mid.gone after.gone mid.failures after.failures fault → TellsInput (Err (IsUnwritten fault)) (streams_of left before) (streams_of rest after)
  end_breaks fault story left rest holds broken = (
    transcript,
    inr holds,
    record {
      text = is.went.text ++ new;
      is = inr story;
      broken = breaks_then is.went.text new before.gone mid.gone after.gone before.failures mid.failures after.failures fault is.went.written broken;
    },
  )

  pub end_sent : (result : Result (Unit {0}) Unshown) → IsStory transcript (is.went.text ++ new) → (left rest : Bytes) → Holds left rest transcript
      → IsSent new mid after result → TellsInput result (streams_of left before) (streams_of rest after)
  end_sent (Ok done) story left rest holds sent = story_ends story left rest holds sent
  end_sent (Err (IsUnwritten fault)) story left rest holds sent = end_breaks fault story left rest holds sent
  end_sent (Err (IsUnread unread)) story left rest holds sent = absurd sent

  pub end_untold : (left rest : Bytes) → Holds left rest transcript → StopsStory None (streams_of left before) (streams_of rest mid)
  end_untold left rest holds = inr (refl, inr (transcript, holds, is.went))

-- ---- the beginning

quiet : (gone : Option (List ℕ)) (failures : ℕ) → IsQuiet gone gone failures failures
quiet None failures = (tt, refl)
quiet (Some bytes) failures = (refl, refl)

-- nothing was told, and nothing went out
abbrev none_told : (output : Output) (header : Option Header) → TellsBegun (record { header = header; entries = []; words = [] }) output output
none_told output header = record { text = []; is = inr (refl, refl, refl); written = (appends_none output.gone, refl) }

-- the story of a text without lines
abbrev none_legal : IsStory no_lines (line_text (verdict_line 0 (Legal 0)))
none_legal = record {
  lines = [];
  are = refl;
  verdict = Legal 0;
  judged = refl;
  whole = sym (text_one (verdict_line 0 (Legal 0)));
}

module _ (left rest : Bytes) (before after : Output) (holds : Holds left rest no_lines) where
  pub none_untold : StopsStory None (streams_of left before) (streams_of rest before)
  none_untold = inr (refl, inr (no_lines, holds, none_told before None))

  none_ends : (text : List ℕ) → text ≡ [] ++ line_text (verdict_line 0 (Legal 0)) → Written text before.gone after.gone before.failures after.failures
      → TellsInput (Ok tt) (streams_of left before) (streams_of rest after)
  none_ends text is written = (no_lines, holds, record { text = text; is = subst (IsStory no_lines) (sym is) none_legal; written = written })

  none_breaks : (text : List ℕ) (fault : StreamFault) → text ≡ [] ++ line_text (verdict_line 0 (Legal 0)) → BreaksOff text before.gone after.gone before.failures after.failures fault
      → TellsInput (Err (IsUnwritten fault)) (streams_of left before) (streams_of rest after)
  none_breaks text fault is broken = (no_lines, inr holds, record { text = text; is = inr (subst (IsStory no_lines) (sym is) none_legal); broken = broken })

  pub none_sent : (result : Result (Unit {0}) Unshown) (text : List ℕ) → text ≡ [] ++ line_text (verdict_line 0 (Legal 0)) → IsSent text before after result
      → TellsInput result (streams_of left before) (streams_of rest after)
  none_sent (Ok done) text is sent = none_ends text is sent
  none_sent (Err (IsUnwritten fault)) text is sent = none_breaks text fault is sent
  none_sent (Err (IsUnread unread)) text is sent = absurd sent

-- no header was read: nothing was told
pub no_header_told : (line : Option ℕ) (left rest : Bytes) (output : Output) → Stops left rest line no_lines → StopsStory line (streams_of left output) (streams_of rest output)
no_header_told line left rest output stops = inl (no_lines, stops, none_told output None)

-- a header was read, and memory ran out for its line
pub header_untold : (left rest : Bytes) (start : Start) (reader : Reader) (buffer : List ℕ) (output : Output) → Starts left rest start reader buffer
    → StopsStory None (streams_of left output) (streams_of rest output)
header_untold left rest start reader buffer output starts =
    inr (refl, inl ((starts.text ++ piece_of buffer start.from start.to, omega (arith, starts.so_far.count), starts.so_far.took), quiet output.gone output.failures))

-- nothing was sent behind a header that was told
pub starts_told : (telling : Telling) (header : Header) (output : Output) → telling.fault ≡ None → HasTold telling.story (header_alone header) telling.text.items
    → IsTelling telling output output (header_alone header) (header_alone header)
starts_told telling header output calm told = record { calm = calm; went = none_told output (Some header); told = told }

-- ---- what the program does

takes_held : (left rest : Bytes) (transcript : TranscriptValue) → Holds left rest transcript → TakesAtMost most_taken left rest
takes_held left rest transcript holds = (holds.0, omega (arith, holds.1.few), holds.1.took)

-- not too much was taken
pub takes_told : (result : Result (Unit {0}) Unshown) (before after : Streams) → TellsInput result before after → TakesAtMost most_taken before.left after.left
takes_told (Ok done) before after is = takes_held before.left after.left is.0 is.1
takes_told (Err (IsUnread unread)) before after (inl is) = (is.1.first.text, is.1.first.few, is.1.first.took)
takes_told (Err (IsUnread unread)) before after (inr (none, inl quiet)) = quiet.0
takes_told (Err (IsUnread unread)) before after (inr (none, inr held)) = takes_held before.left after.left held.0 held.1
takes_told (Err (IsUnwritten fault)) before after (transcript, inl first, broken) = (first.text, first.few, first.took)
takes_told (Err (IsUnwritten fault)) before after (transcript, inr holds, broken) = takes_held before.left after.left transcript holds

-- what was asked is done
pub obeys_all : (before after : Streams) → TellsInput (Ok tt) before after → Obeys (Read Story) before after Done
obeys_all before after is = inl (is.0, is.1, (refl, is.2))

pub obeys_told : (untold : Unshown) (before after : Streams) → TellsInput (Err untold) before after → Obeys (Read Story) before after (of_unshown untold)
obeys_told (IsUnread unread) before after stops = inr (inl (record { unread = unread; stops = stops; ending_is = refl }))
obeys_told (IsUnwritten fault) before after breaks = inr (inr (record { fault = fault; breaks = breaks; ending_is = refl }))
