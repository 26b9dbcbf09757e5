-- A transcript that is shown while its text is read, block after block.
use Rattle.std.proofs.Common.{◌≡◌, ℕ, nat_lt, List, [], ◌++◌, Option, Some, None, OnOk, MatchResult, Result, Ok, Err, refl, sym, subst, ap, ◌∙◌, append_assoc, append-nil}
use Rattle.irp_types.specs.declared.names.IrpRef.{IrpRef}
use Rattle.irp_transcript.specs.Transcripts.{TranscriptValue, no_lines}
use Rattle.irp_transcript.specs.declared.header.Header.{Header}
use Rattle.irp_streams.proofs.Pieces.{appends_none, appends_then}
use Rattle.irp_feed.specs.Feeding.{Stops, header_alone}
use Rattle.irp_feed.specs.Input.{Bytes, Holds}
use Rattle.irp_listing.specs.Stacks.{IsAfter}
use Rattle.irp_streams.specs.Writing.{BreaksOff, Written, count_after}
use Rattle.irp_streams.specs.declared.reading.StreamFault.{StreamFault}
use Rattle.irp_view.specs.Listed.{Aim, Chosen, HasGathered, HasSent, IsFresh, IsGathered, ShowsInput, ShowsLines, StopsAt, aim_of, chosen_of}
use Rattle.irp_view.specs.Showing.{IsShowing}
use Rattle.irp_view.specs.Streams.{Output, streams_of}
use Rattle.irp_view.specs.declared.listing.Gathering.{Gathering}
use Rattle.irp_view.specs.declared.orders.Span.{Span}
use Rattle.irp_view.specs.declared.showing.Shown.{Shown}
use Rattle.irp_view.specs.declared.showing.Wanted.{Wanted}
use Rattle.irp_view.proofs.Gathered.{shows_none}

-- ---- a line

-- nothing failed
sent_calm : (fault : Option StreamFault) (output : Output) (aim : Aim) (transcript : TranscriptValue) → fault ≡ None → ShowsLines aim.chosen transcript aim.before output
    → HasSent fault output aim transcript
sent_calm fault output aim transcript none shows = subst (λ (given : Option StreamFault). HasSent given output aim transcript) (sym none) shows

-- one more was gathered
pub gathered_on : {E : Type 0} (result : Result (Unit {0}) E) (gathering : Gathering) (after : Shown) (output : Output) (aim : Aim) (ended before transcript : TranscriptValue)
    → (has : HasGathered gathering output aim ended before)
    → OnOk result (IsGathered gathering.wanted after has.shows.text transcript)
    → MatchResult result (λ done. HasGathered (record gathering { shown = after }) output aim ended transcript) (λ error. HasSent gathering.fault output aim ended)
gathered_on (Ok done) gathering after output aim ended before transcript has is = record { only = has.only; span = has.span; calm = has.calm; shows = has.shows; is = is }
gathered_on (Err error) gathering after output aim ended before transcript has is = sent_calm gathering.fault output aim ended has.calm has.shows

-- ---- a block that was sent

pub written_then : (first second : List ℕ) (old mid new : Bytes) (before between after : ℕ) → Written first old mid before between → Written second mid new between after
    → Written (first ++ second) old new before after
written_then first second old mid new before between after one two = (appends_then first second old mid new one.0 two.0, two.1 ∙ one.1)

pub breaks_then : (first second : List ℕ) (old mid new : Bytes) (before between after : ℕ) (fault : StreamFault) → Written first old mid before between
    → BreaksOff second mid new between after fault → BreaksOff (first ++ second) old new before after fault
breaks_then first second old mid new before between after fault one two = (
  record {
    front = first ++ two.0.front;
    rest = two.0.rest;
    whole = ap (λ (given : List ℕ). first ++ given) two.0.whole ∙ sym (append_assoc first two.0.front two.0.rest);
    short = two.0.short;
    gone = appends_then first two.0.front old mid new one.0 two.0.gone;
  },
  two.1 ∙ ap (count_after fault) one.1,
)

module _ (gathering : Gathering) (mid new : Output) (aim : Aim) (ended before : TranscriptValue) (has : HasGathered gathering mid aim ended before) where
  abbrev whole : List ℕ
  whole = has.shows.text ++ gathering.shown.text.items

  -- it shows what the aim wants
  shows_aim : IsShowing aim.chosen.only aim.chosen.span before whole
  shows_aim = subst (λ (given : Option IrpRef × Option Span). IsShowing given.0 given.1 before whole) (λ i. (has.only i, has.span i)) has.is.shows

  -- all that was gathered went out
  abbrev shows_on : Written gathering.shown.text.items mid.gone new.gone mid.failures new.failures → ShowsLines aim.chosen before aim.before new
  shows_on written = record {
    text = whole;
    is = shows_aim;
    written = written_then has.shows.text gathering.shown.text.items aim.before.gone mid.gone new.gone aim.before.failures mid.failures new.failures has.shows.written written;
  }

  pub block_sent : (cleared : Gathering) → Written gathering.shown.text.items mid.gone new.gone mid.failures new.failures → cleared.shown.text.items ≡ []
      → cleared.shown.entries ≡ gathering.shown.entries → cleared.shown.before_words ≡ gathering.shown.before_words → cleared.shown.stacks ≡ gathering.shown.stacks
      → cleared.wanted ≡ gathering.wanted → cleared.fault ≡ gathering.fault → HasGathered cleared new aim before before
  block_sent cleared written none entries words stacks wanted fault =
      record {
        only = ap (λ (given : Wanted). given.choice.only) wanted ∙ has.only;
        span = ap (λ (given : Wanted). given.span) wanted ∙ has.span;
        calm = fault ∙ has.calm;
        shows = shows_on written;
        is = record {
          counted = entries ∙ has.is.counted;
          before_words = words ∙ has.is.before_words;
          followed = subst (IsAfter before.entries) (sym stacks) has.is.followed;
          headed = has.is.headed;
          seats = ap (λ (given : Wanted). given.choice.tells_seats) wanted ∙ has.is.seats;
          shows = subst (λ (given : Wanted). IsShowing given.choice.only given.span before (whole ++ cleared.shown.text.items)) (sym wanted)
              (subst (IsShowing gathering.wanted.choice.only gathering.wanted.span before) (sym (append-nil whole) ∙ ap (λ (given : List ℕ). whole ++ given) (sym none)) has.is.shows);
        };
      }

  pub block_left : (fault : Option StreamFault) → Written gathering.shown.text.items mid.gone new.gone mid.failures new.failures → fault ≡ gathering.fault → HasSent fault new aim before
  block_left fault written same = sent_calm fault new aim before (same ∙ has.calm) (shows_on written)

  -- the output failed
  pub block_breaks : (fault : StreamFault) → BreaksOff gathering.shown.text.items mid.gone new.gone mid.failures new.failures fault → HasSent (Some fault) new aim before
  block_breaks fault broken = record {
    text = whole;
    is = shows_aim;
    broken = breaks_then has.shows.text gathering.shown.text.items aim.before.gone mid.gone new.gone aim.before.failures mid.failures new.failures fault has.shows.written broken;
  }

-- ---- the input

-- nothing shows a header, or no lines
abbrev nothing_for : (chosen : Chosen) (known : Option Header) (output : Output) → ShowsLines chosen (record { header = known; entries = []; words = [] }) output output
nothing_for chosen known output = record { text = []; is = shows_none chosen.only chosen.span known [] refl; written = (appends_none output.gone, refl) }

-- behind the header nothing was shown
pub starts_shown : (gathering : Gathering) (header : Header) (output : Output) → IsFresh gathering.shown → gathering.fault ≡ None → gathering.wanted.choice.tells_seats ≡ nat_lt 1 header.seats
    → HasGathered gathering output (aim_of (chosen_of gathering.wanted.choice.only gathering.wanted.span) output) (header_alone header) (header_alone header)
starts_shown gathering header output fresh calm seats = record {
  only = refl;
  span = refl;
  calm = calm;
  shows = nothing_for (chosen_of gathering.wanted.choice.only gathering.wanted.span) (Some header) output;
  is = record {
    counted = fresh.counted;
    before_words = fresh.before_words;
    followed = fresh.followed;
    headed = refl;
    seats = seats;
    shows = shows_none gathering.wanted.choice.only gathering.wanted.span (Some header) gathering.shown.text.items fresh.empty;
  };
}

-- a text without lines
pub nothing_shown : (chosen : Chosen) (left rest : Bytes) (output : Output) → Holds left rest no_lines
    → ShowsInput (Ok tt) chosen (streams_of left output) (streams_of rest output)
nothing_shown chosen left rest output holds = (no_lines, holds, nothing_for chosen None output)

-- no header was read: nothing was shown
pub no_header : (chosen : Chosen) (line : Option ℕ) (left rest : Bytes) (output : Output) → Stops left rest line no_lines
    → StopsAt chosen line (streams_of left output) (streams_of rest output)
no_header chosen line left rest output stops = (no_lines, stops, nothing_for chosen None output)
