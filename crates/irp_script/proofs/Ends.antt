-- What is said of a run whose questions are answered in one way is said of one where they are answered in another that
-- allows as much.
use Rattle.std.proofs.Common.{ℕ, All, Option, Some, None, List, inl, inr}
use Rattle.std.proofs.lemmas.List.Elements.{All-weaker}
use Rattle.irp_types.specs.State.{Fixed}
use Rattle.irp_types.specs.declared.asked.Asked.{Asked}
use Rattle.irp_types.specs.declared.entry.Entry.{Entry}
use Rattle.irp_shared.specs.Answered.{EachAnswered}
use Rattle.irp_shared.specs.Sharing.{FindsFull}
use Rattle.irp_transcript.specs.declared.word_line.WordLine.{WordLine}
use Rattle.irp_script_reader.specs.declared.act.Step.{Step}
use Rattle.irp_steps.specs.StepKinds.{kind_of}
use Rattle.irp_steps.specs.declared.step_kind.StepKind.{StepKind}
use Rattle.irp_steps.specs.declared.step_kind.StepKind.TheVariants.{Calls, OnLock, Hands, OnSlot, Finishes}
use Rattle.irp_script.specs.AtSlots.{AtSlots}
use Rattle.irp_script.specs.Labels.{Known}
use Rattle.irp_script.specs.Stops.{IsUnmade, IsUnrecorded, terms_of}
use Rattle.irp_script.specs.Working.{AloneStops, AtWork, IsStopAt, MakesOwn, RunsScript, StopsAt, StopsBy, WorkAfter, Working}
use Rattle.irp_script.specs.declared.stop.Stop.{Stop}
use Rattle.irp_script.specs.declared.stop.StopReason.{StopReason}
use Rattle.irp_script.specs.declared.stop.StopReason.TheVariants as reason

-- what may be answered in one way may be in the other
abbrev pub Tells : (Asked → Type 0) → (Asked → Type 0) → Type 0
Tells may other = (asked : Asked) → ∥ may asked ∥₁ → ∥ other asked ∥₁

pub told_each : (may other : Asked → Type 0) → Tells may other → (history : List Entry) → EachAnswered may history → EachAnswered other history
told_each may other tells history each =
    All-weaker (λ (entry : Entry). All (λ asked. ∥ may asked ∥₁) entry.asked) (λ (entry : Entry). All (λ asked. ∥ other asked ∥₁) entry.asked)
    (λ entry all. All-weaker (λ asked. ∥ may asked ∥₁) (λ asked. ∥ other asked ∥₁) tells entry.asked all) history each

full_so : (fixed : Fixed) (may other : Asked → Type 0) → Tells may other → (seen : ℕ) → FindsFull fixed may seen → FindsFull fixed other seen
full_so fixed may other tells seen full = record {
  history = full.history;
  legal = full.legal;
  answered = told_each may other tells full.history full.answered;
  reached = full.reached;
  full = full.full;
}

unrecorded_so : (fixed : Fixed) (may other : Asked → Type 0) → Tells may other → (seen : ℕ) (why : StopReason) → IsUnrecorded (terms_of fixed may) seen why → IsUnrecorded (terms_of fixed other) seen why
unrecorded_so fixed may other tells seen reason.Memory so = so
unrecorded_so fixed may other tells seen (reason.Behind length) so = so
unrecorded_so fixed may other tells seen reason.HistoryFull so = full_so fixed may other tells seen so
unrecorded_so fixed may other tells seen reason.NoSeat so = so
unrecorded_so fixed may other tells seen reason.NoTaker so = so
unrecorded_so fixed may other tells seen reason.SameSeat so = so
unrecorded_so fixed may other tells seen reason.NotOwner so = so
unrecorded_so fixed may other tells seen reason.TooManySteps so = so

unmade_so : (fixed : Fixed) (may other : Asked → Type 0) → Tells may other → (kind : StepKind) (seen : ℕ) (parties : AtSlots) (why : StopReason)
    → IsUnmade (terms_of fixed may) kind seen parties why → IsUnmade (terms_of fixed other) kind seen parties why
unmade_so fixed may other tells Calls seen parties why so = unrecorded_so fixed may other tells seen why so
unmade_so fixed may other tells (Finishes slot status information) seen parties why so = unrecorded_so fixed may other tells seen why so
unmade_so fixed may other tells (OnLock on) seen parties why so = so
unmade_so fixed may other tells (OnSlot on) seen parties why so = so
unmade_so fixed may other tells (Hands hand) seen parties why so = so

alone_so : (fixed : Fixed) (may other : Asked → Type 0) → Tells may other → (kind : StepKind) (step : Step) (seats : List AtWork) (why : StopReason)
    → AloneStops (terms_of fixed may) kind step seats why → AloneStops (terms_of fixed other) kind step seats why
alone_so fixed may other tells kind step seats why (inl none) = inl none
alone_so fixed may other tells kind step seats why (inr (at, own, there, named, unmade)) =
    inr (at, own, there, named, unmade_so fixed may other tells kind own.seat.seen own.parties why unmade)

by_so : (fixed : Fixed) (may other : Asked → Type 0) → Tells may other → (kind : StepKind) (step : Step) (seats : List AtWork) (why : StopReason)
    → StopsBy (terms_of fixed may) kind step seats why → StopsBy (terms_of fixed other) kind step seats why
by_so fixed may other tells (Hands hand) step seats why so = so
by_so fixed may other tells Calls step seats why so = alone_so fixed may other tells Calls step seats why so
by_so fixed may other tells (OnLock on) step seats why so = alone_so fixed may other tells (OnLock on) step seats why so
by_so fixed may other tells (OnSlot on) step seats why so = alone_so fixed may other tells (OnSlot on) step seats why so
by_so fixed may other tells (Finishes slot status information) step seats why so =
    alone_so fixed may other tells (Finishes slot status information) step seats why so

at_so : (fixed : Fixed) (may other : Asked → Type 0) → Tells may other → (place : ℕ) (step : Step) (seats : List AtWork) (why : StopReason)
    → StopsAt (terms_of fixed may) place step seats why → StopsAt (terms_of fixed other) place step seats why
at_so fixed may other tells place step seats why (inl many) = inl many
at_so fixed may other tells place step seats why (inr so) = inr (by_so fixed may other tells (kind_of step.act) step seats why so)

stop_so : (fixed : Fixed) (may other : Asked → Type 0) → Tells may other → (number workers place : ℕ) (step : Step) (work : Working) (stop : Stop)
    → IsStopAt (terms_of fixed may) number workers place step work stop → IsStopAt (terms_of fixed other) number workers place step work stop
stop_so fixed may other tells number workers place step work stop so = record {
  own = so.own;
  applied = so.applied;
  named = so.named;
  why = at_so fixed may other tells place step work.seats stop.reason so.why;
}

own_so : (fixed : Fixed) (may other : Asked → Type 0) → Tells may other → (number workers : ℕ) (steps : List Step) (before after : Working) (stop : Option Stop)
    → MakesOwn (terms_of fixed may) number workers steps before after stop → MakesOwn (terms_of fixed other) number workers steps before after stop
own_so fixed may other tells number workers steps before after stop made = record {
  reached = made.reached;
  within = made.within;
  each = made.each;
  all = made.all;
  next = λ told is.
      let here = made.next told is in
      (here.0, here.1, stop_so fixed may other tells number workers made.reached here.0 after told here.2);
}

after_so : (fixed : Fixed) (may other : Asked → Type 0) → Tells may other → (halted : Option Stop) (workers : ℕ) (steps : List Step) (known : Known) (ready after : List AtWork) (lines : List WordLine) (stop : Option Stop)
    → WorkAfter halted (terms_of fixed may) workers steps known ready after lines stop → WorkAfter halted (terms_of fixed other) workers steps known ready after lines stop
after_so fixed may other tells (Some told) workers steps known ready after lines stop work = work
after_so fixed may other tells None workers steps known ready after lines stop work = record {
  dealt = work.dealt;
  left = work.left;
  many = work.many;
  seats = work.seats;
  own = work.own;
  made = λ number seats one there here. own_so fixed may other tells number workers steps _ one.work one.stop (work.made number seats one there here);
  back = work.back;
  told = work.told;
  halted = work.halted;
  labels = work.labels;
}

pub runs_so : (fixed : Fixed) (may other : Asked → Type 0) → Tells may other → (workers labels : ℕ) (setup steps : List Step) (before after : List AtWork) (lines : List WordLine) (stop : Option Stop)
    → RunsScript (terms_of fixed may) workers labels setup steps before after lines stop → RunsScript (terms_of fixed other) workers labels setup steps before after lines stop
runs_so fixed may other tells workers labels setup steps before after lines stop runs = record {
  ready = runs.ready;
  halted = runs.halted;
  first = own_so fixed may other tells 0 1 setup _ runs.ready runs.halted runs.first;
  rest = after_so fixed may other tells runs.halted workers steps runs.ready.known runs.ready.seats after lines stop runs.rest;
}
