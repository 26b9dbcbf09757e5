-- One more entry of a history: it is made again, or it is the first that isn't legal.
use Rattle.std.proofs.Common.{◌≡◌, ℕ, ◌+◌, ◌<◌, ◌≤◌, Bool, List, [], ◌∷◌, ◌++◌, take, length, refl, sym, ap, subst, ◌∙◌, arith, Option, Some, None, MatchOption}
use Rattle.std.specs.Prelude.{slice_get}
use Rattle.std.proofs.lemmas.List.{take-append-le, take_all}
use Rattle.std.proofs.lemmas.Option.{slice_get_within}
use Rattle.irp_types.specs.Packet.{PacketValue}
use Rattle.irp_types.specs.State.{StateValue, Fixed, Tables, packet_of}
use Rattle.irp_types.specs.Histories.{LeadsTo, IsEntryAt, IsLegal, HistoryGoesOn, HistorySettlesStates}
use Rattle.irp_types.specs.Refusals.{first_refusal}
use Rattle.irp_types.specs.Standing.{StandingFacts}
use Rattle.irp_types.specs.Steps.{Unasked, Cancels, Effect, Step}
use Rattle.irp_types.specs.declared.names.IrpRef.{IrpRef}
use Rattle.irp_types.specs.declared.names.CancelId.{CancelId}
use Rattle.irp_types.specs.Calls.{Call}
use Rattle.irp_types.specs.declared.call.Call.TheVariants.{CreateDevice, Attach, Detach, Delete, Allocate, Free, Reuse, SetNext, CopyToNext, Skip, SetRoutine, MarkPending, CallDriver, Complete, FinishTaken, SetCancelRoutine, Cancel, Look}
use Rattle.irp_types.specs.declared.asked.Asked.{Asked}
use Rattle.irp_types.specs.declared.entry.Entry.{Entry}
use Rattle.irp_types.specs.declared.refusal.Refusal.{Refusal}
use Rattle.irp_types.specs.declared.reply.Reply.{Reply}
use Rattle.irp_types.specs.declared.reply.Reply.TheVariants.{Done, Device, Irp, Status as StatusIs, Previous, Cancelled, Seen as SeenAs, Refused}
use Rattle.irp_types.proofs.LongerLists.{get_front, get_last}
use Rattle.irp_judge.specs.Differences.{Differs}
use Rattle.irp_judge.specs.Causes.{cause_of, cause_in}
use Rattle.irp_judge.specs.Checked.{IsFirstIllegal, IsWrong}
use Rattle.irp_judge.specs.Judging.{followed}
use Rattle.irp_judge.specs.Replayed.{IsMadeOf, IsSlotTold}
use Rattle.irp_judge.specs.declared.verdict.Wrong.{Wrong}
use Rattle.irp_judge.proofs.AskedOnce.{step_apart}
use Rattle.irp_judge.proofs.Unallowed.{difference_unallowed}
use Rattle.irp_judge.proofs.Verdicts.{not_legal}

-- ---- a call that is refused changes nothing

cancelled : (tables : Tables) (irp : IrpRef) (old new : PacketValue) (routine : Option CancelId) (asked : List Asked) (refusal : Refusal)
    → Cancels tables irp old routine asked (Refused refusal) new → ⊥
cancelled tables irp old new None asked refusal done = cc (done.1)
cancelled tables irp old new (Some routine) asked refusal done = cc (done.5)

-- no call that is carried out is answered by a refusal
carried_out : (fixed : Fixed) (old new : StateValue) (call : Call) (asked : List Asked) (refusal : Refusal)
    → Effect fixed old call asked (Refused refusal) new → ⊥
carried_out fixed old new (CreateDevice driver lock) asked refusal done = cc (done.1)
carried_out fixed old new (Attach device to) asked refusal done = cc (done.1)
carried_out fixed old new (Detach lower) asked refusal done = cc (done.1)
carried_out fixed old new (Delete device) asked refusal done = cc (done.1)
carried_out fixed old new (Allocate size) asked refusal done = cc (done.2.1)
carried_out fixed old new (Free irp) asked refusal done = cc (done.1)
carried_out fixed old new (Reuse irp status) asked refusal done = cc (done.1)
carried_out fixed old new (SetNext party irp major word) asked refusal done = cc (done.1)
carried_out fixed old new (CopyToNext party irp) asked refusal done = cc (done.1)
carried_out fixed old new (Skip party irp) asked refusal done = cc (done.1)
carried_out fixed old new (SetRoutine party irp setting) asked refusal done = cc (done.1)
carried_out fixed old new (MarkPending party irp) asked refusal done = cc (done.1)
carried_out fixed old new (CallDriver party irp target) asked refusal done = cc (done.3)
carried_out fixed old new (Complete party irp status information) asked refusal done = cc (done.2)
carried_out fixed old new (FinishTaken irp token status information) asked refusal done = cc (done.2)
carried_out fixed old new (SetCancelRoutine party irp cancel) asked refusal done = cc (done.1)
carried_out fixed old new (Cancel irp) asked refusal done =
    cancelled fixed.tables irp (packet_of old irp) done.0 (packet_of old irp).cancel_routine asked refusal done.1
carried_out fixed old new (Look irp) asked refusal done = cc (done.1)

stays : (fixed : Fixed) (old new : StateValue) (call : Call) (asked : List Asked) (refusal : Refusal) (refused : Option Refusal)
    → MatchOption refused (Effect fixed old call asked (Refused refusal) new) (λ given. Unasked asked (Refused refusal) new (Refused given) old)
    → new ≡ old
stays fixed old new call asked refusal None step = absurd (carried_out fixed old new call asked refusal step)
stays fixed old new call asked refusal (Some refused) step = step.2

-- so what a refusal comes from stands in the state behind the call as well
pub cause_stays : (fixed : Fixed) (old new : StateValue) (drained : Bool) (call : Call) (asked : List Asked) (reply : Reply)
    → Step fixed old drained call asked reply new → cause_in new call reply ≡ cause_in old call reply
cause_stays fixed old new drained call asked Done step = refl
cause_stays fixed old new drained call asked (Device device) step = refl
cause_stays fixed old new drained call asked (Irp irp) step = refl
cause_stays fixed old new drained call asked (StatusIs status) step = refl
cause_stays fixed old new drained call asked (Previous routine) step = refl
cause_stays fixed old new drained call asked (Cancelled was) step = refl
cause_stays fixed old new drained call asked (SeenAs seen) step = refl
cause_stays fixed old new drained call asked (Refused refusal) step =
    ap (λ (state : StateValue). Some (cause_of state call refusal))
    (stays fixed old new call asked refusal (first_refusal fixed old drained call) step)

-- ---- one more entry

-- a beginning of a history is one of a longer history
begins : (history : List Entry) (entry : Entry) (n : ℕ) → n ≤ length history → take n (history ++ entry ∷ []) ≡ take n history
begins history entry n within = take-append-le n history (entry ∷ []) within

whole : (history : List Entry) (entry : Entry) (n : ℕ) → n ≡ length history → take n (history ++ entry ∷ []) ≡ history
whole history entry n is = begins history entry n (omega (arith, is)) ∙ take_all n history (omega (arith, is))

-- what is wrong stays so, and so does what the manager could follow
pub wrong_stays : (fixed : Fixed) (history : List Entry) (entry : Entry) (wrong : Wrong) → IsWrong fixed history wrong → IsWrong fixed (history ++ entry ∷ []) wrong
wrong_stays fixed history entry wrong is =
    let within : wrong.at < length history = slice_get_within history wrong.at is.entry is.there in
    let before : take wrong.at (history ++ entry ∷ []) ≡ take wrong.at history = begins history entry wrong.at (omega (arith, within)) in
    let upto : take (wrong.at + 1) (history ++ entry ∷ []) ≡ take (wrong.at + 1) history = begins history entry (wrong.at + 1) (omega (arith, within)) in
    record {
      first = (subst (IsLegal fixed) (sym before) is.first.0, λ legal. is.first.1 (subst (IsLegal fixed) upto legal));
      entry = is.entry;
      there = get_front history (entry ∷ []) wrong.at is.entry is.there;
      seat = is.seat;
      call = is.call;
      goes_on = subst (λ (given : List Entry). IsLegal fixed (given ++ wrong.made ∷ [])) (sym before) is.goes_on;
      told = is.told;
      drained = is.drained;
      slot = λ state leads. is.slot state (subst (λ (given : List Entry). LeadsTo fixed given state) before leads);
      differs = is.differs;
      unallowed = is.unallowed;
      cause = λ state leads. is.cause state (subst (λ (given : List Entry). LeadsTo fixed given state) before leads);
    }

pub followed_stays : (fixed : Fixed) (history : List Entry) (entry : Entry) (wrong : Wrong) → IsWrong fixed history wrong
    → followed (history ++ entry ∷ []) (Some wrong) ≡ followed history (Some wrong)
followed_stays fixed history entry wrong is =
    let within : wrong.at < length history = slice_get_within history wrong.at is.entry is.there in
    ap (λ (given : List Entry). given ++ wrong.made ∷ []) (begins history entry wrong.at (omega (arith, within)))

-- behind this history, which leads to the old state, the manager goes on to the new one with an entry that isn't this one
pub record IsRefuted (fixed : Fixed) (history : List Entry) (old new : StateValue) (entry : Entry) (wrong : Wrong) : Type 0 where
  pub place : wrong.at ≡ length history
  pub stands : StandingFacts fixed.tables.counts old
  pub leads : LeadsTo fixed history old
  pub made : IsMadeOf fixed wrong.at old entry wrong.made new
  pub differs : Differs wrong.difference entry wrong.made
  pub apart : entry ≡ wrong.made → ⊥
  pub cause : wrong.cause ≡ cause_in new wrong.made.call wrong.made.reply

module _ (goes_on : HistoryGoesOn) (settles : HistorySettlesStates) (fixed : Fixed) (history : List Entry) (old new : StateValue) (entry : Entry) where
  -- the entry that the manager makes follows
  made_leads : (made : Entry) (place : ℕ) → place ≡ length history → LeadsTo fixed history old → IsMadeOf fixed place old entry made new → LeadsTo fixed (history ++ made ∷ []) new
  made_leads made place is leads of = goes_on fixed history old made new leads (subst (λ (number : ℕ). IsEntryAt fixed number old made new) is of.follows)

  -- an entry that is made again
  pub right_leads : (made : Entry) (place : ℕ) → place ≡ length history → LeadsTo fixed history old → IsMadeOf fixed place old entry made new → entry ≡ made → LeadsTo fixed (history ++ entry ∷ []) new
  right_leads made place is leads of same = subst (λ (given : Entry). LeadsTo fixed (history ++ given ∷ []) new) (sym same) (made_leads made place is leads of)

  -- it is the first that isn't legal
  module _ (wrong : Wrong) (is : IsRefuted fixed history old new entry wrong) where
    longer : List Entry
    longer = history ++ entry ∷ []

    before : take wrong.at longer ≡ history
    unfolding longer
    before = whole history entry wrong.at is.place

    there : slice_get longer wrong.at ≡ Some entry
    unfolding longer
    there = ap (slice_get longer) is.place ∙ get_last history entry

    on : LeadsTo fixed (take wrong.at longer ++ wrong.made ∷ []) new
    on = subst (λ (given : List Entry). LeadsTo fixed (given ++ wrong.made ∷ []) new) (sym before) (made_leads wrong.made wrong.at is.place is.leads is.made)

    led : LeadsTo fixed (take wrong.at longer) old
    led = subst (λ (given : List Entry). LeadsTo fixed given old) (sym before) is.leads

    first : IsFirstIllegal fixed longer wrong.at
    first = (
      (led.0, led.1),
      not_legal settles fixed longer wrong.at old entry there led (is.made.other (λ same. is.apart (sym same))),
    )

    -- the entries before it lead to no other state
    same_state : (state : StateValue) → LeadsTo fixed (take wrong.at longer) state → old ≡ state
    same_state state other =
        let states : other.0 ≡ led.0 = settles fixed (take wrong.at longer) other.0 led.0 other.1 led.1 in
        let found : Some state ≡ Some old = sym other.2 ∙ ap (λ (given : List StateValue). slice_get given (length (take wrong.at longer))) states ∙ led.2 in
        cc (found)

    same_cause : (state : StateValue) → LeadsTo fixed (take wrong.at longer) state → wrong.cause ≡ cause_in state wrong.made.call wrong.made.reply
    same_cause state other =
        is.cause
        ∙ cause_stays fixed old new wrong.made.drained wrong.made.call wrong.made.asked wrong.made.reply is.made.follows.step
        ∙ ap (λ (given : StateValue). cause_in given wrong.made.call wrong.made.reply) (same_state state other)

    pub wrong_here : IsWrong fixed (history ++ entry ∷ []) wrong
    unfolding longer
    wrong_here = record {
      first = first;
      entry = entry;
      there = there;
      seat = is.made.seat;
      call = is.made.call;
      goes_on = (on.0, on.1);
      told = is.made.told;
      drained = is.made.drained;
      slot = λ state other. subst (λ (given : StateValue). IsSlotTold given entry wrong.made) (same_state state other) is.made.slot;
      differs = is.differs;
      unallowed = difference_unallowed fixed.tables entry wrong.made wrong.difference
          (step_apart fixed old new wrong.made.drained wrong.made.call wrong.made.asked wrong.made.reply is.stands is.made.follows.step) is.made.told is.differs;
      cause = same_cause;
    }

    pub wrong_leads : LeadsTo fixed (followed (history ++ entry ∷ []) (Some wrong)) new
    unfolding longer
    wrong_leads = on
