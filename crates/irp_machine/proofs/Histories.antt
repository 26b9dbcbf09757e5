-- Steps with their entries.
use Rattle.std.proofs.Common.{◌≡◌, ℕ, Bool, true, false, List, [], ◌∷◌, ◌++◌, length, Option, Some, None, refl, sym, ap, subst, ◌∙◌}
use Rattle.std.proofs.lemmas.Option.{same_Some, none-some, slice_get_within, get_or_from_slice_get}
use Rattle.irp_types.specs.State.{StateValue}
use Rattle.irp_types.specs.Steps.{Step}
use Rattle.irp_types.specs.Histories.{LeadsTo, HistoryGoesOn, IsEntryAt, lock_of}
use Rattle.irp_types.specs.declared.asked.Asked.{Asked}
use Rattle.irp_types.specs.declared.entry.Entry.{Entry}
use Rattle.irp_transcript.specs.Headers.{fixed_of}
use Rattle.irp_transcript.specs.declared.header.Header.{Header}
use Rattle.irp_manager.specs.Notes.{known_by}
use Rattle.irp_manager.specs.declared.manager_state.Applied.{Applied}
use Rattle.irp_manager.proofs.Recording.{leads_none, leads_more, undrained}
use Rattle.irp_plain.specs.Seats.{SeatValue}
use Rattle.irp_plain.specs.declared.parts.After.{After}
use Rattle.irp_plain.specs.declared.parts.Change.{Change}
use Rattle.irp_plain.specs.declared.parts.Learned.{Learned}
use Rattle.irp_script_reader.specs.declared.script.ScriptParts.{ScriptParts}
use Rattle.irp_machine.specs.declared.outcome.End.{End}
use Rattle.irp_machine.specs.declared.outcome.Outcome.{Outcome}
use Rattle.irp_machine.specs.declared.parts.Calling.{Calling}
use Rattle.irp_machine.specs.declared.parts.Next.{Next}
use Rattle.irp_machine.specs.declared.parts.Next.TheVariants.{Changes, Calls}
use Rattle.irp_machine.specs.declared.parts.Planned.{Planned}
use Rattle.irp_machine.specs.Calling.{IsApplied}
use Rattle.irp_machine.specs.Endings.{end_of}
use Rattle.irp_machine.specs.Machine.{RulesValue, Acts, allocates, ClosesIf, IsNext, Makes, StepsTo, act_of, has_ended, knows_of, seat_at, manager_behind}
use Rattle.irp_machine.specs.Next.{called, next_of}
use Rattle.irp_machine.specs.Openings.{MakesAll, Opens, begun, first_standing, rules_of, seats_of}
use Rattle.irp_machine.specs.Orders.{IsOrder}
use Rattle.irp_machine.specs.Replays.{IsActed, IsPlayed, IsSetUp, Plays, PlaysIn, PlaysSo, Records, OrdersHaveHistories, ReplaysEndSo, told_end}
use Rattle.irp_machine.specs.Settled.{steps_settled}
use Rattle.irp_machine.specs.Standings.{StandingValue, after_change, with_manager}
use Rattle.irp_machine.proofs.OneHeader.{header_once}
use Rattle.irp_machine.proofs.Untold.{all_untold, end_untold, seats_begun, silent, untold}

-- ---- calls

module _ (rules : RulesValue) (standing new : StandingValue) (seat : ℕ) (planned : Planned) (calling : Calling) (learned : List Learned) (applied : Applied) (change : Change)
    (same : learned ≡ (seat_at standing seat).learned)
    (given : IsApplied rules.fixed rules.script (allocates rules.acts) (knows_of learned) standing.manager calling.call applied new.manager)
    (rest : new ≡ with_manager standing new.manager)
    (is : change ≡ called planned calling applied.reply) where
  own : IsApplied rules.fixed rules.script (allocates rules.acts) (knows_of (seat_at standing seat).learned) standing.manager calling.call applied new.manager
  own = subst (λ (learned : List Learned). IsApplied rules.fixed rules.script (allocates rules.acts) (knows_of learned) standing.manager calling.call applied new.manager) same given

  -- a call that was made is what comes next
  pub call_acted : Acts rules standing seat planned (Calls calling) new change
  call_acted = (record { after = new.manager; drained = applied.drained; reply = applied.reply; call = own.called; changes = is }, rest)

  -- its entry
  abbrev entry_for : ℕ → List Asked → Entry
  entry_for number asked = record {
    number = number;
    call = calling.call;
    asked = asked;
    reply = applied.reply;
    seat = seat;
    lock = applied.lock;
    drained = applied.drained;
  }

  -- with its entry the history goes on
  pub call_recorded : (asked : List Asked) (number : ℕ) (old entries : List Entry) → HistoryGoesOn → asked ≡ applied.asked.items → number ≡ length old
      → entries ≡ old ++ entry_for number asked ∷ [] → LeadsTo rules.fixed old standing.manager.state
      → IsActed rules standing seat planned (Calls calling) old new entries change × LeadsTo rules.fixed entries new.manager.state
  unfolding call_acted own
  call_recorded asked number old entries goes_on asked_is number_is grown leads =
      let entry = entry_for number asked in
      let called = own.called in
      let questions : asked ≡ called.asked = asked_is ∙ own.asked in
      let at : IsEntryAt rules.fixed (length old) standing.manager.state entry new.manager.state = record {
        numbered = number_is;
        lock = own.lock;
        undrained = undrained (knows_of (seat_at standing seat).learned) applied.lock applied.drained (called.noted ∙ ap (known_by (knows_of (seat_at standing seat).learned)) (sym own.lock));
        step = subst (λ (asked : List Asked). Step rules.fixed standing.manager.state applied.drained calling.call asked applied.reply new.manager.state) (sym questions) called.step;
      } in (
        (call_acted, (entry, number_is, record { caller = refl; call = refl; asked = questions; reply = refl; lock = own.lock; drained = refl }, grown)),
        leads_more goes_on rules.fixed old entries standing.manager.state new.manager.state entry leads at grown,
      )

-- ---- steps

pub step_made : (rules : RulesValue) (standing : StandingValue) (old new : List Entry) (seat : ℕ) (act : Option Planned) (after : StandingValue)
    → PlaysIn rules standing old seat act after new → StepsTo rules standing seat act (Some after)
step_made rules standing old new seat None after plays = absurd plays
step_made rules standing old new seat (Some planned) after plays = (after, refl, plays.0)

-- what was made and recorded, and then the change
pub played_so : (rules : RulesValue) (standing middle new : StandingValue) (seat : ℕ) (planned : Planned) (old entries : List Entry) (change : Change)
    → IsActed rules standing seat planned (next_of standing (seat_at standing seat) planned) old middle entries change
    → new ≡ after_change seat change planned.place rules.tells middle → PlaysSo rules standing old seat planned new entries change.after
played_so rules standing middle new seat planned old entries change acted after =
    ((change, acted.0.0, after ∙ ap (λ (middle : StandingValue). after_change seat change planned.place rules.tells middle) acted.0.1), acted.1, refl)

-- the step that comes next
pub played_in : (rules : RulesValue) (standing new : StandingValue) (seat : ℕ) (planned : Planned) (act : Option Planned) (old entries : List Entry) (behind : After)
    → act ≡ Some planned → PlaysSo rules standing old seat planned new entries behind → PlaysIn rules standing old seat act new entries
played_in rules standing new seat planned act old entries behind is so =
    subst (λ (act : Option Planned). PlaysIn rules standing old seat act new entries) (sym is) (so.0, so.1)

-- steps that were recorded were made
pub all_made : (rules : RulesValue) (standing : StandingValue) (old new : List Entry) (path : List ℕ) (last : StandingValue)
    → Plays rules standing old path last new → MakesAll rules standing path last
all_made rules standing old new [] last plays = plays.0
all_made rules standing old new (seat ∷ path) last plays =
    (plays.0, step_made rules standing old plays.1 seat (act_of rules standing seat) plays.0 plays.2, all_made rules plays.0 plays.1 new path last plays.3)

-- steps lead to one standing
same_option : (one other : StandingValue) → Some one ≡ Some other → one ≡ other
same_option one other same = same_Some one other same

pub all_settled : (rules : RulesValue) (standing : StandingValue) (path : List ℕ) (one other : StandingValue)
    → MakesAll rules standing path one → MakesAll rules standing path other → one ≡ other
all_settled rules standing [] one other first second = sym first ∙ second
all_settled rules standing (seat ∷ path) one other first second =
    let same = same_option first.0 second.0 (steps_settled rules standing seat (act_of rules standing seat) (Some first.0) (Some second.0) first.1 second.1) in
    all_settled rules first.0 path one other first.2 (subst (λ (middle : StandingValue). MakesAll rules middle path other) (sym same) second.2)

-- a script begins in one standing, in which nobody was told anything
pub starts_once : (header : Header) (script : ScriptParts) (one other : StandingValue) → Opens header script one → Opens header script other → one ≡ other
starts_once header script one other first second =
    let ended =
    all_settled (rules_of header script [] script.setup false) (first_standing header script) (seats_of script.setup) first.0 second.0 first.1 second.1 in
    first.2 ∙ ap (λ (ended : StandingValue). begun header ended.manager ended.labels) ended ∙ sym second.2

pub start_untold : (header : Header) (script : ScriptParts) (start : StandingValue) → Opens header script start → untold start ≡ start
start_untold header script start opens =
    subst (λ (start : StandingValue). untold start ≡ start) (sym opens.2)
    (ap (λ (seats : List SeatValue). record (begun header opens.0.manager opens.0.labels) { seats = seats }) (seats_begun header.seats))

-- how an order closes
closed_by : (rules : RulesValue) (standing : StandingValue) (end : End) (ended : Bool) → ClosesIf rules standing ended (Some end) → end ≡ end_of standing
closed_by rules standing end true closes = same_Some end (end_of standing) closes
closed_by rules standing end false closes = absurd (none-some end (sym closes))

-- where an order is played it leads to the end that is told
module _ (header : Header) (script : ScriptParts) (start : StandingValue) (path : List ℕ) (end : End) (opens : Opens header script start)
    (last : StandingValue) (entries : List Entry) (played : IsPlayed header script true path last entries) where
  abbrev rules : RulesValue
  rules = rules_of header script script.steps script.steps true

  began : start ≡ begun header played.ended.manager played.ended.labels
  began =
      let setting = rules_of header script [] script.setup false in
      let ended : opens.0 ≡ played.ended =
      all_settled setting (first_standing header script) (seats_of script.setup) opens.0 played.ended opens.1
      (all_made setting (first_standing header script) [] played.front (seats_of script.setup) played.ended played.setup) in
      opens.2 ∙ ap (λ (ended : StandingValue). begun header ended.manager ended.labels) ended

  makes : MakesAll rules start path last
  makes =
      subst (λ (start : StandingValue). MakesAll rules start path last) (sym began)
      (all_made rules (begun header played.ended.manager played.ended.labels) played.front entries path last played.steps)

  played_ends : (tells : Bool) → IsOrder (rules_of header script script.steps script.steps tells) start path end → end ≡ told_end tells (end_of last)
  played_ends true order =
      let same : order.0 ≡ last = all_settled rules start path order.0 last order.1 makes in
      closed_by rules last end (has_ended rules last)
      (subst (λ (last : StandingValue). ClosesIf rules last (has_ended rules last) (Some end)) same order.2)
  played_ends false order =
      let quiet : MakesAll (silent rules) start path (untold last) =
      subst (λ (start : StandingValue). MakesAll (silent rules) start path (untold last)) (start_untold header script start opens) (all_untold rules start path last makes) in
      let same : order.0 ≡ untold last = all_settled (silent rules) start path order.0 (untold last) order.1 quiet in
      closed_by (silent rules) order.0 end (has_ended (silent rules) order.0) order.2
      ∙ ap (λ (standing : StandingValue). end_of standing) same ∙ end_untold last

pub replays_end : ReplaysEndSo
replays_end script tells outcomes k outcome transcript found at replay =
    let same = header_once script found.header replay.header found.headed replay.headed in
    let within = slice_get_within outcomes k outcome at in
    let given = get_or_from_slice_get outcomes k outcome outcome at in
    let order : IsOrder (rules_of found.header script script.steps script.steps tells) found.start outcome.path.items outcome.end =
    subst (λ (one : Outcome). IsOrder (rules_of found.header script script.steps script.steps tells) found.start one.path.items one.end) given (found.whole.sound k outcome within) in
    played_ends replay.header script found.start outcome.path.items outcome.end
    (subst (λ (header : Header). Opens header script found.start) same found.opens) replay.last transcript.entries replay.played tells
    (subst (λ (header : Header). IsOrder (rules_of header script script.steps script.steps tells) found.start outcome.path.items outcome.end) same order)

-- ---- the setup, and the steps behind it

pub set_up : (header : Header) (script : ScriptParts) (rules : RulesValue) (first ended start : StandingValue) (path : List ℕ) (old new : List Entry)
    → rules ≡ rules_of header script [] script.setup false → first ≡ first_standing header script → path ≡ seats_of script.setup
    → Plays rules first old path ended new → start ≡ begun header ended.manager ended.labels → IsSetUp header script old new start
set_up header script given first ended start path old new is_rules is_first is_path plays begun =
    let setting = rules_of header script [] script.setup false in
    let by_rules = subst (λ (rules : RulesValue). Plays rules first old path ended new) is_rules plays in
    let by_first = subst (λ (first : StandingValue). Plays setting first old path ended new) is_first by_rules in
    record {
      ended = ended;
      setup = subst (λ (path : List ℕ). Plays setting (first_standing header script) old path ended new) is_path by_first;
      begun = begun;
    }

pub played_on : (header : Header) (script : ScriptParts) (path : List ℕ) (start last : StandingValue) (front entries : List Entry)
    → IsSetUp header script [] front start → Plays (rules_of header script script.steps script.steps true) start front path last entries
    → LeadsTo (fixed_of header) entries last.manager.state → IsPlayed header script true path last entries
played_on header script path start last front entries setup plays history = record {
  ended = setup.ended;
  front = front;
  setup = setup.setup;
  steps = subst (λ (start : StandingValue). Plays (rules_of header script script.steps script.steps true) start front path last entries) setup.begun plays;
  history = history;
}

pub opens_of : (header : Header) (script : ScriptParts) (entries : List Entry) (start : StandingValue) → IsSetUp header script [] entries start → Opens header script start
opens_of header script entries start setup =
    let setting = rules_of header script [] script.setup false in
    (setup.ended, all_made setting (first_standing header script) [] entries (seats_of script.setup) setup.ended setup.setup, setup.begun)

-- ---- histories

module _ (goes_on : HistoryGoesOn) (rules : RulesValue) where
  -- what comes next can be recorded, and the history goes on
  next_recorded : (standing : StandingValue) (entries : List Entry) (seat : ℕ) (planned : Planned) (next : Next) (change : Change)
      → (is : IsNext rules standing seat planned next change) → LeadsTo rules.fixed entries standing.manager.state
      → (new : List Entry) × Records rules standing seat planned next change is entries new
      × LeadsTo rules.fixed new (manager_behind rules standing seat planned next change is).state
  next_recorded standing entries seat planned (Changes one) change is leads = (entries, refl, leads)
  next_recorded standing entries seat planned (Calls calling) change one leads =
      let entry : Entry = record {
        number = length entries;
        call = calling.call;
        asked = one.call.asked;
        reply = one.reply;
        seat = seat;
        lock = lock_of standing.manager.state calling.call;
        drained = one.drained;
      } in
      let at : IsEntryAt rules.fixed (length entries) standing.manager.state entry one.after.state = record {
        numbered = refl;
        lock = refl;
        undrained = undrained (knows_of (seat_at standing seat).learned) (lock_of standing.manager.state calling.call) one.drained one.call.noted;
        step = one.call.step;
      } in (
        entries ++ entry ∷ [],
        (entry, refl, record { caller = refl; call = refl; asked = refl; reply = refl; lock = refl; drained = refl }, refl),
        goes_on rules.fixed entries standing.manager.state entry one.after.state leads at,
      )

  step_recorded : (standing : StandingValue) (entries : List Entry) (seat : ℕ) (act : Option Planned) (after : StandingValue)
      → StepsTo rules standing seat act (Some after) → LeadsTo rules.fixed entries standing.manager.state
      → (new : List Entry) × PlaysIn rules standing entries seat act after new × LeadsTo rules.fixed new after.manager.state
  step_recorded standing entries seat None after steps leads = absurd (none-some after (sym steps))
  step_recorded standing entries seat (Some planned) after steps leads =
      let next = next_of standing (seat_at standing seat) planned in
      let same : steps.0 ≡ after = sym (same_Some after steps.0 steps.1) in
      let made : Makes rules standing seat planned next after = subst (λ (new : StandingValue). Makes rules standing seat planned next new) same steps.2 in
      let recorded = next_recorded standing entries seat planned next made.0 made.1 leads in
      let state = sym (ap (λ (after : StandingValue). after.manager.state) made.2) in
      (recorded.0, (made, recorded.1), subst (λ (state : StateValue). LeadsTo rules.fixed recorded.0 state) state recorded.2)

  -- steps that were made can be recorded
  pub all_recorded : (standing : StandingValue) (entries : List Entry) (path : List ℕ) (last : StandingValue)
      → MakesAll rules standing path last → LeadsTo rules.fixed entries standing.manager.state
      → (new : List Entry) × Plays rules standing entries path last new × LeadsTo rules.fixed new last.manager.state
  all_recorded standing entries [] last makes leads =
      (entries, (makes, refl), subst (λ (standing : StandingValue). LeadsTo rules.fixed entries standing.manager.state) makes leads)
  all_recorded standing entries (seat ∷ path) last makes leads =
      let step = step_recorded standing entries seat (act_of rules standing seat) makes.0 makes.1 leads in
      let rest = all_recorded makes.0 step.0 path last makes.2 step.2 in
      (rest.0, (makes.0, step.0, step.1, rest.1), rest.2)

pub orders_recorded : HistoryGoesOn → OrdersHaveHistories
orders_recorded goes_on header script tells start path end opens order =
    let setting = rules_of header script [] script.setup false in
    let rules = rules_of header script script.steps script.steps tells in
    let front = all_recorded goes_on setting (first_standing header script) [] (seats_of script.setup) opens.0 opens.1 (leads_none (fixed_of header)) in
    let makes : MakesAll rules (begun header opens.0.manager opens.0.labels) path order.0 =
    subst (λ (start : StandingValue). MakesAll rules start path order.0) opens.2 order.1 in
    let steps = all_recorded goes_on rules (begun header opens.0.manager opens.0.labels) front.0 path order.0 makes front.2 in
    let played : IsPlayed header script tells path order.0 steps.0 = record {
      ended = opens.0;
      front = front.0;
      setup = front.1;
      steps = steps.1;
      history = steps.2;
    } in
    (order.0, steps.0, played, closed_by rules order.0 end (has_ended rules order.0) order.2)
