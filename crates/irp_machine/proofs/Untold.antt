-- An order goes on without what was told as it does with it.
use Rattle.std.proofs.Common.{◌≡◌, ℕ, zero, suc, Bool, true, false, List, [], ◌∷◌, ◌++◌, map, length, replicate, nat_lt, set, Option, Some, None, if◌then◌else◌, refl, sym, ap, subst, ◌∙◌}
use Rattle.std.specs.Prelude.{slice_get, slice_index_or, nat_le, position}
use Rattle.std.specs.Option.{option_map, option_map_or, option_and_then}
use Rattle.std.proofs.Math.ListN.{get_or-map}
use Rattle.std.proofs.lemmas.List.{length-map, map-set}
use Rattle.std.proofs.lemmas.Option.{slice_get-map, same_Some, none-some}
use Rattle.irp_types.specs.declared.names.IrpRef.{IrpRef}
use Rattle.irp_types.specs.declared.names.LockNo.{LockNo}
use Rattle.irp_types.specs.declared.seat_act.Hand.{Hand}
use Rattle.irp_types.specs.declared.seat_act.LockAct.{LockAct}
use Rattle.irp_types.specs.declared.seat_act.LockAct.TheVariants.{Acquire, Release, BeginRemove, Drained as AsksDrained}
use Rattle.irp_script_reader.specs.declared.act.StepAct.{StepAct}
use Rattle.irp_script_reader.specs.declared.act.StepAct.TheVariants as does
use Rattle.irp_plain.specs.Changes.{acquiring_at, beginning_at, on_word, hand, handing, lock_of, only, told, count_held}
use Rattle.irp_transcript.specs.declared.word_line.WordReply.TheVariants.{NoLock, NoToken, NotHeld}
use Rattle.irp_plain.specs.Lists.{with_item}
use Rattle.irp_plain.specs.Seats.{SeatValue, new_seat, after_step, is_held, with_held}
use Rattle.irp_plain.specs.declared.parts.After.TheVariants.{In}
use Rattle.irp_plain.specs.declared.parts.ActPlace.{ActPlace}
use Rattle.irp_plain.specs.declared.parts.Change.{Change}
use Rattle.irp_plain.specs.declared.parts.Given.{Given}
use Rattle.irp_plain.specs.declared.parts.Stage.{Stage}
use Rattle.irp_plain.specs.declared.parts.Stage.TheVariants as stages
use Rattle.irp_machine.specs.declared.outcome.Holder.{Holder}
use Rattle.irp_machine.specs.declared.outcome.LockEnd.{LockEnd}
use Rattle.irp_machine.specs.declared.outcome.Replies.{Replies}
use Rattle.irp_machine.specs.declared.parts.Next.{Next}
use Rattle.irp_machine.specs.declared.parts.Next.TheVariants.{Changes, Calls}
use Rattle.irp_machine.specs.declared.parts.Planned.{Planned}
use Rattle.irp_machine.specs.Calling.{IsCalled}
use Rattle.irp_machine.specs.Endings.{end_of, holds_of, holders_below, locks_below, replies_of, without_replies}
use Rattle.irp_machine.specs.Conditions.{act_now}
use Rattle.irp_machine.specs.Machine.{RulesValue, allocates, Makes, StepsTo, act_of, knows_of, seat_at}
use Rattle.irp_steps.specs.Labels.{packet_of}
use Rattle.irp_machine.specs.Next.{is_tokenless, naming_at, next_by, next_of, with_packet, with_token}
use Rattle.irp_machine.specs.Openings.{MakesAll}
use Rattle.irp_machine.specs.Standings.{StandingValue, after_change, with_given, with_seat_changed}

-- a seat without what it was told
abbrev pub untold_seat : SeatValue → SeatValue
untold_seat seat = record seat { told = [] }

-- a standing whose seats are without what they were told
abbrev pub untold : StandingValue → StandingValue
untold standing = record standing { seats = map untold_seat standing.seats }

-- rules by which nothing that is told is kept
abbrev pub silent : RulesValue → RulesValue
silent rules = record rules { tells = false }

-- ---- reading

seat_untold : (seats : List SeatValue) (seat : ℕ) → slice_index_or (map untold_seat seats) seat new_seat ≡ untold_seat (slice_index_or seats seat new_seat)
seat_untold seats seat = get_or-map untold_seat seats seat new_seat

acts_by : (rules : RulesValue) (seat : ℕ) (own : Option SeatValue)
    → option_and_then (λ (own : SeatValue). option_and_then (λ (acts : List Planned). act_now acts own) (slice_get rules.acts seat)) (option_map untold_seat own)
    ≡ option_and_then (λ (own : SeatValue). option_and_then (λ (acts : List Planned). act_now acts own) (slice_get rules.acts seat)) own
acts_by rules seat None = refl
acts_by rules seat (Some own) = refl

pub act_untold : (rules : RulesValue) (standing : StandingValue) (seat : ℕ) → act_of (silent rules) (untold standing) seat ≡ act_of rules standing seat
act_untold rules standing seat =
    ap (λ (own : Option SeatValue). option_and_then (λ (own : SeatValue). option_and_then (λ (acts : List Planned). act_now acts own) (slice_get rules.acts seat)) own)
    (slice_get-map untold_seat standing.seats seat)
    ∙ acts_by rules seat (slice_get standing.seats seat)

held_by : (own : Option SeatValue) → option_map_or (λ (own : SeatValue). length own.held) (option_map untold_seat own) 0 ≡ option_map_or (λ (own : SeatValue). length own.held) own 0
held_by None = refl
held_by (Some own) = refl

count_untold : (seats : List SeatValue) (seat : ℕ) → count_held (map untold_seat seats) seat ≡ count_held seats seat
count_untold seats seat =
    ap (λ (own : Option SeatValue). option_map_or (λ (own : SeatValue). length own.held) own 0) (slice_get-map untold_seat seats seat)
    ∙ held_by (slice_get seats seat)

-- ---- what comes next

acquiring_untold : (stage : Stage) (word : ℕ) (own : SeatValue) (lock tag : ℕ) → acquiring_at stage word (untold_seat own) lock tag ≡ acquiring_at stage word own lock tag
acquiring_untold stages.Between word own lock tag = refl
acquiring_untold (stages.Read irp) word own lock tag = refl
acquiring_untold (stages.Answered irp) word own lock tag = refl
acquiring_untold stages.Tried word own lock tag = refl
acquiring_untold stages.Begun word own lock tag = refl
acquiring_untold stages.Published word own lock tag = refl
acquiring_untold stages.FoundSet word own lock tag = refl
acquiring_untold stages.Flagged word own lock tag = refl

beginning_untold : (stage : Stage) (word : ℕ) (own : SeatValue) (lock tag : ℕ) → beginning_at stage word (untold_seat own) lock tag ≡ beginning_at stage word own lock tag
beginning_untold stages.Between word own lock tag = refl
beginning_untold (stages.Read irp) word own lock tag = refl
beginning_untold (stages.Answered irp) word own lock tag = refl
beginning_untold stages.Tried word own lock tag = refl
beginning_untold stages.Begun word own lock tag = refl
beginning_untold stages.Published word own lock tag = refl
beginning_untold stages.FoundSet word own lock tag = refl
beginning_untold stages.Flagged word own lock tag = refl

on_word_untold : (word : ℕ) (own : SeatValue) (act : LockAct) → on_word word (untold_seat own) act ≡ on_word word own act
on_word_untold word own (Acquire lock tag) = acquiring_untold own.stage word own lock.0 tag
on_word_untold word own (Release lock tag) = refl
on_word_untold word own (BeginRemove lock tag) = beginning_untold own.stage word own lock.0 tag
on_word_untold word own (AsksDrained lock) = refl

on_lock_by : (found : Option ℕ) (own : SeatValue) (act : LockAct) (other : Change)
    → option_map_or (λ word. on_word word (untold_seat own) act) found other ≡ option_map_or (λ word. on_word word own act) found other
on_lock_by None own act other = refl
on_lock_by (Some word) own act other = on_word_untold word own act

hand_untold : (standing : StandingValue) (own : SeatValue) (act : Hand) → hand standing.words (map untold_seat standing.seats) (untold_seat own) act ≡ hand standing.words standing.seats own act
hand_untold standing own act =
    ap (λ count. if nat_le (length standing.words) act.lock.0 then told NoLock
    else option_map_or (λ place. handing act place count) (position (is_held act.lock.0 act.tag) own.held) (told NotHeld))
    (count_untold standing.seats act.to)

packet_untold : (standing : StandingValue) (own : SeatValue) (act : StepAct) (irp : IrpRef) → with_packet (untold standing) (untold_seat own) act irp ≡ with_packet standing own act irp
packet_untold standing own (does.Call call) irp = refl
packet_untold standing own (does.Allocate size label) irp = refl
packet_untold standing own (does.OnLock on) irp = refl
packet_untold standing own (does.Hand hand) irp = refl
packet_untold standing own (does.Publish slot named) irp = refl
packet_untold standing own (does.Withdraw slot) irp = refl
packet_untold standing own (does.Request slot) irp = refl

module _ (standing : StandingValue) (own : SeatValue) (planned : Planned) where
  named : (irp : IrpRef) → with_packet (untold standing) (untold_seat own) planned.act irp ≡ with_packet standing own planned.act irp
  named irp = packet_untold standing own planned.act irp

  naming_untold : (stage : Stage) → naming_at stage (untold standing) (untold_seat own) planned ≡ naming_at stage standing own planned
  naming_untold stages.Between =
      ap (λ (next : Next). if planned.reads_alone then Changes (only (In (stages.Read (packet_of standing.labels planned.act)))) else next)
      (named (packet_of standing.labels planned.act))
  naming_untold (stages.Read irp) = named irp
  naming_untold (stages.Answered irp) = refl
  naming_untold stages.Tried = named (packet_of standing.labels planned.act)
  naming_untold stages.Begun = named (packet_of standing.labels planned.act)
  naming_untold stages.Published = named (packet_of standing.labels planned.act)
  naming_untold stages.FoundSet = named (packet_of standing.labels planned.act)
  naming_untold stages.Flagged = named (packet_of standing.labels planned.act)

  token_untold : with_token (untold standing) (untold_seat own) planned ≡ with_token standing own planned
  token_untold =
      ap (λ (next : Next). if is_tokenless own.taken planned.act then Changes (told NoToken) else next)
      (naming_untold own.stage)

  next_untold : (act : StepAct) → next_by act (untold standing) (untold_seat own) planned ≡ next_by act standing own planned
  next_untold (does.Call call) = token_untold
  next_untold (does.Allocate size label) = token_untold
  next_untold (does.OnLock on) = ap (λ (change : Change). Changes change) (on_lock_by (slice_get standing.words (lock_of on)) own on (told NoLock))
  next_untold (does.Hand act) = ap (λ (change : Change). Changes change) (hand_untold standing own act)
  next_untold (does.Publish slot irp) = token_untold
  next_untold (does.Withdraw slot) = refl
  next_untold (does.Request slot) = refl

-- ---- what a change makes of it

put_by : (seats : List SeatValue) (place : ℕ) (item : SeatValue) (within : Bool)
    → map untold_seat (if within then set seats place item else seats) ≡ (if within then set (map untold_seat seats) place (untold_seat item) else map untold_seat seats)
put_by seats place item true = map-set untold_seat seats place item
put_by seats place item false = refl

put_untold : (seats : List SeatValue) (place : ℕ) (item : SeatValue) → map untold_seat (with_item place item seats) ≡ with_item place (untold_seat item) (map untold_seat seats)
put_untold seats place item =
    put_by seats place item (nat_lt place (length seats))
    ∙ ap (λ n. if nat_lt place n then set (map untold_seat seats) place (untold_seat item) else map untold_seat seats) (sym (length-map seats untold_seat))

changed_untold : (seat : ℕ) (change : Change) (place : ActPlace) (tells : Bool) (seats : List SeatValue)
    → map untold_seat (with_seat_changed seat change place tells seats) ≡ with_seat_changed seat change place false (map untold_seat seats)
changed_untold seat change place tells seats =
    put_untold seats seat (after_step change place tells (slice_index_or seats seat new_seat))
    ∙ ap (λ (own : SeatValue). with_item seat (after_step change place false own) (map untold_seat seats)) (sym (seat_untold seats seat))

given_untold : (given : Option Given) (seats : List SeatValue) → map untold_seat (with_given given seats) ≡ with_given given (map untold_seat seats)
given_untold None seats = refl
given_untold (Some given) seats =
    put_untold seats given.seat (with_held given.held (slice_index_or seats given.seat new_seat))
    ∙ ap (λ (own : SeatValue). with_item given.seat (with_held given.held own) (map untold_seat seats)) (sym (seat_untold seats given.seat))

after_untold : (seat : ℕ) (change : Change) (place : ActPlace) (tells : Bool) (old : StandingValue)
    → untold (after_change seat change place tells old) ≡ after_change seat change place false (untold old)
after_untold seat change place tells old =
    ap (λ (seats : List SeatValue). record (after_change seat change place false old) { seats = seats })
    (given_untold change.gives (with_seat_changed seat change place tells old.seats)
    ∙ ap (λ (seats : List SeatValue). with_given change.gives seats) (changed_untold seat change place tells old.seats))

-- ---- steps

makes_untold : (rules : RulesValue) (standing : StandingValue) (seat : ℕ) (planned : Planned) (next : Next) (new : StandingValue)
    → Makes rules standing seat planned next new → Makes (silent rules) (untold standing) seat planned next (untold new)
makes_untold rules standing seat planned (Changes one) new made =
    (made.0, made.1, ap untold made.2 ∙ after_untold seat made.0 planned.place rules.tells standing)
makes_untold rules standing seat planned (Calls calling) new made =
    let call = made.1 in
    let knows = ap (λ (own : SeatValue). knows_of own.learned) (sym (seat_untold standing.seats seat)) in (
      made.0,
      record {
        after = call.after;
        drained = call.drained;
        reply = call.reply;
        call = subst (λ (knows : LockNo → Bool). IsCalled rules.fixed rules.script (allocates rules.acts) knows standing.manager calling.call call.drained call.reply call.after) knows call.call;
        changes = call.changes;
      },
      ap untold made.2 ∙ after_untold seat made.0 planned.place rules.tells (record standing { manager = call.after }),
    )

pub steps_untold : (rules : RulesValue) (standing : StandingValue) (seat : ℕ) (act : Option Planned) (new : StandingValue)
    → StepsTo rules standing seat act (Some new) → StepsTo (silent rules) (untold standing) seat act (Some (untold new))
steps_untold rules standing seat None new steps = absurd (none-some new (sym steps))
steps_untold rules standing seat (Some planned) new steps =
    let same : new ≡ steps.0 = same_Some new steps.0 steps.1 in
    let own = seat_at standing seat in
    let made = makes_untold rules standing seat planned (next_of standing own planned) steps.0 steps.2 in
    let next : next_of standing own planned ≡ next_of (untold standing) (seat_at (untold standing) seat) planned =
    sym (next_untold standing own planned planned.act)
    ∙ ap (λ (own : SeatValue). next_of (untold standing) own planned) (sym (seat_untold standing.seats seat)) in (
      untold steps.0,
      ap (λ (new : StandingValue). Some (untold new)) same,
      subst (λ (next : Next). Makes (silent rules) (untold standing) seat planned next (untold steps.0)) next made,
    )

pub all_untold : (rules : RulesValue) (standing : StandingValue) (path : List ℕ) (last : StandingValue)
    → MakesAll rules standing path last → MakesAll (silent rules) (untold standing) path (untold last)
all_untold rules standing [] last makes = ap untold makes
all_untold rules standing (seat ∷ path) last makes =
    let step = steps_untold rules standing seat (act_of rules standing seat) makes.0 makes.1 in (
      untold makes.0,
      subst (λ (act : Option Planned). StepsTo (silent rules) (untold standing) seat act (Some (untold makes.0))) (sym (act_untold rules standing seat)) step,
      all_untold rules makes.0 path last makes.2,
    )

-- ---- where it begins and ends

pub seats_begun : (seats : ℕ) → map untold_seat (replicate seats new_seat) ≡ replicate seats new_seat
seats_begun zero = refl
seats_begun (suc seats) = ap (λ (others : List SeatValue). new_seat ∷ others) (seats_begun seats)

replies_untold : (seats : List SeatValue) → map replies_of (map untold_seat seats) ≡ map (λ (one : Replies). record one { told = [] }) (map replies_of seats)
replies_untold [] = refl
replies_untold (seat ∷ seats) = ap (λ (others : List Replies). record { told = [] } ∷ others) (replies_untold seats)

holders_untold : (seats : List SeatValue) (lock below : ℕ) → holders_below (map untold_seat seats) lock below ≡ holders_below seats lock below
holders_untold seats lock zero = refl
holders_untold seats lock (suc seat) =
    ap (λ (before : List Holder). before ++ holds_of seat lock (slice_index_or (map untold_seat seats) seat new_seat).held) (holders_untold seats lock seat)
    ∙ ap (λ (own : SeatValue). holders_below seats lock seat ++ holds_of seat lock own.held) (seat_untold seats seat)

locks_untold : (words : List ℕ) (seats : List SeatValue) (below : ℕ) → locks_below words (map untold_seat seats) below ≡ locks_below words seats below
locks_untold words seats zero = refl
locks_untold words seats (suc lock) =
    let holders = ap (λ n. holders_below (map untold_seat seats) lock n) (length-map seats untold_seat) ∙ holders_untold seats lock (length seats) in
    ap (λ (before : List LockEnd). before ++ record { word = slice_index_or words lock 0; holders = holders_below (map untold_seat seats) lock (length (map untold_seat seats)) } ∷ [])
    (locks_untold words seats lock)
    ∙ ap (λ (holders : List Holder). locks_below words seats lock ++ record { word = slice_index_or words lock 0; holders = holders } ∷ []) holders

pub end_untold : (standing : StandingValue) → end_of (untold standing) ≡ without_replies (end_of standing)
end_untold standing =
    ap (λ (replies : List Replies). record (end_of (untold standing)) { replies = replies }) (replies_untold standing.seats)
    ∙ ap (λ (locks : List LockEnd). record (without_replies (end_of standing)) { locks = locks }) (locks_untold standing.words standing.seats (length standing.words))
