-- The history of a book, as it opens and as it grows.
use Rattle.std.proofs.Common.{◌≡◌, ℕ, Bool, true, false, List, [], ◌∷◌, ◌++◌, length, Option, Some, None, refl, sym, ◌∙◌, ap, subst, arith}
use Rattle.std.proofs.lemmas.Option.{none-some}
use Rattle.std.specs.Ordering.{nat_cmp}
use Rattle.std.specs.FinMap as fin
use Rattle.irp_types.specs.Stacks.{no_devices, AreStacks}
use Rattle.irp_types.specs.State.{StateValue, LivePacket, Fixed, opening_state, live_at}
use Rattle.std.specs.Prelude.{MatchOption}
use Rattle.irp_types.specs.Checks.{Check, first_failing}
use Rattle.irp_types.specs.Stacks.{delete_checks}
use Rattle.irp_types.specs.Refusals.{is_in_flight}
use Rattle.irp_types.specs.Steps.{Step, Effect, Unasked}
use Rattle.irp_types.specs.Histories.{IsEntryAt, LeadsTo, IsLegal, HistoryGoesOn}
use Rattle.irp_types.specs.declared.names.DeviceId.{DeviceId}
use Rattle.irp_types.specs.declared.asked.Asked.{Asked}
use Rattle.irp_types.specs.declared.call.Call.TheVariants.{Delete}
use Rattle.irp_types.specs.declared.refusal.Refusal.{Refusal}
use Rattle.irp_types.specs.declared.refusal.Refusal.TheVariants.{InFlight, NotDrained}
use Rattle.irp_types.specs.declared.reply.Reply.{Reply}
use Rattle.irp_types.specs.declared.reply.Reply.TheVariants.{Done, Refused}
use Rattle.irp_types.specs.declared.names.LockNo.{LockNo}
use Rattle.irp_types.specs.declared.entry.Entry.{Entry}
use Rattle.irp_types.specs.Standing.{StandingFacts}
use Rattle.irp_types.specs.declared.routine.Known.{Known}
use Rattle.irp_manager.specs.Notes.{known_by}

pub leads_none : (fixed : Fixed) → LeadsTo fixed [] opening_state
leads_none fixed = (opening_state ∷ [], record { longer = refl; opens = refl; follows = λ number entry old new at. cc }, refl)

pub leads_more : HistoryGoesOn → (fixed : Fixed) (history longer : List Entry) (old new : StateValue) (entry : Entry)
    → LeadsTo fixed history old → IsEntryAt fixed (length history) old entry new → longer ≡ history ++ entry ∷ [] → LeadsTo fixed longer new
leads_more goes_on fixed history longer old new entry leads holds grown = subst (λ given. LeadsTo fixed given new) (sym grown) (goes_on fixed history old entry new leads holds)

pub legal : (fixed : Fixed) (history : List Entry) (last : StateValue) → LeadsTo fixed history last → IsLegal fixed history
legal fixed history last leads = (leads.0, leads.1)

pub undrained : (knows : LockNo → Bool) (lock : Option LockNo) (drained : Bool) → drained ≡ known_by knows lock → lock ≡ None → drained ≡ false
undrained knows lock drained noted none = noted ∙ ap (known_by knows) none

none_live : (slot : ℕ) (live : LivePacket) → live_at opening_state slot ≡ Some live → ⊥
none_live slot live at = none-some live (sym (fin.get-empty nat_cmp slot) ∙ at)

no_stacks : AreStacks no_devices
no_stacks = record {
  counted = refl;
  stands = λ device created. absurd (omega arith);
  members = λ device place created within. absurd (omega arith);
  few = λ device created. absurd (omega arith);
  live = λ device created neighbour. absurd (omega arith);
}

pub stands_opening : (counts : Known) → StandingFacts counts opening_state
stands_opening counts = record {
  packets = λ slot live at. absurd (none_live slot live at);
  counter = omega arith;
  positive = λ slot live at. absurd (none_live slot live at);
  drawn = λ slot live at. absurd (none_live slot live at);
  apart = λ slot other live another at. absurd (none_live slot live at);
  stacks = no_stacks;
}

-- where the last of some checks fails, the first that fails gives a refusal
last_refuses : (checks : List Check) (check : Check) (last : Refusal) → (refusal : Refusal) × (first_failing (checks ++ check ∷ (true, last) ∷ []) ≡ Some refusal)
last_refuses [] (true, refusal) last = (refusal, refl)
last_refuses [] (false, refusal) last = (last, refl)
last_refuses ((true, refusal) ∷ others) check last = (refusal, refl)
last_refuses ((false, refusal) ∷ others) check last = last_refuses others check last

-- a deletion that is done was of a drained lock
pub done_is_drained : (fixed : Fixed) (old : StateValue) (drained : Bool) (device : DeviceId) (asked : List Asked) (reply : Reply) (new : StateValue)
    → Step fixed old drained (Delete device) asked reply new → reply ≡ Done → drained ≡ true
done_is_drained fixed old true device asked reply new step done = refl
done_is_drained fixed old false device asked reply new step done =
    let refused = last_refuses (delete_checks old.devices device.0) (is_in_flight old device.0, InFlight) NotDrained in
    let unasked : Unasked asked reply new (Refused refused.0) old =
    subst (λ option. MatchOption option (Effect fixed old (Delete device) asked reply new) (λ refusal. Unasked asked reply new (Refused refusal) old)) refused.1 step in
    absurd (cc (sym done ∙ unasked.1))
