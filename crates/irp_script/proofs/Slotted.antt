-- What acts on slots do to what a seat has there.
use Rattle.std.proofs.Common.{◌≡◌, ◌<◌, ℕ, Option, Some, None, List, Contains, length, map, get_or, sym, subst, ap, ◌∙◌}
use Rattle.std.specs.Prelude.{IfNone, slice_get, slice_set}
use Rattle.std.proofs.lemmas.Option.{slice_get-get_or}
use Rattle.irp_slots.specs.Models.{Asker, Publisher}
use Rattle.irp_slots.specs.Calls.{Publishes, PublishSteps, Requests, RequestSteps, Withdraws, WithdrawSteps}
use Rattle.irp_slots.specs.declared.answers.Token.{Token}
use Rattle.irp_slots.specs.declared.answers.Publication.{Publication}
use Rattle.irp_slots.specs.declared.answers.Withdrawal.{Withdrawal}
use Rattle.irp_slots.specs.declared.answers.Request.{Request}
use Rattle.irp_transcript.specs.declared.word_line.WordReply.{WordReply}
use Rattle.irp_script.specs.AtSlots.{AtSlots, Publishing, Requesting, Withdrawing, kept, published_reply, published_token, requested_reply, requested_token, withdrawn_reply, withdrawn_token}
use Rattle.irp_script.specs.Stops.{IsUnowned}
use Rattle.irp_script.specs.declared.stop.StopReason.TheVariants.{NotOwner}
use Rattle.irp_script.proofs.Places.{told_at}

there_at : (owners : List Publisher) (place : ℕ) (owner : Publisher) → place < length owners → owner ≡ get_or owners place owner → slice_get owners place ≡ Some owner
there_at owners place owner lt is = slice_get-get_or owners place owner lt ∙ ap Some (sym is)

pub publishing : (slot use_no : ℕ) (before after : AtSlots) (reply : WordReply) (place : ℕ) (owner owner_after : Publisher) (answer : Publication) (token : Option Token)
    → place < length before.owners → owner ≡ get_or before.owners place owner → slice_get (map (λ (owner : Publisher). owner.owning.slot) before.owners) place ≡ Some slot
    → owner_after.table ≡ owner.table → Publishes use_no owner owner_after answer → PublishSteps use_no owner.owning owner_after.owning answer
    → reply ≡ published_reply answer → token ≡ published_token answer
    → after ≡ record before { owners = slice_set before.owners place owner_after; taken = kept slot token before.taken }
    → Publishing slot use_no before after reply
publishing slot use_no before after reply place owner owner_after answer token lt is found table did steps told same left = record {
  place = place;
  owner = owner;
  owner_after = owner_after;
  answer = answer;
  there = there_at before.owners place owner lt is;
  of_slot = told_at (λ (owner : Publisher). owner.owning.slot) before.owners place slot owner found is lt;
  same_table = table;
  did = did;
  steps = steps;
  told = told;
  left = left ∙ ap (λ token. record before { owners = slice_set before.owners place owner_after; taken = kept slot token before.taken }) same;
}

pub withdrawing : (slot : ℕ) (before after : AtSlots) (reply : WordReply) (place : ℕ) (owner owner_after : Publisher) (answer : Withdrawal) (token : Option Token)
    → place < length before.owners → owner ≡ get_or before.owners place owner → slice_get (map (λ (owner : Publisher). owner.owning.slot) before.owners) place ≡ Some slot
    → owner_after.table ≡ owner.table → Withdraws owner owner_after answer → WithdrawSteps owner.owning owner_after.owning answer
    → reply ≡ withdrawn_reply answer → token ≡ withdrawn_token answer
    → after ≡ record before { owners = slice_set before.owners place owner_after; taken = kept slot token before.taken }
    → Withdrawing slot before after reply
withdrawing slot before after reply place owner owner_after answer token lt is found table did steps told same left = record {
  place = place;
  owner = owner;
  owner_after = owner_after;
  answer = answer;
  there = there_at before.owners place owner lt is;
  of_slot = told_at (λ (owner : Publisher). owner.owning.slot) before.owners place slot owner found is lt;
  same_table = table;
  did = did;
  steps = steps;
  told = told;
  left = left ∙ ap (λ token. record before { owners = slice_set before.owners place owner_after; taken = kept slot token before.taken }) same;
}

pub requesting : (slot : ℕ) (before after : AtSlots) (reply : WordReply) (canceller_after : Asker) (answer : Request) (token : Option Token)
    → canceller_after.table ≡ before.canceller.table
    → Requests before.slots slot before.canceller canceller_after answer → RequestSteps slot before.canceller.asking canceller_after.asking answer
    → reply ≡ requested_reply answer → token ≡ requested_token answer
    → after ≡ record before { canceller = canceller_after; taken = kept slot token before.taken }
    → Requesting slot before after reply
requesting slot before after reply canceller_after answer token table did steps told same left = record {
  canceller_after = canceller_after;
  answer = answer;
  same_table = table;
  did = did;
  steps = steps;
  told = told;
  left = left ∙ ap (λ token. record before { canceller = canceller_after; taken = kept slot token before.taken }) same;
}

-- none of the owners has the slot
pub unowned : (slot : ℕ) (before after : AtSlots) (owners : List Publisher) (found : Option ℕ) → after ≡ before → before.owners ≡ owners → found ≡ None
    → IfNone found (¬ Contains (map (λ (owner : Publisher). owner.owning.slot) owners) slot)
    → (after ≡ before) × IsUnowned slot before NotOwner
unowned slot before after owners found same own none not = (
  same,
  subst (λ all. ¬ Contains (map (λ (owner : Publisher). owner.owning.slot) all) slot) (sym own)
      (subst (λ there. IfNone there (¬ Contains (map (λ (owner : Publisher). owner.owning.slot) owners) slot)) none not),
)
