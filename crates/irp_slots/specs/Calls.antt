-- What each call does to an owner or to a canceller, and the steps that it takes. The cases of a call exclude each
-- other, so each answer comes exactly where its case says. A step is described by the view before and after, and by
-- some state in which the rule allows it. What it answers is what it found in that state. No clause says that it is
-- what the running table had.
use Rattle.std.specs.Prelude.{◌≡◌, ℕ, ◌%◌, ◌<◌, ◌≤◌, true, false, [], ◌∷◌, slice_set, bit_or}
use Rattle.irp_slots.specs.declared.views.Stage.TheVariants.{Idle, Standing, Done}
use Rattle.irp_slots.specs.declared.views.Owning.{Owning}
use Rattle.irp_slots.specs.declared.views.Asking.{Asking}
use Rattle.irp_slots.specs.declared.views.View.{View}
use Rattle.irp_slots.specs.declared.views.View.TheVariants.{Owner, Canceller}
use Rattle.irp_slots.specs.declared.answers.Token.{Token}
use Rattle.irp_slots.specs.declared.answers.Publication.{Publication}
use Rattle.irp_slots.specs.declared.answers.Publication.TheVariants as publication
use Rattle.irp_slots.specs.declared.answers.Withdrawal.{Withdrawal}
use Rattle.irp_slots.specs.declared.answers.Withdrawal.TheVariants as withdrawal
use Rattle.irp_slots.specs.declared.answers.Request.{Request}
use Rattle.irp_slots.specs.declared.answers.Request.TheVariants as request
use Rattle.irp_slots.specs.Core.{is_begun, is_standing, flag_word, content_word, owning_published, owning_found_set}
use Rattle.irp_slots.specs.Core.{asking_flagged, IsEvent}
use Rattle.irp_slots.specs.Models.{Publisher, Asker}

-- What publish does. The use is the owner's publication unless it is answered Used. Taken and Lost come only where
-- the flag was not found clear; Taken where the owner has its use, Lost where it has taken nothing
abbrev pub Publishes : ℕ → Publisher → Publisher → Publication → Type 0
Publishes number before after publication.Used = (is_begun before.owning.stage ≡ true) × (after ≡ before)
Publishes number before after publication.Standing =
    (before.owning.stage ≡ Idle)
    × (after.owning ≡ record {
      slot = before.owning.slot;
      stage = Standing;
      published = number;
      stood = true;
      found_set = false;
      taken = [];
    })
Publishes number before after (publication.Taken token) =
    (before.owning.stage ≡ Idle) × (0 < number) × (token.use_no ≡ number)
    × (after.owning ≡ record {
      slot = before.owning.slot;
      stage = Done;
      published = number;
      stood = false;
      found_set = true;
      taken = number ∷ [];
    })
Publishes number before after publication.Lost =
    (before.owning.stage ≡ Idle)
    × (after.owning ≡ record {
      slot = before.owning.slot;
      stage = Done;
      published = number;
      stood = false;
      found_set = true;
      taken = [];
    })

-- What withdraw does
abbrev pub Withdraws : Publisher → Publisher → Withdrawal → Type 0
Withdraws before after withdrawal.NotStanding = (is_standing before.owning.stage ≡ false) × (after ≡ before)
Withdraws before after (withdrawal.Taken token) =
    (before.owning.stage ≡ Standing) × (0 < before.owning.published) × (token.use_no ≡ before.owning.published)
    × (after.owning ≡ record before.owning { stage = Done; taken = before.owning.published ∷ [] })
Withdraws before after withdrawal.Lost =
    (before.owning.stage ≡ Standing) × (after.owning ≡ record before.owning { stage = Done; taken = [] })

-- What request does. It has ended the slot unless it is answered NoSlot
abbrev pub Requests : ℕ → ℕ → Asker → Asker → Request → Type 0
Requests count slot before after request.NoSlot = (count ≤ slot) × (after ≡ before)
Requests count slot before after (request.Taken token) =
    (slot < count) × (0 < token.use_no)
    × (after.asking ≡ record {
      flagged = slice_set before.asking.flagged slot true;
      ended = slice_set before.asking.ended slot true;
      taken = (slot, token.use_no) ∷ before.asking.taken;
    })
Requests count slot before after request.Nothing =
    (slot < count)
    × (after.asking ≡ record {
      flagged = slice_set before.asking.flagged slot true;
      ended = slice_set before.asking.ended slot true;
      taken = before.asking.taken;
    })

-- one step by an owner: it swapped its use into its slot, where nothing was
abbrev pub SwappedIn : ℕ → Owning → Owning → Type 0
SwappedIn number before after = IsEvent (content_word before.slot) 0 number (Owner before) (Owner after)

-- one step by an owner: it read the flag of its slot, and the word's parity is as given
abbrev pub ReadFlag : ℕ → Owning → Owning → Type 0
ReadFlag parity before after =
    (word : ℕ) × (word % 2 ≡ parity) × IsEvent (flag_word before.slot) word word (Owner before) (Owner after)

-- one step by a canceller: it set the flag of a slot
abbrev pub FlagSet : ℕ → Asking → Asking → Type 0
FlagSet slot before after =
    (word : ℕ) × IsEvent (flag_word slot) word (bit_or word 1) (Canceller before) (Canceller after)

-- one step by a party with these views: it swapped 0 into a slot, and this was in it
abbrev pub Emptied : ℕ → ℕ → View → View → Type 0
Emptied slot found before after = IsEvent (content_word slot) found 0 before after

-- the steps of publish, one behind the other
abbrev pub PublishSteps : ℕ → Owning → Owning → Publication → Type 0
PublishSteps number before after publication.Used = after ≡ before
PublishSteps number before after publication.Standing =
    SwappedIn number before (owning_published number before)
    × ReadFlag 0 (owning_published number before) after
PublishSteps number before after (publication.Taken token) =
    SwappedIn number before (owning_published number before)
    × ReadFlag 1 (owning_published number before) (owning_found_set number before)
    × Emptied before.slot token.use_no (Owner (owning_found_set number before)) (Owner after)
PublishSteps number before after publication.Lost =
    SwappedIn number before (owning_published number before)
    × ReadFlag 1 (owning_published number before) (owning_found_set number before)
    × Emptied before.slot 0 (Owner (owning_found_set number before)) (Owner after)

-- the one step of withdraw
abbrev pub WithdrawSteps : Owning → Owning → Withdrawal → Type 0
WithdrawSteps before after withdrawal.NotStanding = after ≡ before
WithdrawSteps before after (withdrawal.Taken token) = Emptied before.slot token.use_no (Owner before) (Owner after)
WithdrawSteps before after withdrawal.Lost = Emptied before.slot 0 (Owner before) (Owner after)

-- the steps of request, one behind the other
abbrev pub RequestSteps : ℕ → Asking → Asking → Request → Type 0
RequestSteps slot before after request.NoSlot = after ≡ before
RequestSteps slot before after (request.Taken token) =
    FlagSet slot before (asking_flagged slot before)
    × Emptied slot token.use_no (Canceller (asking_flagged slot before)) (Canceller after)
RequestSteps slot before after request.Nothing =
    FlagSet slot before (asking_flagged slot before)
    × Emptied slot 0 (Canceller (asking_flagged slot before)) (Canceller after)

-- an owner has taken its use out of its slot
abbrev pub TookBack : Token → Owning → Owning → Type 0
TookBack token before after =
    (0 < before.published) × (token.use_no ≡ before.published)
    × (after ≡ record before { stage = Done; taken = before.published ∷ before.taken })
    × Emptied before.slot token.use_no (Owner before) (Owner after)

-- an owner has found nothing in its slot
abbrev pub MissedIt : Owning → Owning → Type 0
MissedIt before after = (after ≡ record before { stage = Done }) × Emptied before.slot 0 (Owner before) (Owner after)

-- a canceller has taken a use out of a slot
abbrev pub TookOut : ℕ → Token → Asking → Asking → Type 0
TookOut slot token before after =
    (0 < token.use_no)
    × (after ≡ record before {
      ended = slice_set before.ended slot true;
      taken = (slot, token.use_no) ∷ before.taken;
    })
    × Emptied slot token.use_no (Canceller before) (Canceller after)

-- a canceller has found nothing in a slot
abbrev pub FoundNone : ℕ → Asking → Asking → Type 0
FoundNone slot before after =
    (after ≡ record before { ended = slice_set before.ended slot true })
    × Emptied slot 0 (Canceller before) (Canceller after)
