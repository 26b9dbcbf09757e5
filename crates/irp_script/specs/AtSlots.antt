-- What a seat has at the cancel slots, and what acts on slots do to it, by what they were answered.
use Rattle.std.specs.Prelude.{ℕ, ◌≡◌, ◌%◌, All, Option, Some, None, List, [], ◌∷◌, ◌++◌, slice_get, slice_set}
use Rattle.irp_slots.specs.Models.{Publisher, Asker}
use Rattle.irp_slots.specs.Calls.{Publishes, PublishSteps, Withdraws, WithdrawSteps, Requests, RequestSteps}
use Rattle.irp_slots.specs.declared.answers.Token.{Token}
use Rattle.irp_slots.specs.declared.answers.Publication.{Publication}
use Rattle.irp_slots.specs.declared.answers.Publication.TheVariants as publication
use Rattle.irp_slots.specs.declared.answers.Withdrawal.{Withdrawal}
use Rattle.irp_slots.specs.declared.answers.Withdrawal.TheVariants as withdrawal
use Rattle.irp_slots.specs.declared.answers.Request.{Request as Requested}
use Rattle.irp_slots.specs.declared.answers.Request.TheVariants as request
use Rattle.irp_transcript.specs.declared.word_line.WordReply.{WordReply}
use Rattle.irp_transcript.specs.declared.word_line.WordReply.TheVariants as answered
use Rattle.irp_script.specs.declared.taken.Taken.{Taken}

-- how many slots there are, the seat's canceller and the owners of its slots, and what it has taken out of slots
pub record AtSlots : Type 0 where
  pub slots : ℕ
  pub canceller : Asker
  pub owners : List Publisher
  pub taken : List Taken

-- nothing was given and nothing taken, at so many slots
abbrev pub IsFresh : ℕ → AtSlots → Type 0
IsFresh count parties = (parties.slots ≡ count) × (parties.owners ≡ []) × (parties.taken ≡ [])

-- each seat of so many has owners of its own slots alone: those whose numbers leave its place when divided by how many
-- seats there are
abbrev pub OwnTheirSlots : ℕ → List AtSlots → Type 0
OwnTheirSlots count all = (place : ℕ) (parties : AtSlots) → slice_get all place ≡ Some parties
    → All (λ (owner : Publisher). owner.owning.slot % count ≡ place) parties.owners

-- a token that came out of a slot
abbrev pub fresh : ℕ → Token → Taken
fresh slot token = record { slot = slot; token = Some token }

-- with what came out of a slot, if anything did, behind what had been taken
abbrev pub kept : ℕ → Option Token → List Taken → List Taken
kept slot None taken = taken
kept slot (Some token) taken = taken ++ fresh slot token ∷ []

-- no token from the slot is left: none was taken, or each is spent
abbrev pub IsSpent : ℕ → Taken → Type 0
IsSpent slot taken = taken.slot ≡ slot → taken.token ≡ None

-- what word lines tell of answers, and the tokens that come with these
abbrev pub published_reply : Publication → WordReply
published_reply publication.Used = answered.Used
published_reply publication.Standing = answered.Standing
published_reply (publication.Taken token) = answered.Taken token.use_no
published_reply publication.Lost = answered.Lost

abbrev pub published_token : Publication → Option Token
published_token publication.Used = None
published_token publication.Standing = None
published_token (publication.Taken token) = Some token
published_token publication.Lost = None

abbrev pub withdrawn_reply : Withdrawal → WordReply
withdrawn_reply withdrawal.NotStanding = answered.NotStanding
withdrawn_reply (withdrawal.Taken token) = answered.Taken token.use_no
withdrawn_reply withdrawal.Lost = answered.Lost

abbrev pub withdrawn_token : Withdrawal → Option Token
withdrawn_token withdrawal.NotStanding = None
withdrawn_token (withdrawal.Taken token) = Some token
withdrawn_token withdrawal.Lost = None

abbrev pub requested_reply : Requested → WordReply
requested_reply request.NoSlot = answered.NoSlot
requested_reply (request.Taken token) = answered.Taken token.use_no
requested_reply request.Nothing = answered.Nothing

abbrev pub requested_token : Requested → Option Token
requested_token request.NoSlot = None
requested_token (request.Taken token) = Some token
requested_token request.Nothing = None

-- the seat's owner of the slot published this use, and what it took out is kept
pub record Publishing (slot use_no : ℕ) (before after : AtSlots) (reply : WordReply) : Type 0 where
  pub place : ℕ
  pub owner : Publisher
  pub owner_after : Publisher
  pub answer : Publication
  pub there : slice_get before.owners place ≡ Some owner
  pub of_slot : owner.owning.slot ≡ slot
  pub same_table : owner_after.table ≡ owner.table
  pub did : Publishes use_no owner owner_after answer
  pub steps : PublishSteps use_no owner.owning owner_after.owning answer
  pub told : reply ≡ published_reply answer
  pub left : after ≡ record before {
    owners = slice_set before.owners place owner_after;
    taken = kept slot (published_token answer) before.taken;
  }

-- the seat's owner of the slot withdrew, and what it took out is kept
pub record Withdrawing (slot : ℕ) (before after : AtSlots) (reply : WordReply) : Type 0 where
  pub place : ℕ
  pub owner : Publisher
  pub owner_after : Publisher
  pub answer : Withdrawal
  pub there : slice_get before.owners place ≡ Some owner
  pub of_slot : owner.owning.slot ≡ slot
  pub same_table : owner_after.table ≡ owner.table
  pub did : Withdraws owner owner_after answer
  pub steps : WithdrawSteps owner.owning owner_after.owning answer
  pub told : reply ≡ withdrawn_reply answer
  pub left : after ≡ record before {
    owners = slice_set before.owners place owner_after;
    taken = kept slot (withdrawn_token answer) before.taken;
  }

-- the seat's canceller asked at the slot, and what it took out is kept
pub record Requesting (slot : ℕ) (before after : AtSlots) (reply : WordReply) : Type 0 where
  pub canceller_after : Asker
  pub answer : Requested
  pub same_table : canceller_after.table ≡ before.canceller.table
  pub did : Requests before.slots slot before.canceller canceller_after answer
  pub steps : RequestSteps slot before.canceller.asking canceller_after.asking answer
  pub told : reply ≡ requested_reply answer
  pub left : after ≡ record before {
    canceller = canceller_after;
    taken = kept slot (requested_token answer) before.taken;
  }
