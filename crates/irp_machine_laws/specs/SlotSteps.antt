-- What a step of a seat at the cancel slots is to the table that the machine stands for.
use Rattle.std.specs.Prelude.{◌≡◌, ◌⊎◌, ℕ, ◌%◌, ◌==◌, Bool, true, false, if◌then◌else◌, slice_index, slice_set}
use Rattle.std.specs.Prelude.{bit_or, Some, None}
use mathlib.Core.Option.{some}
use lib.ListN.{get_elem?}
use Rattle.irp_transcript.specs.declared.word_line.WordReply.{WordReply}
use Rattle.irp_transcript.specs.declared.word_line.WordReply.TheVariants as reply
use Rattle.irp_script_reader.specs.declared.act.StepAct.{StepAct}
use Rattle.irp_script_reader.specs.declared.act.StepAct.TheVariants as does
use Rattle.irp_slots.specs.declared.views.Owning.{Owning}
use Rattle.irp_slots.specs.declared.views.Asking.{Asking}
use Rattle.irp_slots.specs.declared.views.View.{View}
use Rattle.irp_slots.specs.declared.views.View.TheVariants.{Owner, Canceller}
use Rattle.irp_slots.specs.Core.{IsEvent, content_word, flag_word, owner_checked, owner_done, owner_published}
use Rattle.irp_slots.specs.Core.{slot_ended, slot_flagged}
use Rattle.irp_plain.specs.declared.parts.Change.{Change}
use Rattle.irp_plain.specs.declared.parts.After.TheVariants.{In, Told}
use Rattle.irp_plain.specs.declared.parts.Slot.{Slot}
use Rattle.irp_plain.specs.declared.parts.Stage.{Stage}
use Rattle.irp_plain.specs.declared.parts.Stage.TheVariants as stages
use Rattle.irp_plain.specs.declared.answered.Answered.TheVariants.{Word}
use Rattle.irp_machine_laws.specs.SlotTables.{SlotTable, asker_no, owner_no}

-- a word of a table
abbrev pub word_of : SlotTable → ℕ → ℕ
word_of table word = slice_index table.words word

-- a table in which one word and one party's view are others
abbrev pub moved : SlotTable → ℕ → ℕ → ℕ → View → SlotTable
moved table word left party view = record {
  words = slice_set table.words word left;
  homes = table.homes;
  views = slice_set table.views party view;
}

-- a party takes a step that the rule of the table allows: a word becomes this, and the party's view that
abbrev pub Takes : ℕ → ℕ → ℕ → View → View → SlotTable → SlotTable → Type 0
Takes word left party view view_after table new =
    (get_elem? table.views party ≡ some view) × (new ≡ moved table word left party view_after)
    × IsEvent word (word_of table word) left view view_after

-- the machine writes this slot
abbrev pub Writes : ℕ → Slot → Change → Type 0
Writes number slot step = step.slot ≡ Some (record { number = number; slot = slot })

-- nothing happens at the table, and no slot is written
abbrev pub Stays : Change → SlotTable → SlotTable → Type 0
Stays step table new = (step.slot ≡ None) × (new ≡ table)

-- an answer that the machine gives without a step of the table
abbrev pub is_refusal : WordReply → Bool
is_refusal reply.Used = true
is_refusal reply.NotStanding = true
is_refusal reply.NoSlot = true
is_refusal other = false

-- the same, and the act is refused
abbrev pub IsRefused : Change → SlotTable → SlotTable → Type 0
IsRefused step table new =
    (answer : WordReply) × (is_refusal answer ≡ true) × (step.after ≡ Told (Word answer)) × Stays step table new

-- what swapping 0 in is answered: what was in the slot is taken, and where nothing was the answer is this
abbrev pub taken_or : WordReply → ℕ → WordReply
taken_or missed found = if found == 0 then missed else reply.Taken found

-- the owner of an empty slot swaps a use in
pub record IsPublish (number : ℕ) (step : Change) (table new : SlotTable) : Type 0 where
  pub owning : Owning
  pub use_no : ℕ
  pub takes :
      Takes (content_word number) use_no (owner_no number) (Owner owning) (owner_published use_no (Owner owning)) table
      new
  pub empty : word_of table (content_word number) ≡ 0
  pub slot : Slot
  pub writes : Writes number slot step
  pub holds : slot.content ≡ use_no
  pub after : step.after ≡ In stages.Published

-- the owner reads the flag: it stands where that is clear
pub record IsCheck (number : ℕ) (step : Change) (table new : SlotTable) : Type 0 where
  pub owning : Owning
  pub takes :
      Takes (flag_word number) (word_of table (flag_word number)) (owner_no number) (Owner owning)
      (owner_checked (word_of table (flag_word number)) (Owner owning)) table new
  pub after :
      step.after
      ≡ (if word_of table (flag_word number) % 2 == 0 then Told (Word reply.Standing) else In stages.FoundSet)

-- the owner swaps 0 in, and takes what it published, or nothing
pub record IsTakeBack (number : ℕ) (step : Change) (table new : SlotTable) : Type 0 where
  pub owning : Owning
  pub takes :
      Takes (content_word number) 0 (owner_no number) (Owner owning)
      (owner_done (word_of table (content_word number)) (Owner owning)) table new
  pub finds : (word_of table (content_word number) ≡ 0) ⊎ (word_of table (content_word number) ≡ owning.published)
  pub slot : Slot
  pub writes : Writes number slot step
  pub empties : slot.content ≡ 0
  pub after : step.after ≡ Told (Word (taken_or reply.Lost (word_of table (content_word number))))

-- the party that asks for a seat sets the flag
pub record IsFlag (party number : ℕ) (step : Change) (table new : SlotTable) : Type 0 where
  pub asking : Asking
  pub takes :
      Takes (flag_word number) (bit_or (word_of table (flag_word number)) 1) party (Canceller asking)
      (slot_flagged number (Canceller asking)) table new
  pub slot : Slot
  pub writes : Writes number slot step
  pub flags : slot.flag ≡ true
  pub after : step.after ≡ In stages.Flagged

-- the party that asks for a seat swaps 0 in, and takes what was in the slot
pub record IsTakeOut (party number : ℕ) (step : Change) (table new : SlotTable) : Type 0 where
  pub asking : Asking
  pub takes :
      Takes (content_word number) 0 party (Canceller asking)
      (slot_ended number (word_of table (content_word number)) (Canceller asking)) table new
  pub slot : Slot
  pub writes : Writes number slot step
  pub empties : slot.content ≡ 0
  pub after : step.after ≡ Told (Word (taken_or reply.Nothing (word_of table (content_word number))))

-- what a publication's step is, by how far the seat is in it. Before it swaps its use in, it may read its label
abbrev pub Publishes : ℕ → Stage → Change → SlotTable → SlotTable → Type 0
Publishes number stages.Published step table new = IsCheck number step table new
Publishes number stages.FoundSet step table new = IsTakeBack number step table new
Publishes number other step table new = Stays step table new ⊎ IsPublish number step table new

-- what a request's step is
abbrev pub Requests : ℕ → ℕ → Stage → Change → SlotTable → SlotTable → Type 0
Requests party number stages.Flagged step table new = IsTakeOut party number step table new
Requests party number other step table new = IsRefused step table new ⊎ IsFlag party number step table new

-- what the step of a seat is, by the seat's act and how far it is in that: one that is not at a slot leaves the table
-- as it is
abbrev pub IsStepAt : ℕ → ℕ → StepAct → Stage → Change → SlotTable → SlotTable → Type 0
IsStepAt slots seat (does.Publish number irp) stage step table new = Publishes number stage step table new
IsStepAt slots seat (does.Withdraw number) stage step table new =
    IsRefused step table new ⊎ IsTakeBack number step table new
IsStepAt slots seat (does.Request number) stage step table new =
    Requests (asker_no slots seat) number stage step table new
IsStepAt slots seat other stage step table new = Stays step table new
