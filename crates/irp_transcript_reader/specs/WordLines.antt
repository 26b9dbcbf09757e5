-- What a JSON value reads as: a step on a remove lock or a cancel slot, and what it was answered. None where the value
-- has another form.
use Rattle.std.specs.Prelude.{ℕ, List, [], ◌∷◌, ◌==◌, codes, Option, Some, None, option_map, if◌then◌else◌}
use Rattle.std.proofs.Common.{bytes_eq}
use Rattle.serde_json.specs.Data.{Data, string}
use Rattle.serde_json.specs.Find.{get, as_str}
use Rattle.irp_forms.specs.Parts.{◌>>=◌, has_keys, u32_at, u64_at}
use Rattle.irp_forms.specs.Fields.{field}
use Rattle.irp_forms.specs.Steps.{ActKey, act_named, keys_of, slot_key}
use Rattle.irp_forms.specs.Told.{hand_of, lock_act_of, told_at}
use Rattle.irp_forms.specs.declared.step_names.ActKind.{ActKind}
use Rattle.irp_forms.specs.declared.step_names.ActKind.TheVariants as kind
use Rattle.irp_forms.specs.declared.told.Told.{Told}
use Rattle.irp_forms.specs.declared.told.Told.TheVariants as told
use Rattle.irp_types.specs.declared.names.IrpRef.{IrpRef}
use Rattle.irp_types.specs.declared.seat_act.SlotAct.TheVariants.{Publish, Withdraw, Request}
use Rattle.irp_transcript.specs.declared.{word_line.Act.Act, word_line.WordLine.WordLine, word_line.WordReply.WordReply}
use Rattle.irp_transcript.specs.declared.word_line.Act.TheVariants as acts
use Rattle.irp_transcript.specs.declared.word_line.WordReply.TheVariants as word_replies

-- a step's answer by its name: those of remove locks, then those of cancel slots
unfoldable pub word_reply_named : List ℕ → Option WordReply
word_reply_named name =
    if bytes_eq name (codes "ok") then Some word_replies.Done else
    (if bytes_eq name (codes "seat_full") then Some word_replies.SeatFull else
    (if bytes_eq name (codes "not_held") then Some word_replies.NotHeld else
    (if bytes_eq name (codes "already_removing") then Some word_replies.AlreadyRemoving else
    (if bytes_eq name (codes "no_lock") then Some word_replies.NoLock else
    (if bytes_eq name (codes "yes") then Some word_replies.Yes else
    (if bytes_eq name (codes "standing") then Some word_replies.Standing else
    (if bytes_eq name (codes "lost") then Some word_replies.Lost else
    (if bytes_eq name (codes "nothing") then Some word_replies.Nothing else
    (if bytes_eq name (codes "used") then Some word_replies.Used else
    (if bytes_eq name (codes "not_standing") then Some word_replies.NotStanding else
    (if bytes_eq name (codes "no_slot") then Some word_replies.NoSlot else
    (if bytes_eq name (codes "no_token") then Some word_replies.NoToken else None))))))))))))

-- the status of an acquire: success, or that removal has begun
abbrev pub word_status : ℕ → Option WordReply
word_status status =
    if status == 0 then Some word_replies.Acquired else
    (if status == 0xc0000056 then Some word_replies.DeletePending else None)

-- a step's answer that has a value, which stands under its name
unfoldable pub valued_reply_at : Data → Option WordReply
valued_reply_at form =
    if has_keys (codes "status" ∷ []) form then get (codes "status") form >>= u32_at >>= word_status else
    (if has_keys (codes "busy" ∷ []) form then option_map word_replies.Busy (field (codes "busy") u64_at form) else
    (if has_keys (codes "taken" ∷ []) form then
    option_map word_replies.Taken (field (codes "taken") u64_at form) else None))

-- what a step was answered: its name, or its one value under its name
unfoldable pub word_reply_at : Data → Option WordReply
word_reply_at (string name) = word_reply_named name
word_reply_at form = valued_reply_at form

-- the keys of an act in a word line, but for those that every word line has: those in a script, but for two acts
abbrev pub line_keys : ActKind → List ActKey
line_keys kind.Publish = slot_key ∷ []
line_keys kind.FinishTaken = slot_key ∷ []
line_keys other = keys_of other

-- the keys that every word line has
abbrev pub beside : List (List ℕ)
beside = codes "do" ∷ codes "reply" ∷ codes "seat" ∷ codes "step" ∷ []

-- the cancel slot that stands alone under the keys of an act
abbrev pub slot_of : List (Told IrpRef) → Option ℕ
slot_of (told.Number slot ∷ []) = Some slot
slot_of other = None

-- what a step did, by what stands under its keys
unfoldable pub act_of : ActKind → List (Told IrpRef) → Option Act
act_of kind.Hand told = option_map acts.Hand (hand_of told)
act_of kind.Publish told = option_map (λ slot. acts.OnSlot (Publish slot)) (slot_of told)
act_of kind.Withdraw told = option_map (λ slot. acts.OnSlot (Withdraw slot)) (slot_of told)
act_of kind.Request told = option_map (λ slot. acts.OnSlot (Request slot)) (slot_of told)
act_of kind.FinishTaken told = option_map acts.FinishTaken (slot_of told)
act_of other told = option_map acts.OnLock (lock_act_of other told)

-- what a step did, by the name under `do`
unfoldable pub act_at : Data → Option Act
act_at form = do
  kind ← get (codes "do") form >>= as_str >>= act_named
  told ← told_at (line_keys kind) beside None form
  act_of kind told

-- a word line: what the step did, what it was answered, its seat and its place
unfoldable pub word_line_at : Data → Option WordLine
word_line_at form = do
  act ← act_at form
  reply ← get (codes "reply") form >>= word_reply_at
  seat ← get (codes "seat") form >>= u32_at
  place ← get (codes "step") form >>= u32_at
  Some (record { seat = seat; step = place; act = act; reply = reply })
