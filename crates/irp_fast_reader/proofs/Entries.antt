-- An entry is read as it was written, and its form stands.
use Rattle.std.proofs.Common.{◌≡◌, ℕ, suc, Some, refl}
use Rattle.irp_forms.specs.Parts.{has_keys}
use Rattle.irp_forms.specs.Questions.{asked_at}
use Rattle.irp_types.specs.declared.entry.Entry.{Entry}
use Rattle.irp_transcript_reader.specs.Lines.{entry_at}
use Rattle.irp_transcript_writer.specs.Lines.{asked_json, entry_json}
use Rattle.irp_fast_reader.proofs.Calls.{call_back, call_stands}
use Rattle.irp_fast_reader.proofs.Numbers.{items_stand, list_back, u32_back, u64_back, wide}
use Rattle.irp_fast_reader.proofs.Questions.{asked_back, asked_stands}
use Rattle.irp_fast_reader.proofs.Replies.{reply_back, reply_stands}
use Rattle.irp_fast_reader.proofs.Stands.{Stands}
use Rattle.irp_fast_reader.specs.Fits.{AskedFits, EntryFits}

-- an entry
pub entry_back : (entry : Entry) → EntryFits entry → entry_at (entry_json entry) ≡ Some entry
unfolding entry_at has_keys
entry_back entry h =
    rw (
      call_back entry.call entry.lock entry.drained h.call h.lock,
      list_back asked_json asked_at AskedFits asked_back entry.asked h.asked,
      u64_back entry.number h.number,
      u32_back entry.seat h.seat,
      reply_back entry.reply h.reply,
    )

pub entry_stands : (levels : ℕ) (entry : Entry) → EntryFits entry → Stands (entry_json entry) (suc (suc (suc (suc (suc levels)))))
entry_stands levels entry h =
    let questions = items_stand asked_json AskedFits (suc (suc (suc levels))) (asked_stands levels) entry.asked h.asked in
    let made = call_stands (suc (suc levels)) entry.call entry.lock entry.drained h.call h.lock in
    let given = reply_stands (suc (suc levels)) entry.reply h.reply in
    (refl, refl, (questions, (made, (h.number, (given, (wide entry.seat h.seat, tt))))))
