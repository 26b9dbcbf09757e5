-- A word line is read as it was written, and its form stands.
use Rattle.std.proofs.Common.{◌≡◌, ℕ, suc, ◌<◌, ◌^◌, ◌+◌, ◌==◌, ◌&&◌, codes, length, map, false, true, Some, None, refl, arith}
use Rattle.serde_json.specs.Data.{Data}
use Rattle.serde_json.specs.Find.{get, as_str}
use Rattle.irp_forms.specs.Parts.{◌>>=◌, count_members, each_key, has_keys}
use Rattle.irp_forms.specs.Steps.{act_named, act_rows, keys_of, step_keys}
use Rattle.irp_forms.specs.Told.{hand_of, lock_act_of, part_at, part_under, told_at}
use Rattle.irp_forms.specs.declared.step_names.ActKind.{ActKind}
use Rattle.irp_forms.specs.declared.step_names.ActKind.TheVariants as kind
use Rattle.irp_types.specs.declared.seat_act.LockAct.TheVariants as on_lock
use Rattle.irp_types.specs.declared.seat_act.SlotAct.TheVariants as on_slot
use Rattle.irp_transcript.specs.declared.{word_line.Act.Act, word_line.WordLine.WordLine, word_line.WordReply.WordReply}
use Rattle.irp_transcript.specs.declared.word_line.Act.TheVariants as act
use Rattle.irp_transcript.specs.declared.word_line.WordReply.TheVariants as word_reply
use Rattle.irp_transcript_reader.specs.Reading.{is_entry}
use Rattle.irp_transcript_reader.specs.WordLines.{act_at, act_of, beside, line_keys, valued_reply_at, word_line_at, word_reply_at, word_reply_named}
use Rattle.irp_transcript_writer.specs.Json.{natural}
use Rattle.irp_transcript_writer.specs.Lines.{line_of_act, word_json, word_reply_json}
use Rattle.irp_fast_reader.proofs.Numbers.{u32_back, u64_back, wide}
use Rattle.irp_fast_reader.proofs.Stands.{Stands}
use Rattle.irp_fast_reader.proofs.Told.{parts_back, read_again}
use Rattle.irp_fast_reader.specs.Fits.{ActFits, WordFits, WordReplyFits}
use Rattle.irp_fast_reader.specs.Parts.{act_parts}

word_reply_back : (given : WordReply) → WordReplyFits given → word_reply_at (word_reply_json given) ≡ Some given
unfolding word_reply_at valued_reply_at word_reply_named has_keys
word_reply_back word_reply.Acquired h = rw (u32_back 0 (omega arith))
word_reply_back word_reply.DeletePending h = rw (u32_back 0xc0000056 (omega arith))
word_reply_back word_reply.Done h = refl
word_reply_back word_reply.SeatFull h = refl
word_reply_back word_reply.NotHeld h = refl
word_reply_back word_reply.AlreadyRemoving h = refl
word_reply_back word_reply.NoLock h = refl
word_reply_back word_reply.Yes h = refl
word_reply_back (word_reply.Busy word) h = rw (u64_back word h)
word_reply_back word_reply.Standing h = refl
word_reply_back (word_reply.Taken use_no) h = rw (u64_back use_no h)
word_reply_back word_reply.Lost h = refl
word_reply_back word_reply.Nothing h = refl
word_reply_back word_reply.Used h = refl
word_reply_back word_reply.NotStanding h = refl
word_reply_back word_reply.NoSlot h = refl
word_reply_back word_reply.NoToken h = refl

word_reply_stands : (levels : ℕ) (given : WordReply) → WordReplyFits given → Stands (word_reply_json given) (suc levels)
word_reply_stands levels word_reply.Acquired h = (refl, refl, (omega arith, tt))
word_reply_stands levels word_reply.DeletePending h = (refl, refl, (omega arith, tt))
word_reply_stands levels word_reply.Done h = refl
word_reply_stands levels word_reply.SeatFull h = refl
word_reply_stands levels word_reply.NotHeld h = refl
word_reply_stands levels word_reply.AlreadyRemoving h = refl
word_reply_stands levels word_reply.NoLock h = refl
word_reply_stands levels word_reply.Yes h = refl
word_reply_stands levels (word_reply.Busy word) h = (refl, refl, (h, tt))
word_reply_stands levels word_reply.Standing h = refl
word_reply_stands levels (word_reply.Taken use_no) h = (refl, refl, (h, tt))
word_reply_stands levels word_reply.Lost h = refl
word_reply_stands levels word_reply.Nothing h = refl
word_reply_stands levels word_reply.Used h = refl
word_reply_stands levels word_reply.NotStanding h = refl
word_reply_stands levels word_reply.NoSlot h = refl
word_reply_stands levels word_reply.NoToken h = refl

-- the act of a line, where its kind has no other keys than these, under which stands what was written there, which makes
-- the act
act_back : (kind : ActKind) (done : Act) (line : WordLine) → (get (codes "do") (line_of_act done line) >>= as_str >>= act_named) ≡ Some kind
    → ((count_members (line_of_act done line) == (length (line_keys kind) + length beside)) && each_key beside (line_of_act done line)) ≡ true
    → map (λ key. part_under key None (line_of_act done line)) (line_keys kind) ≡ map read_again (act_parts done) → act_of kind (act_parts done) ≡ Some done
    → ActFits done → act_at (line_of_act done line) ≡ Some done
unfolding act_at told_at
act_back kind done line named keyed written made h =
    rw (named, keyed, parts_back (line_keys kind) (act_parts done) None (line_of_act done line) written h, made) refl

-- what the line of an act tells: no call, the act, and beside that its line's answer, seat and place
abbrev Tells : Act → WordLine → Data → Type 0
Tells done line form =
    (is_entry form ≡ false) × (act_at form ≡ Some done)
    × (get (codes "reply") form ≡ Some (word_reply_json line.reply)) × (get (codes "seat") form ≡ Some (natural line.seat))
    × (get (codes "step") form ≡ Some (natural line.step))

tells : (done : Act) (line : WordLine) → ActFits done → Tells done line (line_of_act done line)
unfolding act_named act_rows keys_of step_keys part_at act_of lock_act_of hand_of
tells (act.OnLock (on_lock.Acquire lock tag)) line h = (refl, act_back kind.Acquire _ line refl refl refl refl h, refl, refl, refl)
tells (act.OnLock (on_lock.Release lock tag)) line h = (refl, act_back kind.Release _ line refl refl refl refl h, refl, refl, refl)
tells (act.OnLock (on_lock.BeginRemove lock tag)) line h = (refl, act_back kind.BeginRemove _ line refl refl refl refl h, refl, refl, refl)
tells (act.OnLock (on_lock.Drained lock)) line h = (refl, act_back kind.Drained _ line refl refl refl refl h, refl, refl, refl)
tells (act.Hand hand) line h = (refl, act_back kind.Hand _ line refl refl refl refl h, refl, refl, refl)
tells (act.OnSlot (on_slot.Publish slot)) line h = (refl, act_back kind.Publish _ line refl refl refl refl h, refl, refl, refl)
tells (act.OnSlot (on_slot.Withdraw slot)) line h = (refl, act_back kind.Withdraw _ line refl refl refl refl h, refl, refl, refl)
tells (act.OnSlot (on_slot.Request slot)) line h = (refl, act_back kind.Request _ line refl refl refl refl h, refl, refl, refl)
tells (act.FinishTaken slot) line h = (refl, act_back kind.FinishTaken _ line refl refl refl refl h, refl, refl, refl)

-- a word line
pub word_back : (line : WordLine) → WordFits line → word_line_at (word_json line) ≡ Some line
unfolding word_line_at
word_back line h =
    let told = tells line.act line h.act in
    rw (
      told.1,
      told.2,
      word_reply_back line.reply h.reply,
      told.3,
      u32_back line.seat h.seat,
      told.4,
      u32_back line.step h.step,
    )
    refl

line_stands : (levels : ℕ) (done : Act) (line : WordLine) → ActFits done → Stands (word_reply_json line.reply) (suc levels) → line.seat < 2 ^ 64
    → line.step < 2 ^ 64 → Stands (line_of_act done line) (suc (suc levels))
line_stands levels (act.OnLock (on_lock.Acquire lock tag)) line h given seat step = (refl, refl, (refl, (wide lock.0 h.0, (given, (seat, (step, (wide tag h.1, tt)))))))
line_stands levels (act.OnLock (on_lock.Release lock tag)) line h given seat step = (refl, refl, (refl, (wide lock.0 h.0, (given, (seat, (step, (wide tag h.1, tt)))))))
line_stands levels (act.OnLock (on_lock.BeginRemove lock tag)) line h given seat step = (refl, refl, (refl, (wide lock.0 h.0, (given, (seat, (step, (wide tag h.1, tt)))))))
line_stands levels (act.OnLock (on_lock.Drained lock)) line h given seat step = (refl, refl, (refl, (wide lock.0 h, (given, (seat, (step, tt))))))
line_stands levels (act.Hand hand) line h given seat step = (refl, refl, (refl, (wide hand.lock.0 h.0, (given, (seat, (step, (wide hand.tag h.1.0, (wide hand.to h.1.1, tt))))))))
line_stands levels (act.OnSlot (on_slot.Publish slot)) line h given seat step = (refl, refl, (refl, (given, (seat, (wide slot h, (step, tt))))))
line_stands levels (act.OnSlot (on_slot.Withdraw slot)) line h given seat step = (refl, refl, (refl, (given, (seat, (wide slot h, (step, tt))))))
line_stands levels (act.OnSlot (on_slot.Request slot)) line h given seat step = (refl, refl, (refl, (given, (seat, (wide slot h, (step, tt))))))
line_stands levels (act.FinishTaken slot) line h given seat step = (refl, refl, (refl, (given, (seat, (wide slot h, (step, tt))))))

pub word_stands : (levels : ℕ) (line : WordLine) → WordFits line → Stands (word_json line) (suc (suc levels))
word_stands levels line h = line_stands levels line.act line h.act (word_reply_stands levels line.reply h.reply) (wide line.seat h.seat) (wide line.step h.step)

-- a word line isn't an entry's
pub no_entry : (line : WordLine) → WordFits line → is_entry (word_json line) ≡ false
no_entry line h = (tells line.act line h.act).0
