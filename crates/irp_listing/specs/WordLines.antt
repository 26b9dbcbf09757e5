-- Word lines in words: steps on remove locks and on cancel slots.
use Rattle.std.specs.Prelude.{ℕ, ◌==◌, ◌/◌, ◌%◌, Bool, true, false, List, [], ◌++◌, codes}
use Rattle.std.specs.Fmt.{decimal}
use Rattle.irp_names.specs.Acts.{hand_text, lock_act_text, slot_act_text}
use Rattle.irp_transcript.specs.declared.word_line.Act.{Act}
use Rattle.irp_transcript.specs.declared.word_line.Act.TheVariants as act
use Rattle.irp_transcript.specs.declared.word_line.WordLine.{WordLine}
use Rattle.irp_transcript.specs.declared.word_line.WordReply.{WordReply}
use Rattle.irp_transcript.specs.declared.word_line.WordReply.TheVariants as reply

-- what was done with a remove lock or a cancel slot
abbrev pub act_text : Act → List ℕ
act_text (act.OnLock done) = lock_act_text done
act_text (act.Hand hand) = hand_text hand
act_text (act.OnSlot done) = slot_act_text done
act_text (act.FinishTaken slot) = codes "would finish what it took from cancel slot " ++ decimal slot

-- what is counted of a lock that is busy
abbrev pub in_flight : Bool → List ℕ
in_flight true = codes " references or attempts in flight, removal has begun"
in_flight false = codes " references or attempts in flight, removal hasn't begun"

-- an answer that has no number
abbrev pub fixed_words : WordReply → List ℕ
fixed_words reply.Acquired = codes "STATUS_SUCCESS"
fixed_words reply.DeletePending = codes "STATUS_DELETE_PENDING: removal has begun"
fixed_words reply.Done = codes "done"
fixed_words reply.SeatFull = codes "seat_full: the seat holds 64 references"
fixed_words reply.NotHeld = codes "not_held: the seat doesn't hold the lock under this tag"
fixed_words reply.AlreadyRemoving = codes "already_removing: another removal came first"
fixed_words reply.NoLock = codes "no_lock: there is no such remove lock"
fixed_words reply.Yes = codes "yes: it is drained"
fixed_words reply.Standing = codes "standing: a request may take it"
fixed_words reply.Lost = codes "lost: a request took it"
fixed_words reply.Nothing = codes "nothing: the slot is empty"
fixed_words reply.Used = codes "used: the slot served before"
fixed_words reply.NotStanding = codes "not_standing: nothing of this seat stands there"
fixed_words reply.NoSlot = codes "no_slot: there is no such cancel slot"
fixed_words reply.NoToken = codes "no_token: the seat took nothing from it"
fixed_words other = []

-- what a step was answered; a busy lock's word is twice the count, and one more where removal has begun
abbrev pub reply_text : WordReply → List ℕ
reply_text (reply.Busy word) = codes "busy: " ++ (decimal (word / 2) ++ in_flight (word % 2 == 1))
reply_text (reply.Taken use_no) = codes "took use " ++ decimal use_no
reply_text other = fixed_words other

-- a word line
abbrev pub word_line_text : WordLine → List ℕ
word_line_text line =
    codes "step " ++ (decimal line.step ++ (codes "  seat " ++ (decimal line.seat ++ (codes ": " ++
    (act_text line.act ++ (codes " -> " ++ reply_text line.reply))))))
