-- Which answers a step may get.
use Rattle.std.specs.Prelude.{Bool, true, false}
use Rattle.irp_types.specs.declared.call.Call.TheVariants as call
use Rattle.irp_types.specs.declared.seat_act.LockAct.TheVariants as lock
use Rattle.irp_script_reader.specs.declared.act.StepAct.{StepAct}
use Rattle.irp_script_reader.specs.declared.act.StepAct.TheVariants.{Call, Allocate, OnLock, Hand, Publish, Withdraw, Request}
use Rattle.irp_script_reader.specs.declared.condition.{AnswerWord.AnswerWord, ExpectedAnswer.ExpectedAnswer}
use Rattle.irp_script_reader.specs.declared.condition.AnswerWord.TheVariants as word
use Rattle.irp_script_reader.specs.declared.condition.ExpectedAnswer.TheVariants.{AnyRefusal, Refusal, Success, Status, AnyRoutine, Previous, Cancelled, Done, Word}

-- a lock or a slot may answer so
abbrev pub may_say : AnswerWord → StepAct → Bool
may_say word.Yes (OnLock (lock.Drained id)) = true
may_say word.Busy (OnLock (lock.Drained id)) = true
may_say word.SeatFull (OnLock (lock.Acquire id tag)) = true
may_say word.SeatFull (Hand hand) = true
may_say word.NotHeld (OnLock (lock.Release id tag)) = true
may_say word.NotHeld (OnLock (lock.BeginRemove id tag)) = true
may_say word.NotHeld (Hand hand) = true
may_say word.AlreadyRemoving (OnLock (lock.BeginRemove id tag)) = true
may_say word.NoLock (OnLock on) = true
may_say word.NoLock (Hand hand) = true
may_say word.Standing (Publish slot irp) = true
may_say word.Used (Publish slot irp) = true
may_say word.Taken (Publish slot irp) = true
may_say word.Taken (Withdraw slot) = true
may_say word.Taken (Request slot) = true
may_say word.Lost (Publish slot irp) = true
may_say word.Lost (Withdraw slot) = true
may_say word.Nothing (Request slot) = true
may_say word.NoSlot (Request slot) = true
may_say word.NotStanding (Withdraw slot) = true
may_say word.NoToken (Call (call.FinishTaken irp slot status information)) = true
may_say word act = false

-- the manager answers, where the step isn't passed over
abbrev pub is_call : StepAct → Bool
is_call (Call made) = true
is_call (Allocate size label) = true
is_call act = false

-- the answer may be a status
abbrev pub answers_status : StepAct → Bool
answers_status (Call (call.CallDriver party irp target)) = true
answers_status (OnLock (lock.Acquire id tag)) = true
answers_status act = false

-- the answer may be the plain word that it was done
abbrev pub answers_done : StepAct → Bool
answers_done (Call (call.CreateDevice driver id)) = false
answers_done (Call (call.CallDriver party irp target)) = false
answers_done (Call (call.SetCancelRoutine party irp cancel)) = false
answers_done (Call (call.Cancel irp)) = false
answers_done (Call (call.Look irp)) = false
answers_done (Allocate size label) = false
answers_done (OnLock (lock.Acquire id tag)) = false
answers_done (OnLock (lock.Drained id)) = false
answers_done (Publish slot irp) = false
answers_done (Withdraw slot) = false
answers_done (Request slot) = false
answers_done act = true

abbrev pub sets_cancel_routine : StepAct → Bool
sets_cancel_routine (Call (call.SetCancelRoutine party irp cancel)) = true
sets_cancel_routine act = false

abbrev pub cancels : StepAct → Bool
cancels (Call (call.Cancel irp)) = true
cancels act = false

-- a step may be answered so
abbrev pub may_be_answered : StepAct → ExpectedAnswer → Bool
may_be_answered act AnyRefusal = true
may_be_answered act (Refusal refusal) = is_call act
may_be_answered act Success = answers_status act
may_be_answered act (Status status) = answers_status act
may_be_answered act AnyRoutine = sets_cancel_routine act
may_be_answered act (Previous cancel) = sets_cancel_routine act
may_be_answered act (Cancelled cancelled) = cancels act
may_be_answered act Done = answers_done act
may_be_answered act (Word word) = may_say word act
