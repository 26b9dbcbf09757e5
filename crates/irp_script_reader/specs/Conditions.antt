-- What a condition of a step reads as. None where the value has another form.
use Rattle.std.specs.Prelude.{ℕ, List, [], ◌∷◌, codes, Option, Some, None, option_map, Bool, true, false}
use Rattle.std.specs.Prelude.{if◌then◌else◌}
use Rattle.std.proofs.Common.{bytes_eq}
use Rattle.serde_json.specs.Data.{Data, string}
use Rattle.serde_json.specs.Find.{as_bool, as_str}
use Rattle.irp_forms.specs.Fields.{field, nth}
use Rattle.irp_forms.specs.Names.{refusal_at}
use Rattle.irp_forms.specs.Parts.{◌>>=◌, has_keys, of_items, or_null_at, u32_at}
use Rattle.irp_forms.specs.Values.{cancel_at, status_at}
use Rattle.irp_script_reader.specs.declared.condition.AnswerWord.TheVariants as word
use Rattle.irp_script_reader.specs.declared.condition.{Condition.Condition, ExpectedAnswer.ExpectedAnswer}
use Rattle.irp_script_reader.specs.declared.condition.ExpectedAnswer.TheVariants as expected

-- an answer of a remove lock or of a cancel slot, by its word
unfoldable pub word_named : List ℕ → Option ExpectedAnswer
word_named name =
    if bytes_eq name (codes "yes") then Some (expected.Word word.Yes) else
    (if bytes_eq name (codes "busy") then Some (expected.Word word.Busy) else
    (if bytes_eq name (codes "seat_full") then Some (expected.Word word.SeatFull) else
    (if bytes_eq name (codes "not_held") then Some (expected.Word word.NotHeld) else
    (if bytes_eq name (codes "already_removing") then Some (expected.Word word.AlreadyRemoving) else
    (if bytes_eq name (codes "no_lock") then Some (expected.Word word.NoLock) else
    (if bytes_eq name (codes "standing") then Some (expected.Word word.Standing) else
    (if bytes_eq name (codes "taken") then Some (expected.Word word.Taken) else
    (if bytes_eq name (codes "lost") then Some (expected.Word word.Lost) else
    (if bytes_eq name (codes "nothing") then Some (expected.Word word.Nothing) else
    (if bytes_eq name (codes "used") then Some (expected.Word word.Used) else
    (if bytes_eq name (codes "not_standing") then Some (expected.Word word.NotStanding) else
    (if bytes_eq name (codes "no_slot") then Some (expected.Word word.NoSlot) else
    (if bytes_eq name (codes "no_token") then Some (expected.Word word.NoToken) else None)))))))))))))

-- an answer by its name
unfoldable pub answer_named : List ℕ → Option ExpectedAnswer
answer_named name =
    if bytes_eq name (codes "refused") then Some expected.AnyRefusal else
    (if bytes_eq name (codes "success") then Some expected.Success else
    (if bytes_eq name (codes "routine") then Some expected.AnyRoutine else
    (if bytes_eq name (codes "done") then Some expected.Done else word_named name)))

-- an answer that has a value, which stands under its name
unfoldable pub valued_answer_at : Data → Option ExpectedAnswer
valued_answer_at form =
    if has_keys (codes "refused" ∷ []) form then
    option_map expected.Refusal (field (codes "refused") refusal_at form) else
    (if has_keys (codes "status" ∷ []) form then option_map expected.Status (field (codes "status") status_at form) else
    (if has_keys (codes "previous" ∷ []) form then
    option_map expected.Previous (field (codes "previous") (or_null_at cancel_at) form) else
    (if has_keys (codes "cancelled" ∷ []) form then
    option_map expected.Cancelled (field (codes "cancelled") as_bool form) else None)))

-- an answer: its name, or its one value under its name
unfoldable pub answer_at : Data → Option ExpectedAnswer
answer_at (string name) = answer_named name
answer_at form = valued_answer_at form

-- whether the answer is wanted
unfoldable pub wanted_named : List ℕ → Option Bool
wanted_named name =
    if bytes_eq name (codes "is") then Some true else (if bytes_eq name (codes "is_not") then Some false else None)

abbrev pub wanted_at : Data → Option Bool
wanted_at form = as_str form >>= wanted_named

-- a condition: whether the answer is wanted, the place of the step, and the answer
unfoldable pub condition_at : Data → Option Condition
condition_at form = do
  its ← of_items 3 form
  wanted ← nth 0 wanted_at form
  step ← nth 1 u32_at form
  given ← nth 2 answer_at form
  Some (record { step = step; wanted = wanted; answer = given })
