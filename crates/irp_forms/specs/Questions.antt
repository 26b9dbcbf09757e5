-- What a JSON value reads as: what a closure was asked, was shown and answered. None where the value has another form.
use Rattle.std.specs.Prelude.{ℕ, List, [], ◌∷◌, codes, Bool, true, false, Option, Some, None, if◌then◌else◌}
use Rattle.serde_json.specs.Data.{Data}
use Rattle.serde_json.specs.Find.{at, get, as_bool, as_str}
use Rattle.irp_forms.specs.Names.{answer_name, first_named}
use Rattle.irp_forms.specs.Parts.{◌>>=◌, has_items, has_keys, or_null_at, u8_at, u32_at, u64_at}
use Rattle.irp_forms.specs.Values.{cancel_answer_at, cancel_at, device_at, dispatch_at, plan_at, replacement_at}
use Rattle.irp_forms.specs.Values.{routine_at, status_at}
use Rattle.irp_types.specs.declared.{answer.Answer.Answer, asked.Asked.Asked, shown.Shown.Shown}
use Rattle.irp_types.specs.declared.asked.Asked.TheVariants as questions

-- whether a completion routine keeps the packet or continues
unfoldable pub keep_named : List ℕ → Option Bool
keep_named = first_named answer_name (true ∷ false ∷ [])

-- a completion routine's answer: its name, the mark, and the replacement or null
unfoldable pub answer_at : Data → Option Answer
answer_at form = if has_items 3 form then (do
  keep ← at 0 form >>= as_str >>= keep_named
  mark ← at 1 form >>= as_bool
  replacement ← at 2 form >>= or_null_at replacement_at
  Some (record { keep = keep; mark = mark; replacement = replacement })) else None

-- what a closure is shown, of twelve items
unfoldable pub shown_at : Data → Option Shown
shown_at form = if has_items 12 form then (do
  device ← at 0 form >>= or_null_at device_at
  slot ← at 1 form >>= u32_at
  use_no ← at 2 form >>= u64_at
  major ← at 3 form >>= u8_at
  location ← at 4 form >>= u32_at
  word ← at 5 form >>= u64_at
  status ← at 6 form >>= status_at
  information ← at 7 form >>= u64_at
  pending_returned ← at 8 form >>= as_bool
  cancel ← at 9 form >>= as_bool
  context ← at 10 form >>= u64_at
  has_lower ← at 11 form >>= as_bool
  Some (record {
    device = device;
    irp = record { slot = slot; use_no = use_no };
    major = major;
    location = location;
    word = word;
    status = status;
    information = information;
    pending_returned = pending_returned;
    cancel = cancel;
    context = context;
    has_lower = has_lower;
  })) else None

-- a question, by the keys that it has: which closure, what it was shown, and its plan or answer
unfoldable pub asked_at : Data → Option Asked
asked_at form =
    if has_keys (codes "dispatch" ∷ codes "plan" ∷ codes "shown" ∷ []) form then (do
      id ← get (codes "dispatch") form >>= dispatch_at
      shown ← get (codes "shown") form >>= shown_at
      plan ← get (codes "plan") form >>= plan_at
      Some (questions.Dispatch id shown plan)) else
    (if has_keys (codes "answer" ∷ codes "completion" ∷ codes "shown" ∷ []) form then (do
      id ← get (codes "completion") form >>= routine_at
      shown ← get (codes "shown") form >>= shown_at
      answer ← get (codes "answer") form >>= answer_at
      Some (questions.Completion id shown answer)) else
    (if has_keys (codes "answer" ∷ codes "cancel" ∷ codes "shown" ∷ []) form then (do
      id ← get (codes "cancel") form >>= cancel_at
      shown ← get (codes "shown") form >>= shown_at
      answer ← get (codes "answer") form >>= cancel_answer_at
      Some (questions.Cancel id shown answer)) else None))
