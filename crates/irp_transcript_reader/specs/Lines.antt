-- What a line's JSON value reads as: an entry or a header. None where the value has another form.
use Rattle.std.specs.Prelude.{ℕ, ◌==◌, List, [], ◌∷◌, length, codes, Option, Some, None, if◌then◌else◌}
use Rattle.serde_json.specs.Data.{Data}
use Rattle.serde_json.specs.Find.{get}
use Rattle.irp_forms.specs.Parts.{◌>>=◌, has_keys, list_at, only_keys, u32_at, u64_at, up_to}
use Rattle.irp_forms.specs.Names.{cancel_rule_at}
use Rattle.irp_forms.specs.Values.{completions_at, handler_at, known_at}
use Rattle.irp_types.specs.Limits.{most_routines}
use Rattle.irp_types.specs.declared.entry.Entry.{Entry}
use Rattle.irp_transcript.specs.declared.{header.Header.Header, header.Form.Form}
use Rattle.irp_transcript.specs.declared.header.Form.TheVariants as forms
use Rattle.irp_transcript_reader.specs.Calls.{entry_call_at}
use Rattle.irp_forms.specs.Questions.{asked_at}
use Rattle.irp_transcript_reader.specs.Replies.{reply_at}

-- the list under a key
abbrev pub list_under : {T : Type 0} → (Data → Option T) → List ℕ → Data → Option (List T)
list_under reads key form = get key form >>= list_at reads

-- an entry: what was asked, the call, the entry's number, the reply and the seat
unfoldable pub entry_at : Data → Option Entry
entry_at form = if has_keys (codes "asked" ∷ codes "call" ∷ codes "n" ∷ codes "reply" ∷ codes "seat" ∷ []) form then (do
  called ← get (codes "call") form >>= entry_call_at
  asked ← list_under asked_at (codes "asked") form
  place ← get (codes "n") form >>= u64_at
  seat ← get (codes "seat") form >>= u32_at
  reply ← get (codes "reply") form >>= reply_at
  Some (record {
    number = place;
    seat = seat;
    call = called.call;
    lock = called.lock;
    drained = called.drained;
    asked = asked;
    reply = reply;
  })) else None

-- some where there are the keys of both forms and those beside them, and no others
unfoldable pub header_keys_at : List (List ℕ) → Data → Option (Unit {0})
header_keys_at beside form =
    only_keys (codes "cancels" ∷ codes "completions" ∷ codes "dispatches" ∷ codes "drivers" ∷ codes "form"
    ∷ codes "locks"
    ∷ codes "seats" ∷ beside) form

-- the form of a header that has this number, by its keys: form 2 has `slots`, too
abbrev pub form_numbered : ℕ → Data → Option Form
form_numbered number form =
    if number == 1 then (header_keys_at [] form >>= λ its. Some forms.One) else
    (if number == 2 then (do
      its ← header_keys_at (codes "slots" ∷ []) form
      slots ← get (codes "slots") form >>= u32_at
      Some (forms.Two slots)) else None)

-- a header's form, by its number and its keys
unfoldable pub header_form_at : Data → Option Form
header_form_at form = get (codes "form") form >>= u32_at >>= λ number. form_numbered number form

-- a header: its form, the rules of at most 256 cancel routines, which it counts by their list, the other counts, what
-- each dispatch may name, and each driver's dispatches
unfoldable pub header_at : Data → Option Header
header_at form = do
  kind ← header_form_at form
  completions ← get (codes "completions") form >>= completions_at
  cancels ← list_under cancel_rule_at (codes "cancels") form
  cancel ← up_to most_routines (length cancels)
  dispatches ← list_under known_at (codes "dispatches") form
  drivers ← list_under (list_at handler_at) (codes "drivers") form
  locks ← get (codes "locks") form >>= u32_at
  seats ← get (codes "seats") form >>= u32_at
  Some (record {
    cancels = cancels;
    completions = record completions { cancel = cancel };
    dispatches = dispatches;
    drivers = drivers;
    form = kind;
    locks = locks;
    seats = seats;
  })
