-- Acts by their words, with the keys of each.
use Rattle.std.specs.Prelude.{ℕ, codes, get_or, List, [], ◌∷◌, map, Option}
use Rattle.std.specs.Borrow.{Bor}
use Rattle.std.specs.List.{find, slice_get}
use Rattle.std.specs.Option.{option_map}
use Rattle.std.proofs.Common.{bytes_eq}
use Rattle.irp_forms.specs.declared.step_names.ActKind.{ActKind}
use Rattle.irp_forms.specs.declared.step_names.ActKind.TheVariants as act
use Rattle.irp_forms.specs.declared.key_parts.Part.{Part}
use Rattle.irp_forms.specs.declared.key_parts.Part.TheVariants as part
use Rattle.irp_types.specs.Calls.{Call}
use Rattle.irp_types.specs.declared.call.Call.TheVariants as call

-- what the first row with this word has
abbrev pub under : List ℕ → List (List ℕ × ActKind) → Option ActKind
under word rows = option_map (λ row. row.1) (find (λ row. bytes_eq word row.0) rows)

-- each act under its word, which JSON has under `do`
unfoldable pub act_rows : List (List ℕ × ActKind)
act_rows =
    (codes "create_device", act.CreateDevice)
    ∷ (codes "attach", act.Attach)
    ∷ (codes "detach", act.Detach)
    ∷ (codes "delete", act.Delete)
    ∷ (codes "allocate", act.Allocate)
    ∷ (codes "free", act.Free)
    ∷ (codes "cancel", act.Cancel)
    ∷ (codes "look", act.Look)
    ∷ (codes "reuse", act.Reuse)
    ∷ (codes "set_next", act.SetNext)
    ∷ (codes "copy_to_next", act.CopyToNext)
    ∷ (codes "skip", act.Skip)
    ∷ (codes "mark_pending", act.MarkPending)
    ∷ (codes "set_routine", act.SetRoutine)
    ∷ (codes "call_driver", act.CallDriver)
    ∷ (codes "complete", act.Complete)
    ∷ (codes "set_cancel_routine", act.SetCancelRoutine)
    ∷ (codes "acquire", act.Acquire)
    ∷ (codes "release", act.Release)
    ∷ (codes "begin_remove", act.BeginRemove)
    ∷ (codes "drained", act.Drained)
    ∷ (codes "hand", act.Hand)
    ∷ (codes "publish", act.Publish)
    ∷ (codes "withdraw", act.Withdraw)
    ∷ (codes "request", act.Request)
    ∷ (codes "finish_taken", act.FinishTaken)
    ∷ []

-- a key of an act, and what stands under it
abbrev pub ActKey : Type 0
ActKey = List ℕ × Part

-- the keys of a list, whose names are text slices
abbrev pub keys_named : List (Bor (List ℕ) × Part) → List ActKey
keys_named keys = map (λ key. (key.0.now, key.1)) keys

abbrev pub irp_key : ActKey
irp_key = (codes "irp", part.Packet)

abbrev pub lock_key : ActKey
lock_key = (codes "lock", part.Lock)

abbrev pub slot_key : ActKey
slot_key = (codes "slot", part.Slot)

abbrev pub status_key : ActKey
status_key = (codes "status", part.Status)

abbrev pub information_key : ActKey
information_key = (codes "information", part.Information)

-- the keys of a call that a party makes on a packet
abbrev pub of_party : List ActKey → List ActKey
of_party others = (codes "by", part.Party) ∷ irp_key ∷ others

-- the keys of an act on a remove lock that has a tag
abbrev pub tagged : List ActKey → List ActKey
tagged others = lock_key ∷ (codes "tag", part.Tag) ∷ others

-- the keys of each act in a script but for those that every step has, in the order of the acts
unfoldable pub step_keys : List (List ActKey)
step_keys =
    ((codes "driver", part.Driver) ∷ lock_key ∷ [])
    ∷ ((codes "device", part.Device) ∷ (codes "to", part.Device) ∷ [])
    ∷ ((codes "lower", part.Device) ∷ [])
    ∷ ((codes "device", part.Device) ∷ [])
    ∷ ((codes "size", part.Size) ∷ (codes "as", part.Label) ∷ [])
    ∷ (irp_key ∷ [])
    ∷ (irp_key ∷ [])
    ∷ (irp_key ∷ [])
    ∷ (irp_key ∷ status_key ∷ [])
    ∷ of_party ((codes "major", part.Major) ∷ (codes "word", part.Word) ∷ [])
    ∷ of_party []
    ∷ of_party []
    ∷ of_party []
    ∷ of_party ((codes "set", part.Setting) ∷ [])
    ∷ of_party ((codes "target", part.Device) ∷ [])
    ∷ of_party (status_key ∷ information_key ∷ [])
    ∷ of_party ((codes "cancel", part.CancelOrNull) ∷ [])
    ∷ tagged []
    ∷ tagged []
    ∷ tagged []
    ∷ (lock_key ∷ [])
    ∷ tagged ((codes "to", part.Seat) ∷ [])
    ∷ (slot_key ∷ irp_key ∷ [])
    ∷ (slot_key ∷ [])
    ∷ (slot_key ∷ [])
    ∷ (irp_key ∷ slot_key ∷ status_key ∷ information_key ∷ [])
    ∷ []

-- the place of an act's row
abbrev pub act_place : ActKind → ℕ
act_place act.CreateDevice = 0
act_place act.Attach = 1
act_place act.Detach = 2
act_place act.Delete = 3
act_place act.Allocate = 4
act_place act.Free = 5
act_place act.Cancel = 6
act_place act.Look = 7
act_place act.Reuse = 8
act_place act.SetNext = 9
act_place act.CopyToNext = 10
act_place act.Skip = 11
act_place act.MarkPending = 12
act_place act.SetRoutine = 13
act_place act.CallDriver = 14
act_place act.Complete = 15
act_place act.SetCancelRoutine = 16
act_place act.Acquire = 17
act_place act.Release = 18
act_place act.BeginRemove = 19
act_place act.Drained = 20
act_place act.Hand = 21
act_place act.Publish = 22
act_place act.Withdraw = 23
act_place act.Request = 24
act_place act.FinishTaken = 25

-- the word of an act, and its keys in a script
unfoldable pub act_word : ActKind → List ℕ
act_word one = get_or (map (λ row. row.0) act_rows) (act_place one) []

unfoldable pub keys_of : ActKind → List ActKey
keys_of one = get_or step_keys (act_place one) []

-- what stands at a place of these rows, and the act at a place
abbrev pub placed : ℕ → List (List ℕ × ActKind) → Option ActKind
placed place rows = option_map (λ row. row.1) (slice_get rows place)

unfoldable pub act_at : ℕ → Option ActKind
act_at place = placed place act_rows

-- the act that a word names
unfoldable pub act_named : List ℕ → Option ActKind
act_named word = under word act_rows

-- the act that a call is
abbrev pub kind_of : Call → ActKind
kind_of (call.CreateDevice driver lock) = act.CreateDevice
kind_of (call.Attach device to) = act.Attach
kind_of (call.Detach lower) = act.Detach
kind_of (call.Delete device) = act.Delete
kind_of (call.Allocate size) = act.Allocate
kind_of (call.Free irp) = act.Free
kind_of (call.Cancel irp) = act.Cancel
kind_of (call.Look irp) = act.Look
kind_of (call.Reuse irp status) = act.Reuse
kind_of (call.SetNext party irp major word) = act.SetNext
kind_of (call.CopyToNext party irp) = act.CopyToNext
kind_of (call.Skip party irp) = act.Skip
kind_of (call.MarkPending party irp) = act.MarkPending
kind_of (call.SetRoutine party irp setting) = act.SetRoutine
kind_of (call.CallDriver party irp target) = act.CallDriver
kind_of (call.Complete party irp status information) = act.Complete
kind_of (call.SetCancelRoutine party irp cancel) = act.SetCancelRoutine
kind_of (call.FinishTaken irp token status information) = act.FinishTaken
