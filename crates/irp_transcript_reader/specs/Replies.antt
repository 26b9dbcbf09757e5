-- What a JSON value reads as: what a call was answered. None where the value has another form.
use Rattle.std.specs.Prelude.{[], ◌∷◌, codes, Option, Some, None, option_map, if◌then◌else◌}
use Rattle.std.specs.Bool.{then_some}
use Rattle.std.proofs.Common.{bytes_eq}
use Rattle.serde_json.specs.Data.{Data, string}
use Rattle.serde_json.specs.Find.{at, as_bool}
use Rattle.irp_forms.specs.Fields.{field}
use Rattle.irp_forms.specs.Names.{refusal_at}
use Rattle.irp_forms.specs.Parts.{◌>>=◌, or_null_at, has_items, has_keys, u32_at, u64_at}
use Rattle.irp_forms.specs.Values.{cancel_at, device_at, irp_at, status_at}
use Rattle.irp_types.specs.declared.{location.Owner.Owner, reply.Reply.Reply, reply.Seen.Seen}
use Rattle.irp_types.specs.declared.location.Owner.TheVariants as owners
use Rattle.irp_types.specs.declared.reply.Reply.TheVariants as replies

-- an owner: "o" for the originator, "ended", or the device's number
unfoldable pub owner_at : Data → Option Owner
owner_at (string name) =
    if bytes_eq name (codes "o") then Some owners.Originator else
    (if bytes_eq name (codes "ended") then Some owners.Ended else None)
owner_at form = device_at form >>= λ device. Some (owners.Device device)

-- what Look shows of a packet, of eight items
unfoldable pub seen_at : Data → Option Seen
seen_at form = if has_items 8 form then (do
  owner ← at 0 form >>= owner_at
  current ← at 1 form >>= u32_at
  status ← at 2 form >>= status_at
  information ← at 3 form >>= u64_at
  cancel ← at 4 form >>= as_bool
  cancel_routine ← at 5 form >>= or_null_at cancel_at
  pending_returned ← at 6 form >>= as_bool
  marked ← at 7 form >>= as_bool
  Some (record {
    owner = owner;
    current = current;
    status = status;
    information = information;
    cancel = cancel;
    cancel_routine = cancel_routine;
    pending_returned = pending_returned;
    marked = marked;
  })) else None

-- a reply that has a value, which stands under its name
unfoldable pub valued_reply_at : Data → Option Reply
valued_reply_at form =
    if has_keys (codes "device" ∷ []) form then option_map replies.Device (field (codes "device") device_at form) else
    (if has_keys (codes "irp" ∷ []) form then option_map replies.Irp (field (codes "irp") irp_at form) else
    (if has_keys (codes "previous" ∷ []) form then
    option_map replies.Previous (field (codes "previous") (or_null_at cancel_at) form) else
    (if has_keys (codes "status" ∷ []) form then option_map replies.Status (field (codes "status") status_at form) else
    (if has_keys (codes "cancelled" ∷ []) form then
    option_map replies.Cancelled (field (codes "cancelled") as_bool form) else
    (if has_keys (codes "seen" ∷ []) form then option_map replies.Seen (field (codes "seen") seen_at form) else
    (if has_keys (codes "refused" ∷ []) form then
    option_map replies.Refused (field (codes "refused") refusal_at form) else None))))))

-- a reply: its name, or its one value under its name
unfoldable pub reply_at : Data → Option Reply
reply_at (string name) = then_some (bytes_eq name (codes "done")) replies.Done
reply_at form = valued_reply_at form
