-- Replies are read as they were written, and their forms stand.
use Rattle.std.proofs.Common.{◌≡◌, ℕ, suc, true, Some, refl}
use Rattle.serde_json.specs.Data.{string}
use Rattle.irp_forms.specs.Names.{refusal_at}
use Rattle.irp_forms.specs.Parts.{has_keys}
use Rattle.irp_types.specs.Refusal.{refusal_found, refusal_name, refusals}
use Rattle.irp_types.specs.declared.{location.Owner.Owner, refusal.Refusal.Refusal, reply.Reply.Reply}
use Rattle.irp_types.specs.declared.reply.Seen.{Seen}
use Rattle.irp_types.specs.declared.location.Owner.TheVariants as owner
use Rattle.irp_types.specs.declared.reply.Reply.TheVariants as reply
use Rattle.irp_transcript_reader.specs.Replies.{owner_at, reply_at, seen_at, valued_reply_at}
use Rattle.irp_transcript_writer.specs.Lines.{owner_json, reply_json, seen_json}
use Rattle.irp_fast_reader.proofs.Names.{found_plain}
use Rattle.irp_fast_reader.proofs.Numbers.{u32_back, u64_back, wide}
use Rattle.irp_fast_reader.proofs.Stands.{are_plain, Stands}
use Rattle.irp_fast_reader.proofs.Values.{cancel_or_null_back, cancel_or_null_stands, device_back, irp_back, irp_stands, status_back}
use Rattle.irp_fast_reader.specs.Fits.{OwnerFits, ReplyFits, SeenFits}

-- a refusal is read by its name
refusal_back : (reason : Refusal) → refusal_at (string (refusal_name reason)) ≡ Some reason
refusal_back reason = refusal_found reason

refusal_plain : (reason : Refusal) → are_plain (refusal_name reason) ≡ true
unfolding refusals
refusal_plain reason = found_plain refusal_name refusals reason refl (refusal_found reason)

owner_back : (holder : Owner) → OwnerFits holder → owner_at (owner_json holder) ≡ Some holder
unfolding owner_at
owner_back owner.Originator h = refl
owner_back (owner.Device device) h = rw (device_back device h)
owner_back owner.Ended h = refl

owner_stands : (levels : ℕ) (holder : Owner) → OwnerFits holder → Stands (owner_json holder) levels
owner_stands levels owner.Originator h = refl
owner_stands levels (owner.Device device) h = wide device.0 h
owner_stands levels owner.Ended h = refl

seen_back : (seen : Seen) → SeenFits seen → seen_at (seen_json seen) ≡ Some seen
unfolding seen_at
seen_back seen h =
    rw (
      owner_back seen.owner h.0,
      u32_back seen.current h.1,
      status_back seen.status h.2,
      u64_back seen.information h.3,
      cancel_or_null_back seen.cancel_routine h.4,
    )

seen_stands : (levels : ℕ) (seen : Seen) → SeenFits seen → Stands (seen_json seen) (suc levels)
seen_stands levels seen h = (
  owner_stands levels seen.owner h.0,
  (
    wide seen.current h.1,
    (
      wide seen.status.0 h.2,
      (
        h.3,
        (tt, (cancel_or_null_stands levels seen.cancel_routine h.4, (tt, (tt, tt)))),
      ),
    ),
  ),
)

-- a reply
pub reply_back : (given : Reply) → ReplyFits given → reply_at (reply_json given) ≡ Some given
unfolding reply_at valued_reply_at has_keys
reply_back reply.Done h = refl
reply_back (reply.Device device) h = rw (device_back device h)
reply_back (reply.Irp irp) h = rw (irp_back irp h)
reply_back (reply.Status status) h = rw (status_back status h)
reply_back (reply.Previous cancel) h = rw (cancel_or_null_back cancel h)
reply_back (reply.Cancelled cancelled) h = refl
reply_back (reply.Seen seen) h = rw (seen_back seen h)
reply_back (reply.Refused reason) h = rw (refusal_back reason)

pub reply_stands : (levels : ℕ) (given : Reply) → ReplyFits given → Stands (reply_json given) (suc (suc levels))
reply_stands levels reply.Done h = refl
reply_stands levels (reply.Device device) h = (refl, refl, (wide device.0 h, tt))
reply_stands levels (reply.Irp irp) h = (refl, refl, (irp_stands levels irp h, tt))
reply_stands levels (reply.Status status) h = (refl, refl, (wide status.0 h, tt))
reply_stands levels (reply.Previous cancel) h = (refl, refl, (cancel_or_null_stands (suc levels) cancel h, tt))
reply_stands levels (reply.Cancelled cancelled) h = (refl, refl, (tt, tt))
reply_stands levels (reply.Seen seen) h = (refl, refl, (seen_stands levels seen h, tt))
reply_stands levels (reply.Refused reason) h = (refl, refl, (refusal_plain reason, tt))
