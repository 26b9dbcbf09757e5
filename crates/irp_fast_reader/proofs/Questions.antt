-- What closures were asked is read as it was written, and its form stands.
use Rattle.std.proofs.Common.{◌≡◌, ℕ, suc, Some, refl}
use Rattle.irp_forms.specs.Parts.{has_keys}
use Rattle.irp_forms.specs.Questions.{asked_at, shown_at}
use Rattle.irp_types.specs.declared.{asked.Asked.Asked, shown.Shown.Shown}
use Rattle.irp_types.specs.declared.asked.Asked.TheVariants as asked
use Rattle.irp_transcript_writer.specs.Lines.{asked_json, device_json, shown_json}
use Rattle.irp_fast_reader.proofs.Numbers.{u8_back, u32_back, u64_back, byte_wide, wide, or_null_stands}
use Rattle.irp_fast_reader.proofs.Stands.{Stands}
use Rattle.irp_fast_reader.proofs.Values.{answer_back, answer_stands, cancel_answer_back, cancel_answer_stands, cancel_back, device_or_null_back, plan_back, plan_stands, routine_back, routine_stands, status_back}
use Rattle.irp_fast_reader.specs.Fits.{AskedFits, ShownFits}
use Rattle.irp_fast_reader.specs.Parts.{DeviceFits}

shown_back : (shown : Shown) → ShownFits shown → shown_at (shown_json shown) ≡ Some shown
unfolding shown_at
shown_back shown h =
    rw (
      device_or_null_back shown.device h.0.device,
      u32_back shown.irp.slot h.1,
      u64_back shown.irp.use_no h.0.use_no,
      u8_back shown.major h.0.major,
      u32_back shown.location h.0.location,
      u64_back shown.word h.0.word,
      status_back shown.status h.0.status,
      u64_back shown.information h.0.information,
      u64_back shown.context h.0.context,
    )

shown_stands : (levels : ℕ) (shown : Shown) → ShownFits shown → Stands (shown_json shown) (suc levels)
shown_stands levels shown h =
    let given = or_null_stands device_json DeviceFits levels (λ device k. wide device.0 k) shown.device h.0.device in (
      given,
      (
        wide shown.irp.slot h.1,
        (
          h.0.use_no,
          (
            byte_wide shown.major h.0.major,
            (
              wide shown.location h.0.location,
              (h.0.word, (wide shown.status.0 h.0.status, (h.0.information, (tt, (tt, (h.0.context, (tt, tt))))))),
            ),
          ),
        ),
      ),
    )

-- a question with its answer
pub asked_back : (question : Asked) → AskedFits question → asked_at (asked_json question) ≡ Some question
unfolding asked_at has_keys
asked_back (asked.Dispatch id shown plan) h = rw (u32_back id.0 h.0, shown_back shown h.1, plan_back plan h.2)
asked_back (asked.Completion id shown answer) h = rw (routine_back id h.0, shown_back shown h.1, answer_back answer h.2)
asked_back (asked.Cancel id shown answer) h = rw (cancel_back id h.0, shown_back shown h.1, cancel_answer_back answer h.2)

pub asked_stands : (levels : ℕ) (question : Asked) → AskedFits question → Stands (asked_json question) (suc (suc (suc levels)))
asked_stands levels (asked.Dispatch id shown plan) h = (refl, refl, (wide id.0 h.0, (plan_stands levels plan h.2, (shown_stands (suc levels) shown h.1, tt))))
asked_stands levels (asked.Completion id shown answer) h = (refl, refl, (answer_stands levels answer h.2, (routine_stands (suc levels) id h.0, (shown_stands (suc levels) shown h.1, tt))))
asked_stands levels (asked.Cancel id shown answer) h = (refl, refl, (cancel_answer_stands (suc levels) answer h.2, (wide id.0 h.0, (shown_stands (suc levels) shown h.1, tt))))
