-- The pieces stand one behind another.
use Rattle.std.proofs.Common.{◌≡◌, ℕ, List, ◌++◌, Option, codes, subst}
use Rattle.json.specs.Print.{escape_byte}
use Rattle.serde_json.specs.Written.{compact_text}
use Rattle.irp_types.specs.declared.refusal.Refusal.{Refusal}
use Rattle.irp_judge.specs.declared.verdict.Wrong.{Wrong}
use Rattle.irp_transcript_writer.specs.Json.{natural, or_null}
use Rattle.irp_transcript_writer.specs.Lines.{entry_json}
use Rattle.irp_live.specs.Told.{difference_json, part_json, question_of, refusal_in, refusal_json, shown_json, wrong_json}
use Rattle.irp_live.proofs.Pieces.{eight, on_ok}
use Rattle.irp_live.proofs.told.WrongEntryWritten.write.Goals as goal

pub returns : goal.returns
unfolding escape_byte
returns c =
    let wrong : Wrong = c.args.self.now.wrong.now in
    let old : List ℕ = c.args.out.now.items in
    let new : List ℕ = c.put_text.new.out.items in
    let m3 : List ℕ = c.put-3.new.out.items in
    let m4 : List ℕ = c.put-4.new.out.items in
    let m5 : List ℕ = c.put-5.new.out.items in
    let m7 : List ℕ = c.put-7.new.out.items in
    let question = subst (λ (place : Option ℕ). m4 ≡ m3 ++ (codes ",\"question\":" ++ compact_text (or_null natural place))) c.question_of.ensures c.in_ok-put-4.ensures in
    let refusal = subst (λ (it : Option Refusal). m5 ≡ m4 ++ (codes ",\"refused\":" ++ compact_text (or_null refusal_json it))) c.refusal_in.ensures c.in_ok-put-5.ensures in
    on_ok (new ≡ m7 ++ codes "}") (new ≡ old ++ compact_text (wrong_json wrong)) c.put_text.result
    (λ last. eight old c.put.new.out.items c.put-2.new.out.items m3 m4 m5 c.put-6.new.out.items m7 new
    (codes "{\"differs\":" ++ compact_text (difference_json wrong.difference))
    (codes ",\"made\":" ++ compact_text (entry_json wrong.made))
    (codes ",\"part\":" ++ compact_text (part_json wrong.difference))
    (codes ",\"question\":" ++ compact_text (or_null natural (question_of wrong.difference)))
    (codes ",\"refused\":" ++ compact_text (or_null refusal_json (refusal_in wrong.made.reply)))
    (codes ",\"shown\":" ++ compact_text (shown_json wrong.difference))
    (codes ",\"wrong_at\":" ++ compact_text (natural wrong.at))
    (codes "}")
    c.in_ok-put.ensures c.in_ok-put-2.ensures c.in_ok-put-3.ensures question refusal c.in_ok-put-6.ensures c.in_ok-put-7.ensures last)
    c.put_text.ensures
