-- The line is the compact text and a newline. Where memory runs out nothing of it went out, and where the output fails
-- the front that it took.
use Rattle.std.proofs.Common.{◌≡◌, ◌<◌, ◌≤◌, ◌++◌, ◌∷◌, [], ℕ, List, length, take, subst, ap, ◌∙◌, rules}
use Rattle.std.specs.Io.KnownBytes.{Appends}
use Rattle.serde_json.specs.Written.{compact_text}
use Rattle.irp_transcript_writer.specs.Json.{line_text}
use Rattle.irp_transcript_writer.proofs.Puts.{stopped_at}
use Rattle.irp_fast_reader.proofs.Going.{begins, line_is, stays}
use Rattle.irp_fast_reader.proofs.write.put_line.Goals as goal

pub returns-in_default-clause-puts : goal.returns-in_default-clause-puts
returns-in_default-clause-puts g c = stays (g.O.Out.gone c.args.out.now)

pub returns-in_default-extend_from_slice-clause-puts : goal.returns-in_default-extend_from_slice-clause-puts
returns-in_default-extend_from_slice-clause-puts g c = stays (g.O.Out.gone c.args.out.now)

pub returns-in-Ok-put_all-clause-puts : goal.returns-in-Ok-put_all-clause-puts
returns-in-Ok-put_all-clause-puts g c =
    let form = g.T.Written.json c.args.value.now in
    let bare : c.write.new.out.items ≡ compact_text form = c.in-Ok.ensures ∙ ap (λ (text : List ℕ). text ++ compact_text form) c.clear.ensures.items in
    let bytes : c.as_slice.result.now ≡ compact_text form ++ 10 ∷ [] =
    c.as_slice.ensures.value ∙ (c.in-Ok-extend_from_slice.ensures.items ∙ ap (λ (text : List ℕ). text ++ 10 ∷ []) bare) in
    let short : length (compact_text form) ≤ 65536 = subst (λ (text : List ℕ). length text ≤ 65536) bare (search rules) in (
      (search rules, short),
      subst (Appends (g.O.Out.gone c.args.out.now) (g.O.Out.gone c.put_all.new.out)) (line_is form _ bytes) c.in-Ok-put_all.ensures.ok,
    )

pub returns-in-Err-clause-puts : goal.returns-in-Err-clause-puts
returns-in-Err-clause-puts g c =
    let form = g.T.Written.json c.args.value.now in
    let text : List ℕ = line_text form in
    let bare : c.write.new.out.items ≡ compact_text form = c.in-Ok.ensures ∙ ap (λ (text : List ℕ). text ++ compact_text form) c.clear.ensures.items in
    let bytes : c.as_slice.result.now ≡ compact_text form ++ 10 ∷ [] =
    c.as_slice.ensures.value ∙ (c.in-Ok-extend_from_slice.ensures.items ∙ ap (λ (text : List ℕ). text ++ 10 ∷ []) bare) in
    let same : c.as_slice.result.now ≡ text = line_is form _ bytes in
    let bound : c.in-Err.field-0 < length text = subst (λ line. c.in-Err.field-0 < length line) same c.in-Err.ensures.short in
    let front : Appends (g.O.Out.gone c.args.out.now) (g.O.Out.gone c.put_all.new.out) (take c.in-Err.field-0 text) =
    subst (λ line. Appends (g.O.Out.gone c.args.out.now) (g.O.Out.gone c.put_all.new.out) (take c.in-Err.field-0 line)) same c.in-Err.ensures.front in
    let short : length (compact_text form) ≤ 65536 = subst (λ (text : List ℕ). length text ≤ 65536) bare (search rules) in
    ((search rules, short), begins text 0 _ _ _ (stopped_at text 0 c.in-Err.field-0 _ _ bound front))
