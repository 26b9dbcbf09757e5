-- One more entry came, whose call is refused or not.
use Rattle.std.proofs.Common.{◌≡◌, ◌+◌, ◌<◌, ◌≤◌, ◌^◌, [], ◌∷◌, ◌++◌, length, refl, sym, ap, ◌∙◌, arith, length-append}
use Rattle.irp_view.specs.RefusedCalls.{most_told, refused_from}
use Rattle.irp_view.specs.declared.refused_calls.RefusedCalls.{RefusedCalls}
use Rattle.irp_view.proofs.RefusedCalls.{kept_few, notes_passed, notes_refused, on_ok_both, refused_few}
use Rattle.irp_view.proofs.refused_calls.RefusedCalls.entry.Goals as goal

pub returns-in-Some : goal.returns-in-Some
returns-in-Some c = λ entries was few.
    (let before : RefusedCalls = c.args.self.now in
    let low : before.entries + 1 < 2 ^ 64 = omega (arith, few, was.came) in
    let next : c.saturating_add-self.result ≡ before.entries + 1 = grind (arith, low) in
    let came : c.saturating_add-self.result ≡ length (entries ++ c.args.entry.now ∷ []) = omega (arith, next, was.came, length-append entries (c.args.entry.now ∷ [])) in
    let room : before.count + 1 < 2 ^ 64 = omega (arith, was.counted, refused_few 0 entries, few) in
    let short : length before.first.items ≤ most_told = omega (arith, ap length was.kept, kept_few most_told (refused_from 0 entries)) in
    on_ok_both c.put.result
    (λ count first. notes_refused before c.put.new.self entries c.args.entry.now c.in-Some.refusal was (sym c.refusal_in.ensures ∙ c.in-Some.is) (c.put.ensures.entries ∙ came) count first)
    (c.put.ensures.count room) (c.put.ensures.first short))

pub returns-in-None : goal.returns-in-None
returns-in-None c = λ entries was few.
    (let before : RefusedCalls = c.args.self.now in
    let low : before.entries + 1 < 2 ^ 64 = omega (arith, few, was.came) in
    let next : c.saturating_add-self.result ≡ before.entries + 1 = grind (arith, low) in
    let came : c.saturating_add-self.result ≡ length (entries ++ c.args.entry.now ∷ []) = omega (arith, next, was.came, length-append entries (c.args.entry.now ∷ [])) in
    notes_passed before _ entries c.args.entry.now was (sym c.refusal_in.ensures ∙ c.in-None.is) came refl refl)
