-- What stands for an entry is gathered, as the entries up to it tell.
use Rattle.std.proofs.Common.{◌∷◌, [], ◌++◌, length-append, refl, sym, subst, ◌∙◌, arith}
use mathlib.Core.Bool.{true≢false}
use Rattle.std.proofs.lemmas.Result.{on_ok_weaker}
use Rattle.irp_view.specs.Showing.{IsWithin}
use Rattle.irp_view.proofs.Gathered.{entry_passed, entry_put}
use Rattle.irp_view.proofs.showing.Shown.entry.Goals as goal

pub returns-then-not-is_wanted : goal.returns-then-not-is_wanted
returns-then-not-is_wanted c = λ before sent is place few.
    (let longer = length-append before.entries (c.args.entry.now ∷ []) in
    entry_passed c.args.wanted c.args.self.now _ sent before is c.args.entry.now place.1
    (λ within. true≢false (sym (c.is_within-is_wanted.ensures.1 (subst (IsWithin c.args.wanted.span) (sym is.counted) within)) ∙ c.if-not-is_wanted.true))
    (grind (arith, longer, is.counted, few)) refl (c.follow.ensures before.entries is.followed) refl)

pub returns : goal.returns
returns c = λ before sent is place few.
    (let longer = length-append before.entries (c.args.entry.now ∷ []) in
    let followed = c.follow.ensures before.entries is.followed in
    on_ok_weaker c.put_chosen.result
    (entry_put c.args.wanted c.args.self.now _ sent before is c.args.entry.now place.1
    (subst (IsWithin c.args.wanted.span) is.counted (c.is_within-is_wanted.ensures.0 c.if-not-is_wanted.false))
    (grind (arith, longer, is.counted, few)) refl followed)
    (c.put_chosen.ensures.exact (before.entries ++ c.args.entry.now ∷ []) followed))
