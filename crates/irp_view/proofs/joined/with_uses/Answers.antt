-- What was put for the words so far, and what is put for the rest.
use Rattle.std.proofs.Common.{ℕ, List, [], ◌∷◌, ◌++◌, map, drop, ◌+◌, false, string_bytes, refl, sym, subst, ap, ◌∙◌}
use Rattle.std.proofs.lemmas.List.{append-nil, append_assoc, drop_all, drop_more}
use Rattle.irp_view.specs.Joined.{ArePut, IsPut, names_packet}
use Rattle.irp_view.proofs.joined.with_uses.Goals as goal

pub loop-word-preserved : goal.loop-word-preserved
loop-word-preserved c rest are =
    let words = c.args.words.now in
    let old = map string_bytes c.loop-word.parted.items in
    let put = c.in_ok-put_word.ensures in
    let word = string_bytes c.word-item.result in
    let behind = drop (c.loop-word.word-index + 1) words in
    let first_is = drop_more words c.loop-word.word-index c.word-item.result c.loop-word-test.true ∙ ap (λ this. this ∷ behind) (sym c.word-item.is) in
    let put_is : IsPut c.loop-word.may_name word put.0 = subst (λ (this : List ℕ). IsPut c.loop-word.may_name this put.0) c.as_str.ensures.value put.1 in
    let named_is = c.names_packet-may_name.ensures ∙ ap names_packet c.as_str-in-loop-word.ensures.value in
    let rest_is : ArePut (names_packet word) (map string_bytes behind) rest = subst (λ named. ArePut named (map string_bytes behind) rest) named_is are in
    let all = c.loop-word.invariant (put.0 ++ rest)
    (subst (λ this. ArePut c.loop-word.may_name (map string_bytes this) (put.0 ++ rest)) (sym first_is) (put.0, rest, put_is, rest_is, refl)) in
    subst (ArePut false (map string_bytes words)) (sym (append_assoc old put.0 rest) ∙ ap (λ (this : List (List ℕ)). this ++ rest) (sym put.2)) all

pub returns : goal.returns
returns c =
    let none_left = drop_all c.loop-word.word-index c.args.words.now c.loop-word-test.false in
    subst (ArePut false (map string_bytes c.args.words.now)) (append-nil (map string_bytes c.loop-word.parted.items))
    (c.loop-word.invariant [] (subst (λ this. ArePut c.loop-word.may_name (map string_bytes this) []) (sym none_left) refl))
