-- Partners that are noted.
use Rattle.std.proofs.Common.{ℕ, ◌≡◌, ◌<◌, ◌+◌, inl, inr, ◌∙◌, ap, sym, subst, List, [], ◌∷◌, ◌++◌, length, take, get_or, All, Any, Contains, append_assoc}
use Rattle.std.specs.List.{AllZip}
use Rattle.std.proofs.lemmas.List.{append-nil, take_more}
use Rattle.std.proofs.lemmas.List.Elements.{All-more, Contains-append_left}
use Rattle.std.proofs.lemmas.Slice.Zip.{all_zipped_more}
use Rattle.irp_machine.specs.declared.live_end.LiveEnd.{LiveEnd}
use Rattle.irp_orders.specs.Alike.{AreAlike, AreOneToOne, ArePacketsAlike, ArePartners, AreSameButUses, Extends, IsPartner, uses_of}
use Rattle.irp_orders.specs.declared.found.Found.{Found}

-- ---- lists, place by place

pub zip_next : {A B : Type 0} (R : A → B → Type 0) (xs : List A) (ys : List B) (place : ℕ) (x : A) (y : B) → place < length xs
    → place < length ys → AllZip R (take place xs) (take place ys) → R (get_or xs place x) (get_or ys place y)
    → AllZip R (take (place + 1) xs) (take (place + 1) ys)
zip_next {A} {B} R xs ys place x y low other all here =
    subst (λ (ones : List A). AllZip R ones (take (place + 1) ys)) (sym (take_more xs place x low))
    (subst (λ (others : List B). AllZip R (take place xs ++ get_or xs place x ∷ []) others) (sym (take_more ys place y other))
    (all_zipped_more R (take place xs) (take place ys) (get_or xs place x) (get_or ys place y) all here))

pub zip_weaker : {A B : Type 0} (R Q : A → B → Type 0) (xs : List A) (ys : List B) → ((x : A) (y : B) → R x y → Q x y)
    → AllZip R xs ys → AllZip Q xs ys
zip_weaker R Q [] [] weaker all = all
zip_weaker R Q [] (y ∷ ys) weaker all = all
zip_weaker R Q (x ∷ xs) [] weaker all = all
zip_weaker R Q (x ∷ xs) (y ∷ ys) weaker all = (weaker x y all.0, zip_weaker R Q xs ys weaker all.1)

-- ---- more pairs

pub extends_none : (pairs : List (ℕ × ℕ)) → Extends pairs pairs
extends_none pairs = ([], sym (append-nil pairs))

pub extends_twice : (one two three : List (ℕ × ℕ)) → Extends one two → Extends two three → Extends one three
extends_twice one two three first second = (
  first.0 ++ second.0,
  second.1 ∙ ap (λ (pairs : List (ℕ × ℕ)). pairs ++ second.0) first.1 ∙ append_assoc one first.0 second.0,
)

pub partners_more : (old new : List (ℕ × ℕ)) (one other : ℕ) → Extends old new → ArePartners old one other → ArePartners new one other
partners_more old new one other extends (inl none) = inl none
partners_more old new one other extends (inr pair) = inr (
  pair.0,
  pair.1,
  subst (λ (pairs : List (ℕ × ℕ)). Contains pairs (one, other)) (sym extends.1) (Contains-append_left old extends.0 (one, other) pair.2),
)

pub all_partners_more : (old new : List (ℕ × ℕ)) (ones others : List ℕ) → Extends old new → AllZip (ArePartners old) ones others
    → AllZip (ArePartners new) ones others
all_partners_more old new ones others extends all =
    zip_weaker (ArePartners old) (ArePartners new) ones others (λ one other partners. partners_more old new one other extends partners) all

any_weaker : (P Q : LiveEnd → Type 0) (xs : List LiveEnd) → ((x : LiveEnd) → P x → Q x) → Any P xs → Any Q xs
any_weaker P Q xs weaker some = (some.0, some.1, some.2, some.3, weaker some.1 some.4)

pub packets_more : (old new : List (ℕ × ℕ)) (ones others : List LiveEnd) → Extends old new
    → All (λ one. Any (IsPartner old one) others) ones → All (λ one. Any (IsPartner new one) others) ones
packets_more old new ones others extends all k d low =
    any_weaker (IsPartner old (get_or ones k d)) (IsPartner new (get_or ones k d)) others
    (λ other is. (is.0, partners_more old new (get_or ones k d).use_no other.use_no extends is.1)) (all k d low)

pub packets_next : (old new : List (ℕ × ℕ)) (ones others : List LiveEnd) (place : ℕ) (one : LiveEnd) → place < length ones → Extends old new
    → All (λ one. Any (IsPartner old one) others) (take place ones) → Any (IsPartner new (get_or ones place one)) others
    → All (λ one. Any (IsPartner new one) others) (take (place + 1) ones)
packets_next old new ones others place one low extends all here =
    All-more (λ one. Any (IsPartner new one) others) ones place one low (packets_more old new (take place ones) others extends all) here

-- ---- one pair more

pub kept : (first old new now : List (ℕ × ℕ)) → now ≡ new → AreOneToOne new → Extends first old → Extends old new
    → AreOneToOne now × Extends first now
kept first old new now is once before more =
    subst (λ (pairs : List (ℕ × ℕ)). AreOneToOne pairs × Extends first pairs) (sym is) (once, extends_twice first old new before more)

-- ---- outcomes

pub alike_by : (one other : Found) (uses others : List ℕ) (ones packets : List LiveEnd) (old new : List (ℕ × ℕ)) → uses ≡ uses_of one
    → others ≡ uses_of other → ones ≡ one.outcome.end.packets → packets ≡ other.outcome.end.packets → AllZip (ArePartners old) uses others
    → Extends old new → AreOneToOne new → ArePacketsAlike new ones packets → AreSameButUses one other → AreAlike one other
alike_by one other uses others ones packets old new are also stand too partners more once live same = record {
  same = same;
  pairs = new;
  once = once;
  uses =
      subst (λ (uses : List ℕ). AllZip (ArePartners new) uses (uses_of other)) are
      (subst (λ (others : List ℕ). AllZip (ArePartners new) uses others) also (all_partners_more old new uses others more partners));
  packets =
      subst (λ (ones : List LiveEnd). ArePacketsAlike new ones other.outcome.end.packets) stand
      (subst (λ (packets : List LiveEnd). ArePacketsAlike new ones packets) too live);
}
