-- What is put behind a text.
use Rattle.std.proofs.Common.{ℕ, ◌≡◌, refl, sym, ◌∙◌, ap, subst, List, [], ◌∷◌, ◌++◌, Bool, true, false, append_assoc}
use Rattle.std.proofs.lemmas.List.{append-nil}
use Rattle.std.specs.Prelude.{Result, Ok, Err, OnOk, is_ok, codes, if◌then◌else◌}
use Rattle.irp_condition.specs.declared.condition.Comparison.{Comparison}
use Rattle.irp_condition.specs.declared.condition.Fact.{Fact}
use Rattle.irp_condition.specs.declared.condition.Term.TheVariants as term
use Rattle.irp_condition.specs.declared.naming.Joint.{Joint}
use Rattle.irp_condition.specs.declared.naming.Joint.TheVariants.{And, Or}
use Rattle.irp_condition.specs.declared.scope.Scope.{Scope}
use Rattle.irp_condition.specs.declared.value.Value.{Value}
use Rattle.irp_condition.specs.Formulas.{Formula, joins, no, true_of, compares}
use Rattle.irp_condition.specs.Grammar.{Level, single, joined, inside}
use Rattle.irp_condition.specs.Naming.{word_of, sort_of}
use Rattle.irp_condition.specs.Writing.{Piece, bytes_of, opening, closing, blank, word, sign_of, name_of_fact, word_of_name, subject_text, fact_pieces, compared_pieces, joined_pieces, stands, WritesValue, Writes, bare, enclosed, negated, alone, compared, other_truth, other_left, other_right, PutsCompared, Puts}

-- where bytes were put behind others
pub when_ok : {A B : Type 0} (result : Result A B) (old new put : List ℕ) (P : Type 0) → new ≡ (if is_ok result then old ++ put else old)
    → (new ≡ old ++ put → P) → OnOk result P
when_ok (Ok answer) old new put P is holds = holds is
when_ok (Err error) old new put P is holds = tt

pub so_ok : {A B : Type 0} (result : Result A B) (P Q : Type 0) → OnOk result P → (P → Q) → OnOk result Q
so_ok (Ok answer) P Q is holds = holds is
so_ok (Err error) P Q is holds = tt

pub bytes_apart : (one two : List Piece) → bytes_of (one ++ two) ≡ bytes_of one ++ bytes_of two
bytes_apart [] two = refl
bytes_apart (piece ∷ one) two = ap (λ bytes. piece.text ++ bytes) (bytes_apart one two) ∙ sym (append_assoc piece.text (bytes_of one) (bytes_of two))

bytes_joined : (joint : Joint) (left right : List Piece) → bytes_of (joined_pieces joint left right)
    ≡ bytes_of left ++ (codes " " ++ (word_of joint ++ (codes " " ++ bytes_of right)))
bytes_joined joint left right = bytes_apart left (blank ∷ word (word_of joint) ∷ blank ∷ right)

flat : (a b c d e f g h : List ℕ) → (((((a ++ b) ++ c) ++ (d ++ (e ++ f))) ++ g) ++ h) ≡ a ++ (b ++ (c ++ (d ++ (e ++ (f ++ (g ++ h))))))
flat a b c d e f g h = simp append_assoc refl

enclosed_bytes : (joint : Joint) (left right : List Piece) → bytes_of (joined_pieces joint left right ++ closing ∷ [])
    ≡ bytes_of left ++ (codes " " ++ (word_of joint ++ (codes " " ++ (bytes_of right ++ codes ")"))))
enclosed_bytes joint left right =
    bytes_apart (joined_pieces joint left right) (closing ∷ []) ∙ ap (λ bytes. bytes ++ codes ")") (bytes_joined joint left right)
    ∙ flat_five (bytes_of left) (codes " ") (word_of joint) (codes " ") (bytes_of right) (codes ")")
  where
    flat_five : (a b c d e f : List ℕ) → ((a ++ (b ++ (c ++ (d ++ e)))) ++ f) ≡ a ++ (b ++ (c ++ (d ++ (e ++ f))))
    flat_five a b c d e f = simp append_assoc refl

-- what a joint joins was put, between an opening text and a closing one
pub puts_joined : (scope : Scope) (level : Level) (joint : Joint) (left right : Formula) (first second third fourth fifth sixth before behind between : List ℕ)
    → before ≡ (if stands level joint then codes "" else codes "(") → behind ≡ (if stands level joint then codes "" else codes ")")
    → between ≡ codes " " ++ (word_of joint ++ codes " ")
    → second ≡ first ++ before → Puts scope (joined joint) left second third → fourth ≡ third ++ between
    → Puts scope (inside joint) right fourth fifth → sixth ≡ fifth ++ behind → Puts scope level (joins joint left right) first sixth
puts_joined scope level joint left right first second third fourth fifth sixth before behind between before_is behind_is between_is two three four five six =
    by (stands level joint) refl before_is behind_is
  where
    whole : sixth ≡ first ++ (before ++ (bytes_of three.0 ++ (codes " " ++ (word_of joint ++ (codes " " ++ (bytes_of five.0 ++ behind))))))
    whole =
        six ∙ ap (λ bytes. bytes ++ behind) (five.1 ∙ ap (λ bytes. bytes ++ bytes_of five.0)
        (four ∙ ap (λ bytes. third ++ bytes) between_is ∙ ap (λ bytes. bytes ++ (codes " " ++ (word_of joint ++ codes " ")))
        (three.1 ∙ ap (λ bytes. bytes ++ bytes_of three.0) two)))
        ∙ flat first before (bytes_of three.0) (codes " ") (word_of joint) (codes " ") (bytes_of five.0) behind

    by : (test : Bool) → stands level joint ≡ test → before ≡ (if test then codes "" else codes "(") → behind ≡ (if test then codes "" else codes ")")
        → Puts scope level (joins joint left right) first sixth
    by true stand before_is behind_is = (
      joined_pieces joint three.0 five.0,
      whole ∙ ap (λ bytes. first ++ (bytes ++ (bytes_of three.0 ++ (codes " " ++ (word_of joint ++ (codes " " ++ (bytes_of five.0 ++ behind))))))) before_is
          ∙ ap (λ bytes. first ++ (bytes_of three.0 ++ (codes " " ++ (word_of joint ++ (codes " " ++ bytes))))) (ap (λ bytes. bytes_of five.0 ++ bytes) behind_is ∙ append-nil (bytes_of five.0))
          ∙ ap (λ bytes. first ++ bytes) (sym (bytes_joined joint three.0 five.0)),
      bare stand three.2 five.2,
    )
    by false stand before_is behind_is = (
      opening ∷ joined_pieces joint three.0 five.0 ++ closing ∷ [],
      whole ∙ ap (λ bytes. first ++ (bytes ++ (bytes_of three.0 ++ (codes " " ++ (word_of joint ++ (codes " " ++ (bytes_of five.0 ++ behind))))))) before_is
          ∙ ap (λ bytes. first ++ (codes "(" ++ (bytes_of three.0 ++ (codes " " ++ (word_of joint ++ (codes " " ++ (bytes_of five.0 ++ bytes))))))) behind_is
          ∙ ap (λ bytes. first ++ (codes "(" ++ bytes)) (sym (enclosed_bytes joint three.0 five.0)),
      enclosed stand three.2 five.2,
    )

pub puts_not : (scope : Scope) (level : Level) (part : Formula) (first second third : List ℕ) → second ≡ first ++ codes "not "
    → Puts scope single part second third → Puts scope level (no part) first third
puts_not scope level part first second third two three = (
  word (codes "not") ∷ blank ∷ three.0,
  three.1 ∙ ap (λ bytes. bytes ++ bytes_of three.0) two ∙ append_assoc first (codes "not ") (bytes_of three.0),
  negated three.2,
)

pub puts_fact : (scope : Scope) (level : Level) (fact : Fact) (first second : List ℕ) → second ≡ first ++ bytes_of (fact_pieces scope fact [])
    → Puts scope level (true_of (term.Fact fact)) first second
puts_fact scope level fact first second is = (fact_pieces scope fact [], is, alone)

pub puts_compared : (scope : Scope) (level : Level) (fact : Fact) (comparison : Comparison) (value : Value) (first second : List ℕ)
    → PutsCompared scope fact comparison value first second
    → Puts scope level (compares (term.Fact fact) comparison (term.Constant value)) first second
puts_compared scope level fact comparison value first second is = (compared_pieces scope fact comparison is.0, is.1, compared is.2)

pub puts_none : (first : List ℕ) → first ≡ first ++ []
puts_none first = sym (append-nil first)

-- a fact, a sign and a value were put
pub put_pieces : (scope : Scope) (fact : Fact) (comparison : Comparison) (first second third fourth fifth sixth value : List ℕ)
    → second ≡ first ++ bytes_of (fact_pieces scope fact []) → third ≡ second ++ codes " " → fourth ≡ third ++ sign_of comparison
    → fifth ≡ fourth ++ codes " " → sixth ≡ fifth ++ value → sixth ≡ first ++ bytes_of (compared_pieces scope fact comparison value)
put_pieces scope fact comparison first second third fourth fifth sixth value two three four five six =
    six ∙ ap (λ bytes. bytes ++ value) (five ∙ ap (λ bytes. bytes ++ codes " ") (four ∙ ap (λ bytes. bytes ++ sign_of comparison)
    (three ∙ ap (λ bytes. bytes ++ codes " ") two)))
    ∙ flat_six first (word_of_name (name_of_fact fact)) (codes "(") (subject_text scope fact) (codes ")") (codes " ") (sign_of comparison) (codes " ") value
  where
    flat_six : (a b c d e f g h i : List ℕ) → ((((a ++ (b ++ (c ++ (d ++ (e ++ []))))) ++ f) ++ g) ++ h) ++ i
        ≡ a ++ (b ++ (c ++ (d ++ (e ++ (f ++ (g ++ (h ++ (i ++ []))))))))
    flat_six a b c d e f g h i = simp (append_assoc, append-nil) refl
