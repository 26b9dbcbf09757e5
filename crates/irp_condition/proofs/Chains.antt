-- Conditions that a joint joins, told from the left.
use Rattle.std.proofs.Common.{ℕ, suc, ◌≡◌, refl, sym, ◌∙◌, ap, subst, List, [], ◌∷◌, Some, None, Bool, true, false}
use Rattle.std.proofs.Common.{bytes_eq}
use Rattle.std.specs.Option.{unwrap_or}
use Rattle.std.proofs.lemmas.Slice.Eq.{bytes_eq-Decides}
use Rattle.std.specs.Prelude.{codes, if◌then◌else◌}
use Rattle.irp_condition.specs.declared.fault.Expected.TheVariants.{Condition}
use Rattle.irp_condition.specs.declared.naming.Joint.{Joint}
use Rattle.irp_condition.specs.declared.naming.Joint.TheVariants.{And, Or}
use Rattle.irp_condition.specs.declared.reading.Reader.{Reader}
use Rattle.irp_condition.specs.declared.tokens.Kind.{Kind}
use Rattle.irp_condition.specs.declared.tokens.Kind.TheVariants.{Word, Open, Close}
use Rattle.irp_condition.specs.declared.tokens.Token.{Token}
use Rattle.irp_condition.specs.Faults.{found, missing, fault_at}
use Rattle.irp_condition.specs.Formulas.{Formula, joins, no}
use Rattle.irp_condition.specs.Grammar.{single, joined, inside, Says, compared, negated, enclosed, alone, more}
use Rattle.irp_condition.specs.Naming.{word_of}
use Rattle.irp_condition.specs.Reading.{behind_word, behind_open, behind_close, compared_at}

abbrev pub rank_of : Joint → ℕ
rank_of And = 1
rank_of Or = 3

-- from what was joined so far and the tokens behind it to all of it and the tokens behind that
pub data Chain (reader : Reader) (joint : Joint) (depth : ℕ) : Formula → List Token → Formula → List Token → Type 0 where
  ends : {formula : Formula} {rest : List Token} → Chain reader joint depth formula rest formula rest
  goes_on : {so_far right formula : Formula} {rest next behind end : List Token} → behind_word (word_of joint) rest ≡ Some next
      → Says reader (inside joint) depth next right behind → Chain reader joint depth (joins joint so_far right) behind formula end
      → Chain reader joint depth so_far rest formula end

-- one more at the end
put : {reader : Reader} {joint : Joint} {depth : ℕ} {so_far left right : Formula} {start behind next rest : List Token}
    → Chain reader joint depth so_far start left behind → behind_word (word_of joint) behind ≡ Some next
    → Says reader (inside joint) depth next right rest → Chain reader joint depth so_far start (joins joint left right) rest
put ends word says = goes_on word says ends
put (goes_on first item chain) word says = goes_on first item (put chain word says)

-- what is said begins with one condition, and goes on from there
pub split : {reader : Reader} {joint : Joint} {depth : ℕ} {tokens rest : List Token} {formula : Formula}
    → Says reader (joined joint) depth tokens formula rest
    → (first : Formula) × (behind : List Token) × Says reader (inside joint) depth tokens first behind
    × Chain reader joint depth first behind formula rest
split (alone says) = (_, _, says, ends)
split (more says word item) = let before = split says in (before.0, before.1, before.2, put before.3 word item)

-- ---- what stands at the front

not_open_at : (word text : List ℕ) (kind : Kind) (column : ℕ) (rest inner other : List Token)
    → behind_word word (record { kind = kind; text = text; column = column } ∷ rest) ≡ Some inner
    → behind_open (record { kind = kind; text = text; column = column } ∷ rest) ≡ Some other → ⊥
not_open_at word text Open column rest inner other is also = cc
not_open_at word text kind column rest inner other is also = cc

-- no word is an opening parenthesis
pub not_open : (word : List ℕ) (tokens inner other : List Token) → behind_word word tokens ≡ Some inner → behind_open tokens ≡ Some other → ⊥
not_open word [] inner other is also = cc
not_open word (token ∷ rest) inner other is also = not_open_at word token.text token.kind token.column rest inner other is also

closed_at : (word text : List ℕ) (kind : Kind) (column : ℕ) (rest inner : List Token)
    → behind_close (record { kind = kind; text = text; column = column } ∷ rest) ≡ Some inner
    → behind_word word (record { kind = kind; text = text; column = column } ∷ rest) ≡ None
closed_at word text Close column rest inner is = refl
closed_at word text kind column rest inner is = cc

-- no closing parenthesis is a word
pub closed : (word : List ℕ) (tokens inner : List Token) → behind_close tokens ≡ Some inner → behind_word word tokens ≡ None
closed word [] inner is = refl
closed word (token ∷ rest) inner is = closed_at word token.text token.kind token.column rest inner is

was_true : (test : Bool) {A : Type 0} (here read : A) → (if test then Some here else None) ≡ Some read → test ≡ true
was_true true here read is = refl
was_true false here read is = cc

-- a text that is this one
known_text : (text word : List ℕ) {A : Type 0} (here read : A) → (if bytes_eq text word then Some here else None) ≡ Some read → text ≡ word
known_text text word here read is = (bytes_eq-Decides text word).0 (was_true (bytes_eq text word) here read is)

or_at : (text : List ℕ) (kind : Kind) (column : ℕ) (rest inner : List Token)
    → behind_word (codes "or") (record { kind = kind; text = text; column = column } ∷ rest) ≡ Some inner
    → behind_word (codes "and") (record { kind = kind; text = text; column = column } ∷ rest) ≡ None
or_at text Word column rest inner is =
    let same = known_text text (codes "or") rest inner is in
    subst (λ (text : List ℕ). behind_word (codes "and") (record { kind = Word; text = text; column = column } ∷ rest) ≡ None) (sym same) refl
or_at text kind column rest inner is = refl

-- `or` isn't `and`
pub or_not_and : (tokens inner : List Token) → behind_word (codes "or") tokens ≡ Some inner → behind_word (codes "and") tokens ≡ None
or_not_and [] inner is = refl
or_not_and (token ∷ rest) inner is = or_at token.text token.kind token.column rest inner is

not_at : (reader : Reader) (text : List ℕ) (kind : Kind) (column : ℕ) (rest inner : List Token)
    → behind_word (codes "not") (record { kind = kind; text = text; column = column } ∷ rest) ≡ Some inner
    → compared_at reader (record { kind = kind; text = text; column = column } ∷ rest)
    ≡ missing (fault_at reader Condition (record { kind = kind; text = text; column = column } ∷ rest))
not_at reader text Word column rest inner is =
    let same = known_text text (codes "not") rest inner is in
    subst (λ (text : List ℕ). compared_at reader (record { kind = Word; text = text; column = column } ∷ rest)
    ≡ missing (fault_at reader Condition (record { kind = Word; text = text; column = column } ∷ rest))) (sym same) refl
not_at reader text kind column rest inner is = cc

-- no comparison begins with `not`
pub not_compared : (reader : Reader) (tokens inner : List Token) → behind_word (codes "not") tokens ≡ Some inner → compared_at reader tokens ≡ missing (fault_at reader Condition tokens)
not_compared reader [] inner is = refl
not_compared reader (token ∷ rest) inner is = not_at reader token.text token.kind token.column rest inner is

open_at : (reader : Reader) (text : List ℕ) (kind : Kind) (column : ℕ) (rest inner : List Token)
    → behind_open (record { kind = kind; text = text; column = column } ∷ rest) ≡ Some inner
    → compared_at reader (record { kind = kind; text = text; column = column } ∷ rest)
    ≡ missing (fault_at reader Condition (record { kind = kind; text = text; column = column } ∷ rest))
open_at reader text Open column rest inner is = refl
open_at reader text kind column rest inner is = cc

-- nor with a parenthesis
pub open_not_compared : (reader : Reader) (tokens inner : List Token) → behind_open tokens ≡ Some inner → compared_at reader tokens ≡ missing (fault_at reader Condition tokens)
open_not_compared reader [] inner is = refl
open_not_compared reader (token ∷ rest) inner is = open_at reader token.text token.kind token.column rest inner is

-- ---- what is said of single conditions

pub found_one : {A : Type 0} {a b : A} → found a ≡ found b → a ≡ b
found_one same = cc

pub some_one : {A : Type 0} {a b : A} → Some a ≡ Some b → a ≡ b
some_one {a = a} same = ap (λ o. unwrap_or o a) same

pub only_compared : {reader : Reader} {depth : ℕ} {tokens rest : List Token} {formula : Formula} → behind_word (codes "not") tokens ≡ None
    → behind_open tokens ≡ None → Says reader single depth tokens formula rest → compared_at reader tokens ≡ found (formula, rest)
only_compared no_not no_open (compared is) = is
only_compared no_not no_open (negated is says) = cc
only_compared no_not no_open (enclosed is says closes) = cc

pub only_negated : {reader : Reader} {depth : ℕ} {tokens inner rest : List Token} {formula : Formula} → behind_word (codes "not") tokens ≡ Some inner
    → Says reader single depth tokens formula rest
    → (less : ℕ) × (part : Formula) × (depth ≡ suc less) × (formula ≡ no part) × Says reader single less inner part rest
only_negated {reader} {depth} {tokens} {inner} begins (compared is) = absurd (let none = not_compared reader tokens inner begins in cc)
only_negated {reader} {rest = rest} begins (negated {depth = less} {formula = part} is says) =
    (less, part, refl, refl, subst (λ (inner : List Token). Says reader single less inner part rest) (some_one (sym is ∙ begins)) says)
only_negated begins (enclosed is says closes) = absurd (not_open _ _ _ _ begins is)

pub only_enclosed : {reader : Reader} {depth : ℕ} {tokens inner rest : List Token} {formula : Formula} → behind_open tokens ≡ Some inner
    → Says reader single depth tokens formula rest
    → (less : ℕ) × (behind : List Token) × (depth ≡ suc less) × Says reader (joined Or) less inner formula behind × (behind_close behind ≡ Some rest)
only_enclosed {reader} {depth} {tokens} {inner} begins (compared is) = absurd (let none = open_not_compared reader tokens inner begins in cc)
only_enclosed begins (negated is says) = absurd (not_open _ _ _ _ is begins)
only_enclosed {reader} {formula = formula} begins (enclosed {depth = less} {behind = behind} is says closes) =
    (less, behind, refl, subst (λ (inner : List Token). Says reader (joined Or) less inner formula behind) (some_one (sym is ∙ begins)) says, closes)
