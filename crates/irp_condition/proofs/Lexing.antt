-- The tokens of a text that is written piece by piece.
use Rattle.std.proofs.Common.{ℕ, zero, suc, ◌≡◌, refl, sym, ◌∙◌, ap, subst, ◌+◌, ◌-◌, ◌*◌, ◌<◌, ◌≤◌, ◌==◌, List, [], ◌∷◌, ◌++◌, length, take, drop, get_or, Bool, true, false, not, arith, add-one, append_assoc, length-append}
use Rattle.std.proofs.lemmas.List.{append-nil, get_or_append_left, get_or-append-add, take_at, drop_at}
use Rattle.std.specs.Prelude.{if◌then◌else◌, slice_range, slice_index_or}
use Rattle.irp_condition.specs.declared.tokens.Kind.{Kind}
use Rattle.irp_condition.specs.declared.tokens.Kind.TheVariants.{Word, Sign, Open, Close, Blank, Other}
use Rattle.irp_condition.specs.declared.tokens.Token.{Token}
use Rattle.irp_condition.specs.Tokens.{kind_of, goes_on, ends_behind, begin_of, token_of, is_blank_kind, with_token, tokens_below}
use Rattle.irp_condition.specs.Writing.{Piece, bytes_of}

-- the piece is one token: bytes of its kind, which go on with each other, or one byte
pub record IsPiece (piece : Piece) : Type 0 where
  pub some : 0 < length piece.text
  pub kinds : (at : ℕ) → at < length piece.text → kind_of (get_or piece.text at 0) ≡ piece.kind
  pub goes : 1 < length piece.text → goes_on piece.kind piece.kind ≡ true

-- behind a byte of the one kind these pieces are the next tokens, up to a byte of the other kind
pub data Lexes : Kind → List Piece → Kind → Type 0 where
  nothing : {kind : Kind} → Lexes kind [] kind
  put : {before behind : Kind} {piece : Piece} {pieces : List Piece} → IsPiece piece
      → goes_on before piece.kind ≡ false → Lexes piece.kind pieces behind → Lexes before (piece ∷ pieces) behind

pub both_lex : {before between behind : Kind} {one two : List Piece} → Lexes before one between
    → Lexes between two behind → Lexes before (one ++ two) behind
both_lex nothing two = two
both_lex (put piece parts one) two = put piece parts (both_lex one two)

-- the pieces, without the blanks, are the tokens before these others
pub data Spells : List Piece → List Token → List Token → Type 0 where
  done : {rest : List Token} → Spells [] rest rest
  passed : {piece : Piece} {pieces : List Piece} {tokens rest : List Token} → is_blank_kind piece.kind ≡ true
      → Spells pieces tokens rest → Spells (piece ∷ pieces) tokens rest
  stood : {piece : Piece} {pieces : List Piece} {tokens rest : List Token} (column : ℕ) → is_blank_kind piece.kind ≡ false
      → Spells pieces tokens rest
      → Spells (piece ∷ pieces) (record { kind = piece.kind; text = piece.text; column = column } ∷ tokens) rest

-- pieces behind others spell the tokens behind theirs
pub spelled_apart : {two : List Piece} {tokens rest : List Token} (one : List Piece) → Spells (one ++ two) tokens rest
    → (middle : List Token) × Spells one tokens middle × Spells two middle rest
spelled_apart [] all = (_, done, all)
spelled_apart (piece ∷ one) (passed is all) =
    let parts = spelled_apart one all in (parts.0, passed is parts.1, parts.2)
spelled_apart (piece ∷ one) (stood column is all) =
    let parts = spelled_apart one all in (parts.0, stood column is parts.1, parts.2)

-- ---- one piece

-- a byte of the piece between others
byte_within : (before piece behind : List ℕ) (at : ℕ) → at < length piece
    → get_or (before ++ (piece ++ behind)) (length before + at) 0 ≡ get_or piece at 0
byte_within before piece behind at less =
    get_or-append-add before (piece ++ behind) at 0 ∙ get_or_append_left piece behind 0 at less

piece_within : (before piece behind : List ℕ)
    → slice_range (before ++ (piece ++ behind)) (length before) (length before + length piece) ≡ piece
piece_within before piece behind =
    let count : (length before + length piece) - length before ≡ length piece = omega arith in
    rw (count, drop_at before (piece ++ behind) (length before) refl) (take_at piece behind (length piece) refl)

-- before the last byte of a piece no token ends
no_end : (text : List ℕ) (place : ℕ) → place + 1 < length text
    → goes_on (kind_of (get_or text place 0)) (kind_of (get_or text (place + 1) 0)) ≡ true → ends_behind text place ≡ false
no_end text place less goes =
    let other : (place + 1 == length text) ≡ false = grind arith in
    rw (other, goes) refl

-- so far the token goes on
record StandsAt (text : List ℕ) (before at : ℕ) : Type 0 where
  begins : begin_of text (before + at) ≡ before
  holds : tokens_below text (before + at) ≡ tokens_below text before

step : (text : List ℕ) (before at : ℕ) → ends_behind text (before + at) ≡ false → StandsAt text before at
    → StandsAt text before (at + 1)
step text before at none stands =
    let next : before + (at + 1) ≡ suc (before + at) = omega arith in
    record {
      begins = rw (next, none) stands.begins;
      holds = rw (next, none) stands.holds;
    }

within : (piece : Piece) (before behind : List ℕ) (at : ℕ) → IsPiece piece → at < length piece.text
    → begin_of (before ++ (piece.text ++ behind)) (length before) ≡ length before
    → StandsAt (before ++ (piece.text ++ behind)) (length before) at
within piece before behind zero is less begins =
    let same : length before + 0 ≡ length before = omega arith in
    record { begins = rw same begins; holds = rw same refl }
within piece before behind (suc at) is less begins =
    let text = before ++ (piece.text ++ behind) in
    let one : kind_of (get_or text (length before + at) 0) ≡ piece.kind =
    ap kind_of (byte_within before piece.text behind at (omega (arith, less))) ∙ is.kinds at (omega (arith, less)) in
    let beside : length before + at + 1 ≡ length before + (at + 1) = omega arith in
    let two : kind_of (get_or text (length before + at + 1) 0) ≡ piece.kind =
    rw (beside, add-one) (ap kind_of (byte_within before piece.text behind (suc at) less) ∙ is.kinds (suc at) less) in
    let all : length text ≡ length before + (length piece.text + length behind) =
    length-append before (piece.text ++ behind) ∙ ap (λ n. length before + n) (length-append piece.text behind) in
    let none = no_end text (length before + at) (omega (arith, less, all)) (rw (one, two) (is.goes (omega (arith, less)))) in
    let next : at + 1 ≡ suc at = omega arith in
    subst (λ n. StandsAt text (length before) n) next
    (step text (length before) at none (within piece before behind at is (omega (arith, less)) begins))

-- where a token ends, the next one begins
at_end : (text : List ℕ) (before size : ℕ) → 0 < size → ends_behind text (before + (size - 1)) ≡ true
    → StandsAt text before (size - 1)
    → (begin_of text (before + size) ≡ before + size)
    × (tokens_below text (before + size) ≡ with_token (token_of text before (before + size)) (tokens_below text before))
at_end text before size some ends stands =
    let next : before + size ≡ suc (before + (size - 1)) = omega (arith, some) in
    let behind : before + (size - 1) + 1 ≡ before + size = omega (arith, some) in
    let one = stands.begins in
    let two = stands.holds in (
      subst (λ n. begin_of text n ≡ before + size) (sym next) (rw ends behind),
      subst (λ n. tokens_below text n ≡ with_token (token_of text before (before + size)) (tokens_below text before)) (sym next)
          (rw (ends, one, two, behind) refl),
    )

-- a token ends behind the last byte of a text, and before a byte that doesn't go on
ends_last : (text : List ℕ) (place : ℕ) → place + 1 ≡ length text → ends_behind text place ≡ true
ends_last text place is =
    let last : (place + 1 == length text) ≡ true = grind arith in
    rw last refl

ends_between : (text : List ℕ) (place : ℕ)
    → goes_on (kind_of (get_or text place 0)) (kind_of (get_or text (place + 1) 0)) ≡ false → ends_behind text place ≡ true
ends_between text place stops = ends_by (place + 1 == length text) where
  ends_by : (last : Bool)
      → (if last then true else not (goes_on (kind_of (get_or text place 0)) (kind_of (get_or text (place + 1) 0)))) ≡ true
  ends_by true = refl
  ends_by false = rw stops refl

-- the last byte of a piece ends its token, since the next piece doesn't go on, or none follows
ends : (piece : Piece) (before : List ℕ) (pieces : List Piece) {behind : Kind} → IsPiece piece → Lexes piece.kind pieces behind
    → ends_behind (before ++ (piece.text ++ bytes_of pieces)) (length before + (length piece.text - 1)) ≡ true
ends piece before [] is nothing =
    let all : length (before ++ (piece.text ++ [])) ≡ length before + (length piece.text + 0) =
    length-append before (piece.text ++ []) ∙ ap (λ n. length before + n) (length-append piece.text []) in
    ends_last (before ++ (piece.text ++ [])) (length before + (length piece.text - 1)) (omega (arith, all, is.some))
ends piece before (next ∷ pieces) is (put parts stops more) =
    let text = before ++ (piece.text ++ (next.text ++ bytes_of pieces)) in
    let one : kind_of (get_or text (length before + (length piece.text - 1)) 0) ≡ piece.kind =
    ap kind_of (byte_within before piece.text (next.text ++ bytes_of pieces) (length piece.text - 1) (omega (arith, is.some)))
    ∙ is.kinds (length piece.text - 1) (omega (arith, is.some)) in
    let place : length before + (length piece.text - 1) + 1 ≡ length before + (length piece.text + 0) = omega (arith, is.some) in
    let first : get_or text (length before + (length piece.text + 0)) 0 ≡ get_or next.text 0 0 =
    get_or-append-add before (piece.text ++ (next.text ++ bytes_of pieces)) (length piece.text + 0) 0
    ∙ get_or-append-add piece.text (next.text ++ bytes_of pieces) 0 0 ∙ get_or_append_left next.text (bytes_of pieces) 0 0 parts.some in
    let two : kind_of (get_or text (length before + (length piece.text - 1) + 1) 0) ≡ next.kind =
    rw place (ap kind_of first ∙ parts.kinds 0 parts.some) in
    ends_between text (length before + (length piece.text - 1)) (rw (one, two) stops)

-- ---- all pieces

-- one more piece, which is a token or a blank
spelled_more : (piece : Piece) (pieces : List Piece) (column : ℕ) (before tokens behind : List Token)
    → tokens ≡ with_token (record { kind = piece.kind; text = piece.text; column = column }) before ++ behind
    → Spells pieces behind []
    → (all : List Token) × (tokens ≡ before ++ all) × Spells (piece ∷ pieces) all []
spelled_more piece pieces column before tokens behind is spells = by (is_blank_kind piece.kind) refl is where
  token : Token
  token = record { kind = piece.kind; text = piece.text; column = column }

  by : (blank : Bool) → is_blank_kind piece.kind ≡ blank
      → tokens ≡ (if blank then before else before ++ token ∷ []) ++ behind
      → (all : List Token) × (tokens ≡ before ++ all) × Spells (piece ∷ pieces) all []
  by true blank is = (behind, is, passed blank spells)
  by false blank is = (token ∷ behind, is ∙ append_assoc before (token ∷ []) behind, stood column blank spells)

token_is : (piece : Piece) (before behind : List ℕ) → IsPiece piece
    → token_of (before ++ (piece.text ++ behind)) (length before) (length before + length piece.text)
    ≡ record { kind = piece.kind; text = piece.text; column = length before + 1 }
token_is piece before behind parts =
    let same : length before + 0 ≡ length before = omega arith in
    let first : kind_of (get_or (before ++ (piece.text ++ behind)) (length before) 0) ≡ piece.kind =
    subst (λ n. kind_of (get_or (before ++ (piece.text ++ behind)) n 0) ≡ piece.kind) same
    (ap kind_of (byte_within before piece.text behind 0 parts.some) ∙ parts.kinds 0 parts.some) in
    rw (first, piece_within before piece.text behind) refl

lexed : (text before : List ℕ) (pieces : List Piece) {first last : Kind} → text ≡ before ++ bytes_of pieces
    → begin_of text (length before) ≡ length before → Lexes first pieces last
    → (behind : List Token) × (tokens_below text (length text) ≡ tokens_below text (length before) ++ behind)
    × Spells pieces behind []
lexed text before [] is begins nothing =
    let same : text ≡ before = is ∙ append-nil before in
    ([], rw same (sym (append-nil _)), done)
lexed text before (piece ∷ pieces) is begins (put parts stops more) =
    let size = length piece.text in
    let behind = bytes_of pieces in
    let here : begin_of (before ++ (piece.text ++ behind)) (length before) ≡ length before =
    subst (λ (text : List ℕ). begin_of text (length before) ≡ length before) is begins in
    let last = ends piece before pieces parts more in
    let stands = within piece before behind (size - 1) parts (omega (arith, parts.some)) here in
    let put_one = at_end (before ++ (piece.text ++ behind)) (length before) size parts.some last stands in
    let all : before ++ (piece.text ++ behind) ≡ (before ++ piece.text) ++ behind = sym (append_assoc before piece.text behind) in
    let long : length (before ++ piece.text) ≡ length before + size = length-append before piece.text in
    let next = lexed (before ++ (piece.text ++ behind)) (before ++ piece.text) pieces all
    (subst (λ n. begin_of (before ++ (piece.text ++ behind)) n ≡ n) (sym long) put_one.0) more in
    let token = token_is piece before behind parts in
    let tokens : tokens_below (before ++ (piece.text ++ behind)) (length (before ++ (piece.text ++ behind)))
    ≡ with_token (record { kind = piece.kind; text = piece.text; column = length before + 1 })
    (tokens_below (before ++ (piece.text ++ behind)) (length before)) ++ next.0 =
    next.1 ∙ ap (λ n. tokens_below (before ++ (piece.text ++ behind)) n ++ next.0) long
    ∙ ap (λ tokens. tokens ++ next.0) put_one.1
    ∙ ap (λ token. with_token token (tokens_below (before ++ (piece.text ++ behind)) (length before)) ++ next.0) token in
    subst (λ (text : List ℕ). (behind : List Token) × (tokens_below text (length text) ≡ tokens_below text (length before) ++ behind)
    × Spells (piece ∷ pieces) behind []) (sym is)
    (spelled_more piece pieces (length before + 1) (tokens_below (before ++ (piece.text ++ behind)) (length before))
    (tokens_below (before ++ (piece.text ++ behind)) (length (before ++ (piece.text ++ behind)))) next.0 tokens next.2)

-- the tokens of a text that is written by pieces
pub tokens_of_pieces : (pieces : List Piece) {last : Kind} → Lexes Blank pieces last
    → Spells pieces (tokens_below (bytes_of pieces) (length (bytes_of pieces))) []
tokens_of_pieces pieces lexes =
    let parts = lexed (bytes_of pieces) [] pieces refl refl lexes in
    subst (λ tokens. Spells pieces tokens []) (sym parts.1) parts.2
