-- The lines of a text, each in its section, one line after the other.
use Rattle.std.proofs.Common.{◌≡◌, ◌<◌, ◌≤◌, ◌+◌, ◌∙◌, ℕ, Bor, List, [], ◌∷◌, ◌++◌, true, false, get_or, length, map, take, ap, sym, refl, append_assoc, append-nil}
use Rattle.std.proofs.lemmas.List.{map-append, take_all, take_more}
use Rattle.std.proofs.lemmas.List.Elements.{filter-append}
use Rattle.std.proofs.lemmas.Simd.{map-map}
use Rattle.std.specs.List.{filter}
use Rattle.irp_script_reader.specs.declared.refusal.Section.{Section}
use Rattle.irp_script_reader.specs.declared.refusal.Section.TheVariants.{Top}
use Rattle.irp_grammar.specs.Lines as spec
use Rattle.irp_grammar.specs.Lines.{has_words, lines_of, words_of}
use Rattle.irp_grammar.specs.Reading.{Line, below, placed}

-- the words of those of some pieces that have any
abbrev pub worded : List (Bor (List ℕ)) → List (List (List ℕ))
worded pieces = filter has_words (map (λ (piece : Bor (List ℕ)). words_of piece.now) pieces)

-- these lines are those of the pieces so far, and what comes next stands in this section
abbrev pub ArePlaced : List Line → Section → List (Bor (List ℕ)) → Type 0
ArePlaced lines section pieces =
    (rest : List (List (List ℕ))) → lines ++ placed section rest ≡ placed Top (worded pieces ++ rest)

worded_more : (pieces : List (Bor (List ℕ))) (i : ℕ) (d : Bor (List ℕ)) → i < length pieces → worded (take (i + 1) pieces) ≡ worded (take i pieces) ++ filter has_words (words_of (get_or pieces i d).now ∷ [])
worded_more pieces i d below =
    ap worded (take_more pieces i d below)
    ∙ ap (filter has_words) (map-append (λ (piece : Bor (List ℕ)). words_of piece.now) (take i pieces) (get_or pieces i d ∷ []))
    ∙ filter-append has_words (map (λ (piece : Bor (List ℕ)). words_of piece.now) (take i pieces)) (words_of (get_or pieces i d).now ∷ [])

-- a piece without words
pub placed_none : (lines : List Line) (section : Section) (pieces : List (Bor (List ℕ))) (i : ℕ) (d : Bor (List ℕ)) → i < length pieces → words_of (get_or pieces i d).now ≡ [] → ArePlaced lines section (take i pieces) → ArePlaced lines section (take (i + 1) pieces)
placed_none lines section pieces i d there none so_far rest =
    so_far rest
    ∙ ap (λ words. placed Top (words ++ rest)) (sym (worded_more pieces i d there
    ∙ ap (λ one. worded (take i pieces) ++ filter has_words (one ∷ [])) none ∙ append-nil (worded (take i pieces))))

-- a piece with words
some_worded : (words : List (List ℕ)) → has_words words ≡ true → filter has_words (words ∷ []) ≡ words ∷ []
some_worded [] some = let no : false ≡ true = some in absurd (let never : ⊥ = cc in never)
some_worded (word ∷ words) some = refl

pub placed_more : (lines : List Line) (section : Section) (pieces : List (Bor (List ℕ))) (i : ℕ) (d : Bor (List ℕ)) (words : List (List ℕ)) → i < length pieces → words_of (get_or pieces i d).now ≡ words → has_words words ≡ true → ArePlaced lines section (take i pieces) → ArePlaced (lines ++ (section, words) ∷ []) (below section words) (take (i + 1) pieces)
placed_more lines section pieces i d words there are some so_far rest =
    append_assoc lines ((section, words) ∷ []) (placed (below section words) rest)
    ∙ so_far (words ∷ rest)
    ∙ ap (placed Top) (sym (append_assoc (worded (take i pieces)) (words ∷ []) rest))
    ∙ ap (λ all. placed Top (all ++ rest)) (sym (worded_more pieces i d there
    ∙ ap (λ one. worded (take i pieces) ++ filter has_words (one ∷ [])) are
    ∙ ap (λ one. worded (take i pieces) ++ one) (some_worded words some)))

-- all pieces of a text
pub placed_all : (lines : List Line) (section : Section) (pieces others : List (Bor (List ℕ))) (n : ℕ) (text : List ℕ)
    → ArePlaced lines section (take n pieces) → length pieces ≤ n → pieces ≡ others
    → map (λ (piece : Bor (List ℕ)). piece.now) others ≡ spec.pieces 10 text → lines ≡ placed Top (lines_of text)
placed_all lines section pieces others n text so_far whole same are =
    sym (append-nil lines) ∙ so_far []
    ∙ ap (placed Top) (append-nil (worded (take n pieces)))
    ∙ ap (λ some. placed Top (worded some)) (take_all n pieces whole ∙ same)
    ∙ ap (λ some. placed Top (filter has_words some))
    (sym (map-map words_of (λ (piece : Bor (List ℕ)). piece.now) others) ∙ ap (map words_of) are)
