-- Word lines, one after the other.
use Rattle.std.proofs.Common.{◌≡◌, List, [], ◌∷◌, ◌++◌, sym, ap, ◌∙◌, append_assoc, append-nil}
use Rattle.std.proofs.lemmas.Grind.{flat_map-append}
use Rattle.std.specs.List.{flat_map}
use Rattle.irp_transcript.specs.declared.word_line.WordLine.{WordLine}
use Rattle.irp_listing.specs.Listing.{are_none, heading_above, word_line_of, word_lines_of, words_heading}

-- one more word line
pub one_more_word : (words : List WordLine) (word : WordLine)
    → word_lines_of (words ++ word ∷ []) ≡ word_lines_of words ++ (heading_above (are_none words) ++ word_line_of word)
one_more_word [] word = ap (λ text. words_heading ++ text) (append-nil (word_line_of word))
one_more_word (first ∷ words) word =
    let these = flat_map word_line_of (first ∷ words) in
    ap (λ text. words_heading ++ text) (flat_map-append word_line_of (first ∷ words) (word ∷ []))
    ∙ sym (append_assoc words_heading these (word_line_of word ++ []))
    ∙ ap (λ text. (words_heading ++ these) ++ text) (append-nil (word_line_of word))
