-- Lists that read the same at each place are equal.
use Rattle.std.proofs.Common.{ℕ, ◌≡◌, ◌<◌, List, length, get_or, Some, sym, ap, ◌∙◌, arith}
use Rattle.std.specs.Prelude.{slice_get}
use Rattle.std.proofs.lemmas.List.{same_lists}
use Rattle.std.proofs.lemmas.Option.{slice_get-get_or, same_Some}

-- by what is found at each place
pub same_reads : {X : Type 0} (one other : List X) → length one ≡ length other
    → ((k : ℕ) → k < length one → slice_get one k ≡ slice_get other k) → one ≡ other
same_reads one other long reads = same_lists one other long (λ k d below.
    let here = slice_get-get_or one k d below in
    let there = slice_get-get_or other k d (omega (arith, below, long)) in
    same_Some _ _ (sym here ∙ reads k below ∙ there))

-- by what is read at each place under one default
pub same_reads_at : {X : Type 0} (one other : List X) (d : X) → length one ≡ length other
    → ((k : ℕ) → k < length one → get_or one k d ≡ get_or other k d) → one ≡ other
same_reads_at one other d long reads = same_reads one other long (λ k below.
    slice_get-get_or one k d below ∙ ap Some (reads k below) ∙ sym (slice_get-get_or other k d (omega (arith, below, long))))
