-- Pieces of a text that go out, or were read, one after another.
use Rattle.std.proofs.Common.{◌≡◌, ℕ, ◌+◌, ◌-◌, ◌<◌, ◌≤◌, ◌==◌, false, List, [], ◌++◌, length, take, drop, Option, Some, None, Ok, refl, sym, ap, ◌∙◌, subst, append_assoc, append-nil, arith, length-append, length-drop}
use Rattle.std.proofs.Math.Seq.{take-add, take-length}
use Rattle.std.proofs.lemmas.Bool.Decides.{nat_tests}
use Rattle.std.proofs.lemmas.List.{length-take-le}
use Rattle.std.specs.Io.KnownBytes.{Appends, Consumes, Keeps}
use Rattle.irp_streams.specs.Out.{counted}
use Rattle.irp_streams.specs.Streams.{TakesAtMost}

-- ---- what went out

pub appends_none : (old : Option (List ℕ)) → Appends old old []
appends_none None = tt
appends_none (Some bytes) = sym (append-nil bytes)

pub appends_then : (first second : List ℕ) (old mid new : Option (List ℕ)) → Appends old mid first → Appends mid new second → Appends old new (first ++ second)
appends_then first second None mid new before after = tt
appends_then first second (Some a) None new before after = absurd before
appends_then first second (Some a) (Some b) None before after = absurd after
appends_then first second (Some a) (Some b) (Some c) before after = after ∙ ap (λ bytes. bytes ++ second) before ∙ append_assoc a first second

pub appends_kept : (text : List ℕ) (old mid new : Option (List ℕ)) → Appends old mid text → Keeps mid new → Appends old new text
appends_kept text None mid new before after = tt
appends_kept text (Some a) None new before after = absurd before
appends_kept text (Some a) (Some b) None before after = absurd after
appends_kept text (Some a) (Some b) (Some c) before after = after ∙ before

-- what a slice from a place on holds
slice_rest : {T : Type 0} (done : ℕ) (items : List T) → take (length items - done) (drop done items) ≡ drop done items
slice_rest done items = rw (← length-drop done items) (take-length (drop done items))

-- a front of a text, and then a front of the rest
pub front_then : (text : List ℕ) (done taken : ℕ) (old mid new : Option (List ℕ)) → Appends old mid (take done text) → Appends mid new (take taken (take (length text - done) (drop done text))) → Appends old new (take (done + taken) text)
front_then text done taken old mid new before after =
    subst (λ bytes. Appends old new bytes)
    (ap (λ rest. take done text ++ take taken rest) (slice_rest done text) ∙ sym (take-add done taken text))
    (appends_then _ _ old mid new before after)

-- what was taken of the rest is within the text
pub front_within : (text : List ℕ) (done taken : ℕ) → done < length text → taken ≤ length (take (length text - done) (drop done text)) → done + taken ≤ length text
front_within text done taken within bound =
    let bound_here : taken ≤ length text - done = subst (λ size. taken ≤ size) (ap length (slice_rest done text) ∙ length-drop done text) bound in
    omega arith

-- a put that took something is no failure
pub counted_taken : (taken : ℕ) (piece : List ℕ) (count : ℕ) → ¬ (taken ≡ 0) → counted (Ok taken) piece count ≡ count
counted_taken taken piece count more =
    let some : (taken == 0) ≡ false = grind (arith, nat_tests) in
    rw some refl

-- ---- what was taken of an input

pub reads_on : (t u : List ℕ) (old mid new : Option (List ℕ)) → Consumes old mid t → Consumes mid new u → Consumes old new (t ++ u)
reads_on t u None mid new h k = tt
reads_on t u (Some xs) None new h k = absurd h
reads_on t u (Some xs) (Some ys) None h k = absurd k
reads_on t u (Some xs) (Some ys) (Some zs) h k = h ∙ ap (λ s. t ++ s) k ∙ sym (append_assoc t u zs)

-- a piece was taken behind others, the first bytes of a buffer, with which they are no longer than the limit
pub takes_piece : (t buffer : List ℕ) (n limit : ℕ) (old mid new : Option (List ℕ)) → n ≤ length buffer → length t + n ≤ limit → Consumes old mid t → Consumes mid new (take n buffer) → TakesAtMost limit old new
takes_piece t buffer n limit old mid new within few first second =
    let size : length (take n buffer) ≡ n = length-take-le n buffer within in
    let both : length (t ++ take n buffer) ≡ length t + n = length-append t (take n buffer) ∙ ap (λ more. length t + more) size in
    (t ++ take n buffer, subst (λ total. total ≤ limit) (sym both) few, reads_on t (take n buffer) old mid new first second)
