-- Small facts about views and stages.
use Rattle.std.proofs.Common.{◌≡◌, ℕ, ◌≢◌, Bool, ne_eqb, List, [], ◌∷◌, if◌then◌else◌, sym, ap, ◌∙◌, ◌%◌, eq-eqb}
use Rattle.irp_remove.specs.declared.views.Stage.TheVariants.{Idle, Trying, Held}
use Rattle.irp_remove.specs.declared.views.View.{View}
use Rattle.irp_remove.specs.declared.views.View.TheVariants.{Stake}
use Rattle.irp_remove.specs.Core.{at_stage, acquired}
use Rattle.irp_remove.proofs.Steps.{same_lock, other_lock}

abbrev head_or : View → List View → View
head_or d [] = d
head_or d (v ∷ vs) = v

-- a badge has one view
pub one_view : (vs : List View) (v w : View) → vs ≡ v ∷ [] → vs ≡ w ∷ [] → v ≡ w
one_view vs v w a b = ap (head_or v) (sym a ∙ b)

pub acquired_clear : (tag lock word : ℕ) (seen : List ℕ) (v : View) → v ≡ Stake Idle seen → word % 2 ≡ 0 → acquired tag lock word v ≡ Stake (Held lock tag) seen
acquired_clear tag lock word seen v is clear = ap (acquired tag lock word) is ∙ ap (λ (b : Bool). if b then Stake (Held lock tag) seen else Stake (Trying lock) (lock ∷ seen)) (eq-eqb (word % 2) 0 clear)

pub acquired_taken : (tag lock word : ℕ) (seen : List ℕ) (v : View) → v ≡ Stake Idle seen → word % 2 ≢ 0 → acquired tag lock word v ≡ Stake (Trying lock) (lock ∷ seen)
acquired_taken tag lock word seen v is taken = ap (acquired tag lock word) is ∙ ap (λ (b : Bool). if b then Stake (Held lock tag) seen else Stake (Trying lock) (lock ∷ seen)) (ne_eqb (word % 2) 0 taken)

pub trying_here : (lock : ℕ) → at_stage lock (Trying lock) ≡ 1
trying_here lock = same_lock lock

pub trying_else : (lock k : ℕ) → k ≢ lock → at_stage k (Trying lock) ≡ 0
trying_else lock k ne = other_lock lock k (λ e. ne (sym e))

pub held_here : (lock tag : ℕ) → at_stage lock (Held lock tag) ≡ 1
held_here lock tag = same_lock lock

pub held_else : (lock tag k : ℕ) → k ≢ lock → at_stage k (Held lock tag) ≡ 0
held_else lock tag k ne = other_lock lock k (λ e. ne (sym e))
