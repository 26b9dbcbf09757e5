-- Faults that stand in their parts, put into a list.
use Rattle.std.proofs.Common.{◌≡◌, ℕ, List, [], ◌∷◌, ◌++◌, All, sym, subst}
use Rattle.std.proofs.lemmas.List.Elements.{All-append, All-cons, All-nil}
use Rattle.irp_text_faults.specs.Placed.{IsPlaced}
use Rattle.irp_text_faults.specs.declared.message.FaultMessage.{FaultMessage}

pub placed_in_front : (text : List ℕ) (first : FaultMessage) (more all : List FaultMessage) → all ≡ first ∷ more → IsPlaced text first
    → All (IsPlaced text) more → All (IsPlaced text) all
placed_in_front text first more all is placed others =
    subst (λ (faults : List FaultMessage). All (IsPlaced text) faults) (sym is) (All-cons (IsPlaced text) first more placed others)

pub placed_behind : (text : List ℕ) (before after : List FaultMessage) (last : FaultMessage) → after ≡ before ++ last ∷ []
    → All (IsPlaced text) before → IsPlaced text last → All (IsPlaced text) after
placed_behind text before after last is others placed =
    subst (λ (faults : List FaultMessage). All (IsPlaced text) faults) (sym is)
    (All-append (IsPlaced text) before (last ∷ []) others (All-cons (IsPlaced text) last [] placed (All-nil (IsPlaced text))))
