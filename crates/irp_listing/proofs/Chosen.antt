-- What stands for entries, one after the other.
use Rattle.std.proofs.Common.{◌≡◌, ℕ, List, [], ◌∷◌, ◌++◌, refl, sym, ap, ◌∙◌, append_assoc, append-nil, Option, Bool, true, false, IsTrue, ◌↔◌, inl, inr}
use mathlib.Core.Bool.{true≢false}
use Rattle.irp_types.specs.declared.entry.Entry.{Entry}
use Rattle.irp_listing.specs.Blocks.{block_of}
use Rattle.irp_listing.specs.Choosing.{IsChosen}
use Rattle.irp_listing.specs.Listing.{AddsChosen, IsListing, PutsLast, StandsFor}
use Rattle.irp_listing.specs.Stacks.{IsAfter, held}
use Rattle.irp_listing.specs.declared.choosing.Choice.{Choice}
use Rattle.irp_listing.specs.declared.stacks.Stacks.{Stacks}
use Rattle.irp_types.specs.declared.names.IrpRef.{IrpRef}

-- one more entry
pub one_more : (only : Option IrpRef) (entries : List Entry) (entry : Entry) (text more : List ℕ) → IsListing only entries text → StandsFor only entry more → IsListing only (entries ++ entry ∷ []) (text ++ more)
one_more only [] entry text more is stands = (more, [], stands, refl, ap (λ given. given ++ more) is ∙ sym (append-nil more))
one_more only (first ∷ entries) entry text more is stands =
    (is.0, is.1 ++ more, is.2, one_more only entries entry is.1 more is.3 stands, ap (λ given. given ++ more) is.4 ∙ append_assoc is.0 is.1 more)

-- an entry that isn't chosen is passed over
pub passes_over : (only : Option IrpRef) (entry : Entry) (x : List ℕ) (is : Bool) → IsTrue is ↔ IsChosen only entry → is ≡ false → AddsChosen only entry x x
passes_over only entry x is same not = record {
  text = [];
  stands = inr ((λ chosen. absurd (true≢false (sym (same.1 chosen) ∙ not))), refl);
  put = sym (append-nil x);
}

pub puts_nothing : (choice : Choice) (so_far : List Entry) (entry : Entry) (x : List ℕ) (is : Bool) → IsTrue is ↔ IsChosen choice.only entry → is ≡ false
    → PutsLast choice so_far entry x x
puts_nothing choice so_far entry x is same not = inr ((λ chosen. absurd (true≢false (sym (same.1 chosen) ∙ not))), refl)

-- the block of one that is
pub puts_chosen : (choice : Choice) (stacks : Stacks) (entry : Entry) (x y : List ℕ) (is : Bool) → IsTrue is ↔ IsChosen choice.only entry → is ≡ true
    → y ≡ x ++ block_of choice.tells_seats (held stacks.lost) (held stacks.above) entry → AddsChosen choice.only entry x y
puts_chosen choice stacks entry x y is same it adds = record {
  text = block_of choice.tells_seats (held stacks.lost) (held stacks.above) entry;
  stands = inl (same.0 it, record { tells_seat = choice.tells_seats; lost = held stacks.lost; above = held stacks.above; whole = refl });
  put = adds;
}

-- it is the block of the last of the entries so far, where these lead to the stacks
pub puts_last : (choice : Choice) (so_far : List Entry) (stacks : Stacks) (entry : Entry) (x y : List ℕ) (is : Bool) → IsTrue is ↔ IsChosen choice.only entry → is ≡ true
    → IsAfter so_far stacks → y ≡ x ++ block_of choice.tells_seats (held stacks.lost) (held stacks.above) entry → PutsLast choice so_far entry x y
puts_last choice so_far stacks entry x y is same it after adds =
    inl (same.0 it, adds ∙ λ i. x ++ block_of choice.tells_seats (λ device. after.lost device i) (λ device. after.above device i) entry)
