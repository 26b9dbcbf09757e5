-- What workers took from each other's steps, gathered from each.
use Rattle.std.proofs.Common.{◌≡◌, ◌<◌, ℕ, suc, All, Option, Some, None, List, [], ◌∷◌, length, map, get_or, sym, subst, ap, ◌∙◌, arith}
use Rattle.std.specs.Prelude.{Contains, IfSome, slice_get}
use Rattle.std.specs.List.{flat_map}
use Rattle.std.specs.Option.{option_flatten}
use Rattle.std.proofs.lemmas.List.Concat.{flat_map-cons}
use Rattle.std.proofs.lemmas.List.{get_or-map, length-map}
use Rattle.std.proofs.lemmas.List.Elements.{All-nil, All-append}
use Rattle.std.proofs.lemmas.List.Folds.{flat_map-map}
use Rattle.std.proofs.lemmas.Option.{none-some, slice_get-get_or}
use Rattle.irp_script.specs.declared.binding.Binding.{Binding}
use Rattle.irp_script.specs.declared.binding.Reading.{Reading}
use Rattle.irp_script.specs.Labels.{IsFounded, Known, all_read}

-- what is so of each in each piece is so of each in all of them
of_all : {X A : Type 0} (f : X → List A) (P : A → Type 0) (xs : List X) → ((k : ℕ) (d : X) → k < length xs → All P (f (get_or xs k d))) → All P (flat_map f xs)
of_all f P [] each = All-nil P
of_all f P (x ∷ xs) each =
    subst (All P) (sym (flat_map-cons f x xs)) (All-append P (f x) (flat_map f xs) (each 0 x (omega arith)) (of_all f P xs (λ k d lt. each (suc k) d (omega (arith, lt)))))

contained_one : {A : Type 0} (P : A → Type 0) (xs : List A) (x : A) → All P xs → Contains xs x → P x
contained_one P xs x each there = subst P there.2 (each there.0 x there.1)

-- what a step of one of these bound, at this place
place_of : {A : Type 0} (found : Option (Option A)) (a : A) → option_flatten found ≡ Some a → found ≡ Some (Some a)
place_of None a is = absurd (none-some a is)
place_of (Some one) a is = ap Some is

pub bound_there : {W : Type 0} (known_of : W → Known) (ws : List W) (k place : ℕ) (w : W) (binding : Binding) → k < length ws → w ≡ get_or ws k w
    → option_flatten (slice_get (known_of w).written place) ≡ Some binding
    → (one : Known) × (slice_get (map known_of ws) k ≡ Some one) × (slice_get one.written place ≡ Some (Some binding))
bound_there known_of ws k place w binding lt there is = (
  known_of w,
  slice_get-get_or (map known_of ws) k (known_of w) (omega (arith, lt, length-map ws known_of))
      ∙ ap Some (get_or-map known_of ws k w (known_of w) lt ∙ ap known_of (sym there)),
  place_of (slice_get (known_of w).written place) binding is,
)

-- each is founded of those that each of some took
pub all_founded : {W : Type 0} (known_of : W → Known) (ws : List W) (left : List Known)
    → ((k : ℕ) (w : W) → k < length ws → All (λ reading. IfSome reading (IsFounded left)) (known_of (get_or ws k w)).read)
    → (reading : Reading) → Contains (all_read (map known_of ws)) (Some reading) → IsFounded left reading
all_founded known_of ws left each reading there =
    contained_one (λ reading. IfSome reading (IsFounded left)) (flat_map (λ w. (known_of w).read) ws) (Some reading)
    (of_all (λ w. (known_of w).read) (λ reading. IfSome reading (IsFounded left)) ws each)
    (subst (λ all. Contains all (Some reading)) (flat_map-map (λ (one : Known). one.read) known_of ws) there)
