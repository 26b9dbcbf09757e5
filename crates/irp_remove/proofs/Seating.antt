-- What moves of stakes and steps of the observer leave of a remove seat.
use Rattle.std.proofs.Common.{◌≡◌, ℕ, zero, suc, ◌+◌, ◌-◌, ◌<◌, ◌≤◌, ◌≢◌, Bool, false, ◌||◌, eq-eqb, List, [], ◌∷◌, ◌++◌, length, map, All, Contains, take, drop, remove, get_or, replicate, ltb, refl, sym, ap, ◌∙◌, subst, arith, length-append}
use Rattle.std.proofs.lemmas.List.{length-map, get_or_past, take-map, drop-map, map-append}
use Rattle.std.proofs.lemmas.Bool.{le-ltb}
use Rattle.std.proofs.lemmas.Option.{slice_get_within, get_or_from_slice_get}
use Rattle.std.specs.Prelude.{slice_get, Option, Some}
use Rattle.irp_remove.specs.Core.{flag, one_if, is_named, total, saw, new_stake}
use Rattle.std.proofs.lemmas.List.Elements.{All-append, All-take, All-drop}
use Rattle.std.proofs.lemmas.List.Edits.{length-remove}
use Rattle.atomic_table.specs.Seated.{TableId}
use Rattle.atomic_table.specs.declared.shared.Seat.{Seat}
use Rattle.irp_remove.specs.declared.views.Watch.{Watch}
use Rattle.irp_remove.specs.declared.views.View.{View}
use Rattle.irp_remove.specs.declared.views.Stage.TheVariants.{Idle}
use Rattle.irp_remove.specs.declared.views.View.TheVariants.{Observer, Stake}
use Rattle.irp_remove.proofs.Totals.{total_snoc}
use Rattle.irp_remove.specs.declared.reference.Reference.{Reference}
use Rattle.irp_remove.specs.Seats.{holder, IsNew, IsSeated, IsIdle, IsHeld, IsIdleView, watch_of, first_view, view_of, pair_of, held_in}

module _ {X : Type 0} (P : X → Type 0) where
  all_one : (x : X) → P x → All P (x ∷ [])
  all_one x p zero d less = p
  all_one x p (suc k) d less = absurd (omega arith)

  pub all_snoc : (xs : List X) (x : X) → All P xs → P x → All P (xs ++ x ∷ [])
  all_snoc xs x all p = All-append P xs (x ∷ []) all (all_one x p)

  pub all_remove : (xs : List X) (k : ℕ) → All P xs → All P (remove xs k)
  all_remove xs k all = All-append P (take k xs) (drop (suc k) xs) (All-take P k xs all) (All-drop P (suc k) xs all)

  pub all_at : (xs : List X) (k : ℕ) (x : X) → All P xs → k < length xs → x ≡ get_or xs k x → P x
  all_at xs k x all less is = subst P (sym is) (all k x less)

abbrev Eye : Type 0
Eye = Seat (Unit {0}) View

module _ (o : Eye) (idle held : List Reference) (b s d : List Bool) (seated : IsSeated o idle held b s d) where
  pub to_held : (idle' : List Reference) (r : Reference) → idle' ≡ take (length idle - 1) idle → length idle' + 1 ≡ length idle → IsHeld o.table_id r → IsSeated o idle' (held ++ r ∷ []) b s d
  to_held idle' r is less h = record {
    observes = seated.observes;
    began_is = seated.began_is;
    saw_is = seated.saw_is;
    drained_is = seated.drained_is;
    all_idle = subst (All (IsIdle o.table_id)) (sym is) (All-take (IsIdle o.table_id) (length idle - 1) idle seated.all_idle);
    all_held = all_snoc (IsHeld o.table_id) held r seated.all_held h;
    all_there = let t = seated.all_there in omega (arith, length-append held (r ∷ []));
    flags = seated.flags;
  }

  pub back_to_idle : (idle' : List Reference) (r : Reference) → idle' ≡ take (length idle - 1) idle → length idle' + 1 ≡ length idle → IsIdle o.table_id r → IsSeated o (idle' ++ r ∷ []) held b s d
  back_to_idle idle' r is less h = record {
    observes = seated.observes;
    began_is = seated.began_is;
    saw_is = seated.saw_is;
    drained_is = seated.drained_is;
    all_idle = all_snoc (IsIdle o.table_id) idle' r (subst (All (IsIdle o.table_id)) (sym is) (All-take (IsIdle o.table_id) (length idle - 1) idle seated.all_idle)) h;
    all_held = seated.all_held;
    all_there = let t = seated.all_there in omega (arith, length-append idle' (r ∷ []));
    flags = seated.flags;
  }

  pub to_idle : (k : ℕ) (r : Reference) → k < length held → IsIdle o.table_id r → IsSeated o (idle ++ r ∷ []) (remove held k) b s d
  to_idle k r less h = record {
    observes = seated.observes;
    began_is = seated.began_is;
    saw_is = seated.saw_is;
    drained_is = seated.drained_is;
    all_idle = all_snoc (IsIdle o.table_id) idle r seated.all_idle h;
    all_held = all_remove (IsHeld o.table_id) held k seated.all_held;
    all_there = let t = seated.all_there in let u = length-remove held k less in omega (arith, length-append idle (r ∷ []));
    flags = seated.flags;
  }

  pub watching : (o' : Eye) (w : Watch) (b' s' d' : List Bool) → o'.table_id ≡ o.table_id → o'.me.0 ≡ Observer w → w.began ≡ b' → w.saw ≡ s' → w.drained ≡ d' → (length b' ≡ length b) → (length s' ≡ length s) → (length d' ≡ length d) → IsSeated o' idle held b' s' d'
  watching o' w b' s' d' same is bw sw dw lb ls ld = let e : watch_of o'.me.0 ≡ w = ap watch_of is in record {
    observes = is ∙ ap Observer (sym e);
    began_is = ap (λ (z : Watch). z.began) e ∙ bw;
    saw_is = ap (λ (z : Watch). z.saw) e ∙ sw;
    drained_is = ap (λ (z : Watch). z.drained) e ∙ dw;
    all_idle = subst (λ (z : TableId). All (IsIdle z) idle) (sym same) seated.all_idle;
    all_held = subst (λ (z : TableId). All (IsHeld z) held) (sym same) seated.all_held;
    all_there = seated.all_there;
    flags = (lb ∙ seated.flags.0, ls ∙ seated.flags.1, ld ∙ seated.flags.2);
  }

-- a seat whose last idle stake found the lock removed knows so
pub knows_last : (views rest : List View) (view : View) (lock : ℕ) (seen : List ℕ) → views ≡ rest ++ view ∷ [] → view ≡ Stake Idle (lock ∷ seen) → 0 < total (saw lock) views
knows_last views rest view lock seen is sees =
    let sum : total (saw lock) views ≡ total (saw lock) rest + saw lock view = ap (total (saw lock)) is ∙ total_snoc (saw lock) rest view in
    let one : saw lock view ≡ 1 = ap (saw lock) sees ∙ ap (λ (b : Bool). one_if (b || is_named lock seen)) (eq-eqb lock lock refl) in
    omega arith

-- a seat with an idle stake has room
pub room_left : (o : Eye) (idle held : List Reference) (b s d : List Bool) → IsSeated o idle held b s d → (n : ℕ) → n + 1 ≡ length idle → (hs : List (ℕ × ℕ)) → map pair_of held ≡ hs → length hs < 64
room_left o idle held b s d seated n some_idle hs is =
    let t = seated.all_there in let same : length (map pair_of held) ≡ length hs = ap length is in omega (arith, length-map held pair_of)

find_pair : (xs : List Reference) (k : ℕ) (p : ℕ × ℕ) → k < length (map pair_of xs) → get_or (map pair_of xs) k p ≡ p → (d : Reference) → pair_of (get_or xs k d) ≡ p
find_pair [] k p less e d = absurd (omega arith)
find_pair (x ∷ xs) zero p less e d = e
find_pair (x ∷ xs) (suc k) p less e d = find_pair xs k p (omega arith) e d

pub not_there : (xs : List Reference) (p : ℕ × ℕ) → ((k : ℕ) (d : Reference) → k < length xs → pair_of (get_or xs k d) ≢ p) → ¬ Contains (map pair_of xs) p
not_there [] p none there = let less = there.1 in absurd (omega arith)
not_there (x ∷ xs) p none there =
    let less = there.1 in none there.0 x (omega (arith, length-map xs pair_of)) (find_pair (x ∷ xs) there.0 p there.1 there.2 x)

-- a lock past the flags is not known drained
pub flag_past : (xs : List Bool) (lock : ℕ) → length xs ≡ 64 → 64 ≤ lock → ltb lock 64 ≡ flag xs lock
flag_past xs lock long past = le-ltb lock 64 past ∙ sym (get_or_past xs lock false (omega arith))

pub contains_at : {X : Type 0} (xs : List X) (k : ℕ) (x : X) → slice_get xs k ≡ Some x → Contains xs x
contains_at xs k x e = (k, slice_get_within xs k x e, get_or_from_slice_get xs k x x e)

map_remove : {X Y : Type 0} (f : X → Y) (xs : List X) (k : ℕ) → map f (remove xs k) ≡ remove (map f xs) k
map_remove f xs k = map-append f (take k xs) (drop (suc k) xs) ∙ (ap (λ ys. ys ++ map f (drop (suc k) xs)) (sym (take-map f k xs)) ∙ ap (λ ys. take k (map f xs) ++ ys) (sym (drop-map f (suc k) xs)))

-- the place of a pair is the place of its stake
pub place_within : (held : List Reference) (k : ℕ) (p : ℕ × ℕ) → slice_get (map pair_of held) k ≡ Some p → k < length held
place_within held k p e = let less = slice_get_within (map pair_of held) k p e in omega (arith, length-map held pair_of)

-- what is read of a list from which one thing is gone
pub one_gone : {Y : Type 0} (f : Reference → Y) (held held' : List Reference) (ys : List Y) (k : ℕ) → map f held ≡ ys → held' ≡ remove held k → map f held' ≡ remove ys k
one_gone {Y = Y} f held held' ys k is gone = ap (map f) gone ∙ (map_remove f held k ∙ ap (λ (z : List Y). remove z k) is)

-- the views of references say what they hold
pub views_hold : (z : TableId) (xs : List Reference) → All (IsHeld z) xs → map held_in (map view_of xs) ≡ map Some (map pair_of xs)
views_hold z [] all = refl
views_hold z (x ∷ xs) all = ap (λ (p : Option (ℕ × ℕ)). p ∷ map held_in (map view_of xs)) (ap (λ (vs : List View). held_in (first_view vs)) (all 0 x (omega arith)).2.1)
    ∙ ap (λ (ps : List (Option (ℕ × ℕ))). Some (pair_of x) ∷ ps) (views_hold z xs (λ k d less. all (suc k) d (omega arith)))

-- the views of idle stakes are idle
pub views_idle : (z : TableId) (xs : List Reference) → All (IsIdle z) xs → All IsIdleView (map view_of xs)
views_idle z [] all k d less = absurd (omega arith)
views_idle z (x ∷ xs) all zero d less = let here = all 0 x (omega arith) in (here.1.0, ap first_view here.1.1)
views_idle z (x ∷ xs) all (suc k) d less = views_idle z xs (λ j e within. all (suc j) e (omega arith)) k d (omega arith)

-- what is read of a list with one thing more
pub one_more : {Y : Type 0} (f : Reference → Y) (all xs : List Reference) (x : Reference) → all ≡ xs ++ x ∷ [] → map f all ≡ map f xs ++ f x ∷ []
one_more f all xs x is = ap (map f) is ∙ map-append f xs (x ∷ [])

-- what is read of the thing at a place
pub map_at : {Y : Type 0} (f : Reference → Y) (xs : List Reference) (k : ℕ) (x : Reference) → k < length xs → x ≡ get_or xs k x → slice_get (map f xs) k ≡ Some (f x)
map_at f [] k x less is = absurd (omega arith)
map_at f (y ∷ xs) zero x less is = ap (λ (z : Reference). Some (f z)) (sym is)
map_at f (y ∷ xs) (suc k) x less is = map_at f xs k x (omega arith) is

last_at : {X : Type 0} (xs : List X) (x : X) → get_or (xs ++ x ∷ []) (length xs) x ≡ x
last_at [] x = refl
last_at (y ∷ xs) x = last_at xs x

pub all_last : {X : Type 0} (P : X → Type 0) (all xs : List X) (x : X) → all ≡ xs ++ x ∷ [] → All P all → P x
all_last P all xs x is h = all_at P all (length xs) x h (subst (λ z. length xs < length z) (sym is) (omega (arith, length-append xs (x ∷ []))))
    (subst (λ z. x ≡ get_or z (length xs) x) (sym is) (sym (last_at xs x)))

pub holder_watch : (t t' : TableId) (number : ℕ) (w w' : Watch) (hs : List (ℕ × ℕ)) (held idle : List View) → t' ≡ t → w' ≡ w
    → holder t' number w' hs held idle ≡ holder t number w hs held idle
holder_watch t t' number w w' hs held idle et ew = λ i. holder (et i) number (ew i) hs held idle

-- the stake at the place of a pair has that pair
pub pair_removed : (held : List Reference) (k : ℕ) (r : Reference) (p : ℕ × ℕ) → slice_get (map pair_of held) k ≡ Some p → r ≡ get_or held k r → pair_of r ≡ p
pair_removed held k r p here is =
    let less = slice_get_within (map pair_of held) k p here in
    ap pair_of is ∙ find_pair held k p less (get_or_from_slice_get (map pair_of held) k p p here) r

-- the views of new stakes
pub new_views : (z : TableId) (xs : List Reference) → All (IsNew z) xs → map view_of xs ≡ replicate (length xs) new_stake
new_views z [] all = refl
new_views z (x ∷ xs) all = ap (λ (v : View). v ∷ map view_of xs) (ap first_view (all 0 x (omega arith)).1) ∙ ap (λ (vs : List View). new_stake ∷ vs) (new_views z xs (λ k d less. all (suc k) d (omega arith)))

pub zero_words : (words : List ℕ) (n k : ℕ) → words ≡ replicate n zero → get_or words k zero ≡ zero
zero_words words n k is = ap (λ (ws : List ℕ). get_or ws k zero) is ∙ zeros n k
  where
    zeros : (n k : ℕ) → get_or (replicate n zero) k zero ≡ zero
    zeros zero k = refl
    zeros (suc n) zero = refl
    zeros (suc n) (suc k) = zeros n k
