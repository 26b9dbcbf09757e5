-- What follows from the rule in each state, and what a canceller never forgets.
use Rattle.std.proofs.Common.{◌≡◌, ℕ, zero, suc, ◌+◌, ◌*◌, ◌≤◌, Bool, true, false, ◌&&◌, eqb, eq-eqb, ne_eqb, List, [], ◌∷◌, get_or, set, if◌then◌else◌, refl, sym, ap, ◌∙◌, subst, arith}
use mathlib.Core.Logic.{dite}
use mathlib.Core.Option.{some, some-injective}
use native.Mathlib.Decide.{ℕ_discrete}
use lib.ListN.{get_elem?}
use Rattle.atomic_table.specs.Table.{State}
use Rattle.irp_slots.specs.declared.views.Owning.{Owning}
use Rattle.irp_slots.specs.declared.views.View.{View}
use Rattle.irp_slots.specs.declared.views.View.TheVariants.{First, Owner, Canceller}
use Rattle.irp_slots.specs.declared.views.Parties.{Parties}
use Rattle.irp_slots.specs.Core.{total, one_if, flag, times, is_begun, is_resting, is_standing, owns, published, taken, resting, standing, ended, new_canceller, IsInOrder}
use Rattle.irp_slots.specs.Laws.{HasOwner, OnceLaw, IsPublicationOnce, IsNothingElse, RestLaw, IsEmptyOnceAsked, IsEndedForGood, IsOwnView, EmptyLaw, IsTakenByCanceller, LostLaw, FlagLaw, OrderLaw}
use Rattle.irp_slots.proofs.Totals.{total_set, part_of_total, published_owned, ended_flagged, all_at}

same_number : (a : ℕ) → eqb a a ≡ true
same_number a = eq-eqb a a refl

its_own : (o : Owning) → is_begun o.stage ≡ true → published o.slot o.published (Owner o) ≡ 1
its_own o begun = λ i. one_if (begun i && (same_number o.slot i && same_number o.published i))

nothing_else : IsNothingElse
nothing_else key s slot number r inside some_use =
    let one = r.one_owner slot inside in let le = published_owned slot number s.views in (r.places slot number inside some_use, omega arith)

publication_once : IsPublicationOnce
publication_once key s party o has begun some_use =
    let mine = its_own o begun in
    let part = part_of_total (published o.slot o.published) s.views party (Owner o) has.1 in
    let all = nothing_else key s o.slot o.published has.0 has.2 some_use in
    let is = all.0 in
    let most = all.1 in
    omega arith

pub once_law : OnceLaw
once_law = (publication_once, nothing_else)

pub rest_law : RestLaw
rest_law key s party o has rests =
    let mine : resting o.slot (Owner o) ≡ 1 = λ i. one_if (rests i && same_number o.slot i) in
    let part = part_of_total (resting o.slot) s.views party (Owner o) has.1 in
    has.0.rests o.slot has.2 (omega arith)

empty_once_asked : IsEmptyOnceAsked
empty_once_asked key s party o has stands other a there asked =
    let mine : standing o.slot (Owner o) ≡ 1 = λ i. one_if (is_standing (stands i) && same_number o.slot i) in
    let part = part_of_total (standing o.slot) s.views party (Owner o) has.1 in
    let theirs : ended o.slot (Canceller a) ≡ 1 = ap one_if asked in
    let part_2 = part_of_total (ended o.slot) s.views other (Canceller a) there in
    has.0.stands o.slot has.2 (omega arith) (omega arith)

-- setting a flag clears none
flag_stays : (xs : List Bool) (place k : ℕ) → one_if (flag xs k) ≤ one_if (flag (set xs place true) k)
flag_stays [] place k = omega arith
flag_stays (x ∷ xs) zero zero = one_most x
  where
    one_most : (b : Bool) → one_if b ≤ 1
    one_most true = omega arith
    one_most false = omega arith
flag_stays (x ∷ xs) zero (suc k) = omega arith
flag_stays (x ∷ xs) (suc place) zero = omega arith
flag_stays (x ∷ xs) (suc place) (suc k) = flag_stays xs place k

ended_for_good : IsEndedForGood
ended_for_good slot (First os n) h other found = absurd (omega arith)
ended_for_good slot (Owner o) h other found = absurd (omega arith)
ended_for_good slot (Canceller a) h other found = let stays = flag_stays a.ended other slot in (h, h, h, h, omega arith)

own_view : IsOwnView
own_view [] party other w ne = refl
own_view (v ∷ vs) zero zero w ne = absurd (ne refl)
own_view (v ∷ vs) zero (suc other) w ne = refl
own_view (v ∷ vs) (suc party) zero w ne = refl
own_view (v ∷ vs) (suc party) (suc other) w ne = own_view vs party other w (λ e. ne (ap suc e))

pub empty_law : EmptyLaw
empty_law = (empty_once_asked, ended_for_good, own_view)

-- some party is the one that is counted
counted_at : (f : View → ℕ) (views : List View) → total f views ≡ 1 → (other : ℕ) × (v : View) × (get_elem? views other ≡ some v) × (f v ≡ 1)
counted_at f [] e = absurd (omega arith)
counted_at f (v ∷ vs) e = dite (ℕ_discrete (f v) 1)
    (λ here. (zero, v, refl, here))
    (λ ne. let rest = counted_at f vs (omega arith) in (suc rest.0, rest.1, rest.2, rest.3))

by_canceller : (key : Parties) (s : State (Unit {0}) View) (party : ℕ) (o : Owning) → HasOwner key s party o → times o.published o.taken ≡ 0
    → (other : ℕ) (v : View) → get_elem? s.views other ≡ some v → taken o.slot o.published v ≡ 1 → IsTakenByCanceller s o.slot o.published
by_canceller key s party o has none other (First os n) at one = absurd (omega arith)
by_canceller key s party o has none other (Canceller a) at one = (other, a, at, one)
by_canceller key s party o has none other (Owner p) at one = dite (ℕ_discrete other party)
    (λ e.
    let here : get_elem? s.views party ≡ some (Owner p) = subst (λ (k : ℕ). get_elem? s.views k ≡ some (Owner p)) e at in
    let same : Owner p ≡ Owner o = some-injective (Owner p) (Owner o) (sym here ∙ has.1) in
    let is : taken o.slot o.published (Owner p) ≡ taken o.slot o.published (Owner o) = ap (taken o.slot o.published) same in
    let mine : taken o.slot o.published (Owner o) ≡ times o.published o.taken = ap (λ (b : Bool). if b then times o.published o.taken else 0) (same_number o.slot) in
    absurd (omega arith))
    (λ ne.
    let t = total_set (owns o.slot) s.views party (Owner o) new_canceller has.1 in
    let one_owner = has.0.one_owner o.slot has.2 in
    let mine : owns o.slot (Owner o) ≡ 1 = ap one_if (same_number o.slot) in
    let there : get_elem? (set s.views party new_canceller) other ≡ some (Owner p) = own_view s.views other party new_canceller ne ∙ at in
    let part = part_of_total (owns o.slot) (set s.views party new_canceller) other (Owner p) there in
    dite (ℕ_discrete p.slot o.slot)
    (λ e. let q : owns o.slot (Owner p) ≡ 1 = ap one_if (eq-eqb p.slot o.slot e) in absurd (omega arith))
    (λ away. let q : taken o.slot o.published (Owner p) ≡ 0 = ap (λ (b : Bool). if b then times o.published p.taken else 0) (ne_eqb p.slot o.slot away) in absurd (omega arith)))

pub lost_law : LostLaw
lost_law key s party o has done some_use none_taken =
    let empty = rest_law key s party o has (ap is_resting done) in
    let once = publication_once key s party o has (ap is_begun done) some_use in
    let c : one_if (eqb (get_or s.words (2 * o.slot + 1) 0) o.published) ≡ 0 = ap (λ (z : ℕ). one_if (eqb z o.published)) empty ∙ ap one_if (ne_eqb 0 o.published (λ z. absurd (omega arith))) in
    let all : total (taken o.slot o.published) s.views ≡ 1 = omega arith in
    let who = counted_at (taken o.slot o.published) s.views all in
    (all, by_canceller key s party o has none_taken who.0 who.1 who.2 who.3, empty)

pub flag_law : FlagLaw
flag_law key s slot r inside =
    ((r.flag_only slot inside, r.flag_set slot inside), λ h. let le = ended_flagged slot s.views r.in_order in r.flag_set slot inside (omega arith), r.found slot inside)

pub order_law : OrderLaw
order_law key s party view r at = all_at IsInOrder s.views party view at r.in_order
