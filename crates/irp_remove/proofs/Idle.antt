-- Where fresh seats have all parties of the table, every word is 0.
use Rattle.std.proofs.Common.{◌≡◌, ℕ, zero, suc, ◌+◌, ◌-◌, ◌*◌, ◌≤◌, List, [], ◌∷◌, ◌++◌, length, All, replicate, sym, ap, ◌∙◌, arith}
use mathlib.Core.Logic.{dite}
use Rattle.std.proofs.lemmas.List.{get_or_past}
use Rattle.atomic_table.specs.Seated.{TableId}
use Rattle.irp_remove.specs.declared.views.View.{View}
use Rattle.irp_remove.specs.declared.views.View.TheVariants.{First, Observer, Stake}
use Rattle.irp_remove.specs.Core.{total, flag, is_named, began, staked, saw, knows_drained, observers, stakes, new_observer, new_stake}
use Rattle.irp_remove.specs.Seats.{Holder}
use Rattle.irp_remove.specs.Opening.{IsFresh, parties_of, views_of, views_of_all, AreAmong, IsAllIdle}
use Rattle.irp_remove.proofs.Totals.{one_if_le, staked_is_one}
use Rattle.irp_remove.proofs.Observing.{blank_observer, blank_stake}

total_append : (f : View → ℕ) (xs ys : List View) → total f (xs ++ ys) ≡ total f xs + total f ys
total_append f [] ys = omega arith
total_append f (x ∷ xs) ys = let rest = total_append f xs ys in omega arith

among_le : (f : View → ℕ) (some all : List View) → AreAmong some all → total f some ≤ total f all
among_le f [] all among = omega arith
among_le f (v ∷ vs) all among =
    let before = among.0 in
    let after = among.1 in
    let is : total f all ≡ total f (before ++ v ∷ after) = ap (total f) among.2 in
    let whole = total_append f before (v ∷ after) in
    let without = total_append f before after in
    let rest = among_le f vs (before ++ after) among.3 in
    omega arith

module _ (f g : View → ℕ) (le : (v : View) → f v ≤ g v) where
  part_and_rest : (views : List View) → total f views + total (λ v. g v - f v) views ≡ total g views
  part_and_rest [] = omega arith
  part_and_rest (v ∷ vs) = let here = le v in let rest = part_and_rest vs in omega arith

  -- what is counted of some, where these are all of their kind
  same_total : (some all : List View) → AreAmong some all → total g some ≡ total g all → total f some ≡ total f all
  same_total some all among same =
      let a = among_le f some all among in
      let b = among_le (λ v. g v - f v) some all among in
      let c = part_and_rest some in
      let d = part_and_rest all in
      omega arith

module _ (f : View → ℕ) where
  total_replicate : (n : ℕ) (v : View) → total f (replicate n v) ≡ n * f v
  total_replicate zero v = omega arith
  total_replicate (suc n) v = let rest = total_replicate n v in omega arith

  fresh_total : (t : TableId) (h : Holder) → IsFresh t h → total f (views_of h) ≡ f new_observer + 64 * f new_stake
  fresh_total t h fresh =
      let is : views_of h ≡ new_observer ∷ replicate 64 new_stake = λ i. Observer (fresh.1 i) ∷ (fresh.3 i ++ fresh.4 i) in
      let same : total f (views_of h) ≡ total f (new_observer ∷ replicate 64 new_stake) = ap (total f) is in
      let of_stakes = total_replicate 64 new_stake in
      omega arith

  all_fresh_total : (t : TableId) (hs : List Holder) → All (IsFresh t) hs → total f (views_of_all hs) ≡ length hs * (f new_observer + 64 * f new_stake)
  all_fresh_total t [] all = omega arith
  all_fresh_total t (h ∷ hs) all =
      let whole = total_append f (views_of h) (views_of_all hs) in
      let here = fresh_total t h (all 0 h (omega arith)) in
      let rest = all_fresh_total t hs (λ k d less. all (suc k) d (omega arith)) in
      omega arith

began_le : (lock : ℕ) (v : View) → began lock v ≤ observers v
began_le lock (First o s) = omega arith
began_le lock (Observer w) = one_if_le _
began_le lock (Stake stage seen) = omega arith

knows_le : (lock : ℕ) (v : View) → knows_drained lock v ≤ observers v
knows_le lock (First o s) = omega arith
knows_le lock (Observer w) = one_if_le _
knows_le lock (Stake stage seen) = omega arith

abbrev parties : View → ℕ
parties v = observers v + stakes v

saw_le : (lock : ℕ) (v : View) → saw lock v ≤ parties v
saw_le lock (First o s) = omega arith
saw_le lock (Observer w) = let le = one_if_le (flag w.saw lock) in omega arith
saw_le lock (Stake stage seen) = let le = one_if_le (is_named lock seen) in omega arith

total_sum : (f g : View → ℕ) (views : List View) → total (λ v. f v + g v) views ≡ total f views + total g views
total_sum f g [] = omega arith
total_sum f g (v ∷ vs) = let rest = total_sum f g vs in omega arith

pub all_idle : (t : TableId) (locks : ℕ) (hs : List Holder) → All (IsFresh t) hs → IsAllIdle (parties_of locks (length hs)) hs
all_idle t locks hs fresh state r among lock =
    let vs = views_of_all hs in
    let eye = blank_observer lock in
    let foot = blank_stake lock in
    let o : total observers vs ≡ total observers state.views = all_fresh_total observers t hs fresh ∙ (omega arith ∙ sym r.all_observers) in
    let s : total stakes vs ≡ total stakes state.views = all_fresh_total stakes t hs fresh ∙ (omega arith ∙ sym r.all_stakes) in
    let p : total parties vs ≡ total parties state.views = total_sum observers stakes vs ∙ ((λ i. o i + s i) ∙ sym (total_sum observers stakes state.views)) in
    let b = same_total (began lock) observers (began_le lock) vs state.views among o in
    let u = same_total (staked lock) stakes (staked_is_one lock) vs state.views among s in
    let z = same_total (saw lock) parties (saw_le lock) vs state.views among p in
    let k = same_total (knows_drained lock) observers (knows_le lock) vs state.views among o in
    let none_began : total (began lock) state.views ≡ 0 = sym b ∙ (all_fresh_total (began lock) t hs fresh ∙ none _ _ eye.began_none foot.began_none) in
    let none_staked : total (staked lock) state.views ≡ 0 = sym u ∙ (all_fresh_total (staked lock) t hs fresh ∙ none _ _ eye.staked_none foot.staked_none) in
    let none_saw : total (saw lock) state.views ≡ 0 = sym z ∙ (all_fresh_total (saw lock) t hs fresh ∙ none _ _ eye.saw_none foot.saw_none) in
    let none_knows : total (knows_drained lock) state.views ≡ 0 = sym k ∙ (all_fresh_total (knows_drained lock) t hs fresh ∙ none _ _ eye.knows_none foot.knows_none) in (
      dite (native.Mathlib.Decide.dec_le (length state.words) lock)
          (λ past. get_or_past state.words lock 0 past)
          (λ inside. let is = r.word_is lock (omega arith) in omega arith),
      none_began,
      none_staked,
      none_saw,
      none_knows,
    )
  where
    none : (a c : ℕ) → a ≡ 0 → c ≡ 0 → length hs * (a + 64 * c) ≡ 0
    none a c ea ec = let z : length hs * (a + 64 * c) ≡ length hs * 0 = ap (λ n. length hs * n) (omega arith) in omega arith
