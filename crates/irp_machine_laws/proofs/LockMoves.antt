-- Each step of a party at a table of locks keeps the rule, and is one that it allows.
use Rattle.std.proofs.Common.{◌≡◌, ◌≢◌, ℕ, ◌+◌, ◌-◌, ◌%◌, ◌<◌, ◌≤◌, bit_or, List, [], ◌∷◌, length, get_or, set, refl, ap, sym, subst, ◌∙◌, arith}
use mathlib.Core.Option.{Option, some}
use lib.ListN.{get_elem?}
use Rattle.atomic_table.specs.Table.{Act, keeps, takes, gives, chain, homes_after, carried_after, stepped}
use Rattle.irp_remove.specs.declared.views.Stage.{Stage}
use Rattle.irp_remove.specs.declared.views.Stage.TheVariants.{Idle}
use Rattle.irp_remove.specs.declared.views.Watch.{Watch}
use Rattle.irp_remove.specs.declared.views.View.{View}
use Rattle.irp_remove.specs.declared.views.View.TheVariants.{Observer, Stake}
use Rattle.irp_remove.specs.declared.views.Parties.{Parties}
use Rattle.irp_remove.specs.Core.{Kept, IsEvent, at_stage, staked, acquired, given_back, begun, looked}
use Rattle.irp_remove.proofs.Steps.{word_facts, acquire_allowed, give_back_allowed}
use Rattle.irp_remove.proofs.Observing.{begin_allowed, look_allowed}
use Rattle.irp_remove.proofs.Totals.{part_of_total}
use Rattle.irp_machine_laws.specs.LockTables.{LockTable}
use Rattle.irp_machine_laws.specs.LockSteps.{word_of, moved}

-- no act makes a home where there is none
no_homes : {S : Type 0} (carried : List (ℕ × S)) (act : Act S) → homes_after [] carried act ≡ []
no_homes carried keeps = refl
no_homes carried (takes k y) = refl
no_homes [] gives = refl
no_homes (x ∷ carried) gives = refl
no_homes carried (chain one other) =
    ap (λ homes. homes_after homes (carried_after carried one) other) (no_homes carried one) ∙ no_homes (carried_after carried one) other

first : {after : View × List (ℕ × Unit {0})} {view : View} → after ≡ (view, []) → after.0 ≡ view
first is = ap (λ (party : View × List (ℕ × Unit {0})). party.0) is

-- the rule is kept, and the step is one that it allows
pub record Moves (key : Parties) (table : LockTable) (lock word party : ℕ) (view view_after : View) : Type 0 where
  pub kept : Kept key (moved table lock word party view_after)
  pub event : IsEvent lock (word_of table lock) word view view_after

module _ (key : Parties) (table : LockTable) (kept : Kept key table) (homes : table.homes ≡ []) (lock : ℕ) (inside : lock < key.locks) where
  abbrev found : ℕ
  found = get_or table.words lock 0

  pub word_small : found ≤ 8193
  word_small = let facts = word_facts key table kept lock inside in omega (arith, facts.0, facts.1, facts.2)

  moves : (word given party : ℕ) (view view_after : View) → get_elem? table.views party ≡ some view → given ≡ word
      → ((w : View) × (act : Act (Unit {0})) × (w ≡ view_after) × Kept key (stepped table lock given party [] w act))
      → Moves key table lock word party view view_after
  moves word given party view view_after at is allowed =
      let same : homes_after table.homes [] allowed.1 ≡ table.homes =
      ap (λ homes. homes_after homes [] allowed.1) homes ∙ (no_homes [] allowed.1 ∙ sym homes) in
      let one = subst (λ (homes : List (Option (Unit {0}))). Kept key (record { words = set table.words lock given; homes = homes; views = set table.views party allowed.0 })) same allowed.3 in
      let two = subst (λ (word : ℕ). Kept key (record { words = set table.words lock word; homes = table.homes; views = set table.views party allowed.0 })) is one in
      let three = subst (λ (view : View). Kept key (moved table lock word party view)) allowed.2 two in
      record { kept = three; event = (key, table, party, kept, inside, at, refl, three) }

  -- a stake adds to a word
  pub adds : (tag party : ℕ) (seen : List ℕ) → get_elem? table.views party ≡ some (Stake Idle seen)
      → Moves key table lock (found + 2) party (Stake Idle seen) (acquired tag lock found (Stake Idle seen))
  adds tag party seen at =
      let small = word_small in
      let allowed = acquire_allowed key 0 party lock tag seen (Stake Idle seen, []) refl inside table kept (ap length homes) at (omega (arith, small)) in
      moves (found + 2) ((found + 2) % 18446744073709551616) party (Stake Idle seen) (acquired tag lock found (Stake Idle seen)) at (omega (arith, small))
      (allowed.0, allowed.1, first allowed.4.0, allowed.3)

  -- a stake that holds or tries a lock has 2 in its word
  pub two_there : (party : ℕ) (stage : Stage) (seen : List ℕ) → get_elem? table.views party ≡ some (Stake stage seen) → at_stage lock stage ≡ 1 → 2 ≤ found
  two_there party stage seen at here =
      let facts = word_facts key table kept lock inside in
      let some = part_of_total (staked lock) table.views party (Stake stage seen) at in
      omega (arith, facts.0, here, some)

  -- a stake takes from a word what it has added
  pub gives_up : (party : ℕ) (stage : Stage) (seen : List ℕ) → get_elem? table.views party ≡ some (Stake stage seen) → at_stage lock stage ≡ 1
      → ((k : ℕ) → k ≢ lock → at_stage k stage ≡ 0)
      → Moves key table lock (found - 2) party (Stake stage seen) (given_back (Stake stage seen))
  gives_up party stage seen at here nowhere =
      let small = word_small in
      let enough : 2 ≤ found = two_there party stage seen at here in
      let allowed = give_back_allowed key 0 party lock stage seen (Stake stage seen, []) refl inside here nowhere table kept (ap length homes) at (omega (arith, small)) in
      moves (found - 2) ((found + 18446744073709551614) % 18446744073709551616) party (Stake stage seen) (given_back (Stake stage seen)) at (omega (arith, small, enough))
      (allowed.0, allowed.1, first allowed.4.0, allowed.3)

  -- an observer sets a removed bit
  pub begins_it : (party : ℕ) (watch : Watch) → get_elem? table.views party ≡ some (Observer watch) → lock < length watch.began
      → Moves key table lock (bit_or found 1) party (Observer watch) (begun lock found (Observer watch))
  begins_it party watch at few =
      let small = word_small in
      let allowed = begin_allowed key 0 party lock watch (Observer watch, []) refl inside few table kept (ap length homes) at (omega (arith, small)) in
      moves (bit_or found 1) (bit_or found 1) party (Observer watch) (begun lock found (Observer watch)) at refl
      (allowed.0, allowed.1, first allowed.4.0, allowed.3)

  -- an observer reads a word
  pub looks_at : (party : ℕ) (watch : Watch) → get_elem? table.views party ≡ some (Observer watch)
      → Moves key table lock found party (Observer watch) (looked lock found (Observer watch))
  looks_at party watch at =
      let small = word_small in
      let allowed = look_allowed key 0 party lock watch (Observer watch, []) refl inside table kept (ap length homes) at (omega (arith, small)) in
      moves found found party (Observer watch) (looked lock found (Observer watch)) at refl
      (allowed.0, allowed.1, first allowed.4.0, allowed.3)
