-- What a step at one slot makes of a table that stands for the machine.
use Rattle.std.proofs.Common.{◌≡◌, ◌≢◌, ◌⊎◌, inl, inr, ℕ, zero, suc, ◌+◌, ◌*◌, ◌%◌, ◌<◌, Bool, true, false, not, ◌&&◌, eqb, eq-eqb, ne_eqb, List, [], ◌∷◌, length, get_or, set, Some, None, refl, sym, ap, ◌∙◌, subst, arith, length-set, get_or-set_same, get_or-set_other}
use mathlib.Core.Logic.{dite}
use mathlib.Core.Option.{Option as Found, some}
use native.Mathlib.Decide.{ℕ_discrete}
use lib.ListN.{get_elem?}
use Rattle.atomic_table.proofs.Lists.{set_here, set_else}
use Rattle.irp_slots.specs.declared.views.Owning.{Owning}
use Rattle.irp_slots.specs.declared.views.Asking.{Asking}
use Rattle.irp_slots.specs.declared.views.View.{View}
use Rattle.irp_slots.specs.declared.views.View.TheVariants.{Owner, Canceller}
use Rattle.irp_slots.specs.declared.views.Parties.{Parties}
use Rattle.irp_slots.specs.Core.{Kept, content_of, flag_of, is_begun, is_standing, owns, published, one_if as as_one}
use Rattle.irp_slots.proofs.Totals.{alone, published_view}
use Rattle.irp_plain.specs.declared.parts.Change.{Change}
use Rattle.irp_plain.specs.declared.parts.ActPlace.{ActPlace}
use Rattle.irp_machine.specs.declared.parts.Planned.{Planned}
use Rattle.irp_plain.specs.declared.parts.Slot.{Slot}
use Rattle.irp_machine.specs.Machine.{RulesValue}
use Rattle.irp_machine.specs.Openings.{empty_slot}
use Rattle.irp_plain.specs.Seats.{SeatValue, new_seat, after_step}
use Rattle.irp_machine.specs.Standings.{StandingValue, after_change, with_slot}
use Rattle.irp_machine_laws.specs.Seats.{one_if, over_seats}
use Rattle.irp_machine_laws.specs.SlotSteps.{moved}
use Rattle.irp_machine_laws.specs.SlotTables.{SlotTable, StandsFor, IsOwned, IsAsking, asker_no, owner_no, asked, finds, found, is_published, put, puts}
use Rattle.irp_machine_laws.proofs.LockShift.{item_set}
use Rattle.irp_machine_laws.proofs.SlotShift.{over_puts, over_finds, owned_still, shifted, slot_at}

-- an item that is there has a place
pub there_below : {X : Type 0} (items : List X) (place : ℕ) (item : X) → get_elem? items place ≡ some item → place < length items
there_below [] place item is = absurd (let bad : ⊥ = cc in bad)
there_below (first ∷ items) zero item is = omega arith
there_below (first ∷ items) (suc place) item is = let rest = there_below items place item is in omega arith

-- ---- words

pub content_here : (words : List ℕ) (k left : ℕ) → 2 * k + 1 < length words → content_of (set words (2 * k + 1) left) k ≡ left
content_here words k left room = get_or-set_same words (2 * k + 1) left 0 room

pub content_else : (words : List ℕ) (k left j : ℕ) → j ≢ k → content_of (set words (2 * k + 1) left) j ≡ content_of words j
content_else words k left j ne = get_or-set_other words (2 * k + 1) (2 * j + 1) left 0 (λ e. ne (omega arith))

pub flag_same : (words : List ℕ) (k left j : ℕ) → flag_of (set words (2 * k + 1) left) j ≡ flag_of words j
flag_same words k left j = get_or-set_other words (2 * k + 1) (2 * j) left 0 (λ e. absurd (omega arith))

pub flag_here : (words : List ℕ) (k left : ℕ) → 2 * k < length words → flag_of (set words (2 * k) left) k ≡ left
flag_here words k left room = get_or-set_same words (2 * k) left 0 room

pub flag_else : (words : List ℕ) (k left j : ℕ) → j ≢ k → flag_of (set words (2 * k) left) j ≡ flag_of words j
flag_else words k left j ne = get_or-set_other words (2 * k) (2 * j) left 0 (λ e. ne (omega arith))

pub content_same : (words : List ℕ) (k left j : ℕ) → content_of (set words (2 * k) left) j ≡ content_of words j
content_same words k left j = get_or-set_other words (2 * k) (2 * j + 1) left 0 (λ e. absurd (omega arith))

-- a seat that is in no request behind a step asks no more
pub asks_less : (slots : ℕ) (acts : List Planned) (one other : SeatValue) (view : Found View) → asked acts other ≡ None
    → ((k : ℕ) → put acts other ≡ Some k → k < slots) → ((k : ℕ) → found acts other ≡ Some k → k < slots) → IsAsking slots acts one view → IsAsking slots acts other view
asks_less slots acts one other view none putting finding is = record {
  asking = is.asking;
  at = is.at;
  flagged_long = is.flagged_long;
  ended_long = is.ended_long;
  has_flagged = λ k e. absurd (let bad : ⊥ = cc in bad);
  put_inside = putting;
  found_inside = finding;
}

-- what an owner finds in its slot is what it published, or nothing
pub own_found : (key : Parties) (s : SlotTable) → Kept key s → (id : ℕ) (o : Owning) → get_elem? s.views id ≡ some (Owner o) → o.slot < key.slots
    → (content_of s.words o.slot ≡ 0) ⊎ (content_of s.words o.slot ≡ o.published)
own_found key s r id o at inside =
    let there : ℕ = content_of s.words o.slot in
    dite (ℕ_discrete there 0) (λ e. inl e) (λ some_use.
    dite (ℕ_discrete there o.published) (λ e. inr e) (λ ne.
    let less : 0 < there = omega arith in
    let all = r.places o.slot there inside less in
    let one = r.one_owner o.slot inside in
    let content = ap as_one (eq-eqb there there refl) in
    let mine : owns o.slot (Owner o) ≡ 1 = ap as_one (eq-eqb o.slot o.slot refl) in
    let others = alone (published o.slot there) (owns o.slot) (published_view o.slot there) s.views id (Owner o) at in
    let away : published o.slot there (Owner o) ≡ 0 = ap (λ (b : Bool). as_one (is_begun o.stage && (eqb o.slot o.slot && b))) (ne_eqb o.published there (λ e. ne (sym e))) ∙ nothing (is_begun o.stage) (eqb o.slot o.slot) in
    absurd (omega arith)))
  where
    nothing : (a b : Bool) → as_one (a && (b && false)) ≡ 0
    nothing true true = refl
    nothing true false = refl
    nothing false b = refl

module _ (rules : RulesValue) (standing : StandingValue) (key : Parties) (table : SlotTable) (r : StandsFor rules standing key table) (seat : ℕ) (below : seat < length standing.seats)
    (which : ActPlace) (step : Change) where
  abbrev own : SeatValue
  own = get_or standing.seats seat new_seat

  abbrev acts : List Planned
  acts = get_or rules.acts seat []

  abbrev after : SeatValue
  after = after_step step which rules.tells own

  abbrev new : StandingValue
  new = after_change seat step which rules.tells standing

  -- what a step at one slot makes of the slots
  pub record Wrote (k : ℕ) (slot : Slot) : Type 0 where
    pub slots_long : length new.slots ≡ length standing.slots
    pub slot_here : slot_at new k ≡ slot
    pub slots_else : (j : ℕ) → j ≢ k → slot_at new j ≡ slot_at standing j

  pub wrote : (k : ℕ) (slot : Slot) → k < length standing.slots → step.slot ≡ Some (record { number = k; slot = slot }) → Wrote k slot
  wrote k slot less is =
      let slots : new.slots ≡ set standing.slots k slot = (λ i. with_slot (is i) standing.slots) ∙ item_set k slot standing.slots less in
      record {
        slots_long = ap length slots ∙ length-set standing.slots k slot;
        slot_here = ap (λ (s : List Slot). get_or s k empty_slot) slots ∙ get_or-set_same standing.slots k slot empty_slot less;
        slots_else = λ j ne. ap (λ (s : List Slot). get_or s j empty_slot) slots ∙ get_or-set_other standing.slots k j slot empty_slot ne;
      }

  pub wrote_none : (k : ℕ) → step.slot ≡ None → Wrote k (slot_at standing k)
  wrote_none k is =
      let slots : new.slots ≡ standing.slots = λ i. with_slot (is i) standing.slots in
      record {
        slots_long = ap length slots;
        slot_here = ap (λ (s : List Slot). get_or s k empty_slot) slots;
        slots_else = λ j ne. ap (λ (s : List Slot). get_or s j empty_slot) slots;
      }

  -- a step counts at one slot alone
  pub record Turns (k : ℕ) : Type 0 where
    pub puts_else : (j : ℕ) → j ≢ k → puts j acts after ≡ puts j acts own
    pub finds_else : (j : ℕ) → j ≢ k → finds j acts after ≡ finds j acts own

  -- words that differ at one slot alone
  pub record Differs (k : ℕ) (words : List ℕ) : Type 0 where
    pub flags_else : (j : ℕ) → j ≢ k → flag_of words j ≡ flag_of table.words j
    pub contents_else : (j : ℕ) → j ≢ k → content_of words j ≡ content_of table.words j

  -- the owner of a slot changes its view
  pub owner_moves : (k : ℕ) → k < key.slots → (word left : ℕ) (slot : Slot) (o : Owning) → Kept key (moved table word left (owner_no k) (Owner o))
      → Differs k (set table.words word left) → Wrote k slot → Turns k → o.slot ≡ k
      → flag_of (set table.words word left) k % 2 ≡ one_if slot.flag → content_of (set table.words word left) k ≡ slot.content → slot.used ≡ is_begun o.stage → slot.stands ≡ is_standing o.stage
      → over_seats (puts k) rules.acts new.seats ≡ one_if (is_published o.stage && not o.found_set)
      → over_seats (finds k) rules.acts new.seats ≡ one_if (is_published o.stage && o.found_set)
      → IsAsking key.slots acts after (get_elem? table.views (asker_no key.slots seat))
      → StandsFor rules new key (moved table word left (owner_no k) (Owner o))
  owner_moves k less word left slot o kept differs writes turns own_is flag_is content_is used_is stands_is puts_is finds_is asks =
      let is = r.owned k less in
      let away : (other : ℕ) → get_elem? (set table.views (owner_no k) (Owner o)) (asker_no key.slots other) ≡ get_elem? table.views (asker_no key.slots other) =
      λ other. set_else table.views (owner_no k) (asker_no key.slots other) (Owner o) (λ e. absurd (omega arith)) in
      shifted rules standing key table r seat below which step (moved table word left (owner_no k) (Owner o)) kept r.homes writes.slots_long
      (λ j inside. dite (ℕ_discrete j k)
      (λ e. subst (λ (j : ℕ). IsOwned (moved table word left (owner_no k) (Owner o)) j (slot_at new j) (over_seats (puts j) rules.acts new.seats) (over_seats (finds j) rules.acts new.seats)) (sym e)
      (subst (λ (s : Slot). IsOwned (moved table word left (owner_no k) (Owner o)) k s (over_seats (puts k) rules.acts new.seats) (over_seats (finds k) rules.acts new.seats)) (sym writes.slot_here)
      (record {
        owning = o;
        at = set_here table.views (owner_no k) (Owner o) (there_below table.views (owner_no k) (Owner is.owning) is.at);
        own = own_is;
        flag_is = flag_is;
        content_is = content_is;
        used_is = used_is;
        stands_is = stands_is;
        puts_is = puts_is;
        finds_is = finds_is;
      })))
      (λ ne. owned_still rules standing key table r seat below which step (moved table word left (owner_no k) (Owner o)) j inside (differs.flags_else j ne) (differs.contents_else j ne)
      (set_else table.views (owner_no k) (owner_no j) (Owner o) (λ e. ne (omega arith))) (writes.slots_else j ne) (turns.puts_else j ne) (turns.finds_else j ne)))
      (subst (λ (v : Found View). IsAsking key.slots acts after v) (sym (away seat)) asks)
      (λ other ne. away other)

  -- the party that asks for the seat changes its view
  pub asker_moves : (k : ℕ) → k < key.slots → (word left : ℕ) (slot : Slot) (a : Asking) → Kept key (moved table word left (asker_no key.slots seat) (Canceller a))
      → Differs k (set table.words word left) → Wrote k slot → ((j : ℕ) → puts j acts after ≡ puts j acts own) → ((j : ℕ) → finds j acts after ≡ finds j acts own)
      → flag_of (set table.words word left) k % 2 ≡ one_if slot.flag → content_of (set table.words word left) k ≡ slot.content → slot.used ≡ (slot_at standing k).used → slot.stands ≡ (slot_at standing k).stands
      → IsAsking key.slots acts after (some (Canceller a))
      → StandsFor rules new key (moved table word left (asker_no key.slots seat) (Canceller a))
  asker_moves k less word left slot a kept differs writes puts_same finds_same flag_is content_is used_is stands_is asks =
      let is = r.owned k less in
      let before = r.askers seat below in
      let here : get_elem? (set table.views (asker_no key.slots seat) (Canceller a)) (asker_no key.slots seat) ≡ some (Canceller a) =
      set_here table.views (asker_no key.slots seat) (Canceller a) (there_below table.views (asker_no key.slots seat) (Canceller before.asking) before.at) in
      let away : (j : ℕ) → j < key.slots → get_elem? (set table.views (asker_no key.slots seat) (Canceller a)) (owner_no j) ≡ get_elem? table.views (owner_no j) =
      λ j inside. set_else table.views (asker_no key.slots seat) (owner_no j) (Canceller a) (λ e. absurd (omega arith)) in
      shifted rules standing key table r seat below which step (moved table word left (asker_no key.slots seat) (Canceller a)) kept r.homes writes.slots_long
      (λ j inside. dite (ℕ_discrete j k)
      (λ e. subst (λ (j : ℕ). IsOwned (moved table word left (asker_no key.slots seat) (Canceller a)) j (slot_at new j) (over_seats (puts j) rules.acts new.seats) (over_seats (finds j) rules.acts new.seats)) (sym e)
      (subst (λ (s : Slot). IsOwned (moved table word left (asker_no key.slots seat) (Canceller a)) k s (over_seats (puts k) rules.acts new.seats) (over_seats (finds k) rules.acts new.seats)) (sym writes.slot_here)
      (record {
        owning = is.owning;
        at = away k less ∙ is.at;
        own = is.own;
        flag_is = flag_is;
        content_is = content_is;
        used_is = used_is ∙ is.used_is;
        stands_is = stands_is ∙ is.stands_is;
        puts_is = let p = puts_same k in let q = over_puts rules standing key table r seat below which step k in
            let same : over_seats (puts k) rules.acts new.seats ≡ over_seats (puts k) rules.acts standing.seats = omega arith in same ∙ is.puts_is;
        finds_is = let p = finds_same k in let q = over_finds rules standing key table r seat below which step k in
            let same : over_seats (finds k) rules.acts new.seats ≡ over_seats (finds k) rules.acts standing.seats = omega arith in same ∙ is.finds_is;
      })))
      (λ ne. owned_still rules standing key table r seat below which step (moved table word left (asker_no key.slots seat) (Canceller a)) j inside (differs.flags_else j ne) (differs.contents_else j ne)
      (away j inside) (writes.slots_else j ne) (puts_same j) (finds_same j)))
      (subst (λ (v : Found View). IsAsking key.slots acts after v) (sym here) asks)
      (λ other ne. set_else table.views (asker_no key.slots seat) (asker_no key.slots other) (Canceller a) (λ e. ne (omega arith)))

  -- nothing happens at the table
  pub nothing_moves : step.slot ≡ None → ((j : ℕ) → puts j acts after ≡ puts j acts own) → ((j : ℕ) → finds j acts after ≡ finds j acts own)
      → IsAsking key.slots acts after (get_elem? table.views (asker_no key.slots seat)) → StandsFor rules new key table
  nothing_moves none puts_same finds_same asks =
      let slots : new.slots ≡ standing.slots = λ i. with_slot (none i) standing.slots in
      shifted rules standing key table r seat below which step table r.kept r.homes (ap length slots)
      (λ j inside. owned_still rules standing key table r seat below which step table j inside refl refl refl (ap (λ (s : List Slot). get_or s j empty_slot) slots) (puts_same j) (finds_same j))
      asks (λ other ne. refl)
