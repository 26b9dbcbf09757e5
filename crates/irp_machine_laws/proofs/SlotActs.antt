-- Each step at a cancel slot is one at the table that the machine stands for.
use Rattle.std.proofs.Common.{◌≡◌, ℕ, ◌+◌, ◌*◌, ◌%◌, ◌<◌, Bool, true, false, not, ◌&&◌, ◌||◌, eq-eqb, ne_eqb, List, [], length, get_or, Some, None, if◌then◌else◌, refl, sym, ap, ◌∙◌, subst, arith}
use Rattle.std.specs.Prelude.{◌==◌}
use Rattle.std.proofs.lemmas.Bool.{false≢true}
use mathlib.Core.Option.{some}
use lib.ListN.{get_elem?}
use Rattle.irp_transcript.specs.declared.word_line.WordReply.TheVariants as reply
use Rattle.irp_slots.specs.declared.views.Stage.{Stage as OwnerStage}
use Rattle.irp_slots.specs.declared.views.Stage.TheVariants.{Idle, Published, Standing, Done}
use Rattle.irp_slots.specs.declared.views.Owning.{Owning}
use Rattle.irp_slots.specs.declared.views.View.{View}
use Rattle.irp_slots.specs.declared.views.View.TheVariants.{Owner}
use Rattle.irp_slots.specs.declared.views.Parties.{Parties}
use Rattle.irp_slots.specs.Core.{Kept, content_of, flag_of, is_begun, is_resting, is_standing, owner_checked, owning_checked}
use Rattle.irp_slots.proofs.Owners.{idle_if}
use Rattle.irp_slots.proofs.Steps.{publish_keeps, check_keeps, found_keeps}
use Rattle.irp_slots.proofs.Lawful.{rest_law}
use Rattle.irp_plain.specs.declared.parts.After.TheVariants.{In, Told}
use Rattle.irp_plain.specs.declared.parts.Change.{Change}
use Rattle.irp_plain.specs.declared.parts.ActPlace.{ActPlace}
use Rattle.irp_machine.specs.Conditions.{act_now}
use Rattle.irp_machine.specs.declared.parts.Planned.{Planned}
use Rattle.irp_plain.specs.declared.parts.Slot.{Slot}
use Rattle.irp_plain.specs.declared.parts.Stage.TheVariants as stages
use Rattle.irp_plain.specs.declared.answered.Answered.TheVariants.{Word}
use Rattle.irp_plain.specs.Changes as change
use Rattle.irp_machine.specs.Machine.{RulesValue}
use Rattle.irp_plain.specs.Seats.{SeatValue, new_seat, after_step}
use Rattle.irp_machine.specs.Standings.{StandingValue, after_change}
use Rattle.irp_machine_laws.specs.Seats.{one_if, over_seats}
use Rattle.irp_machine_laws.specs.SlotSteps.{moved, IsCheck, IsPublish}
use Rattle.irp_machine_laws.specs.SlotTables.{SlotTable, StandsFor, IsOwned, owner_no, finds, found, found_at, is_published, put, put_at, puts}
use Rattle.irp_machine_laws.proofs.LockActs.{by_test}
use Rattle.irp_machine_laws.proofs.Sums.{part_of_seats}
use Rattle.irp_machine_laws.proofs.SlotMoves.{asks_less, content_else, content_here, content_same, flag_else, flag_here, flag_same, owner_moves, wrote, wrote_none}
use Rattle.irp_machine_laws.proofs.SlotShift.{else_at, none_at, one_at, over_finds, over_puts, slot_at}

-- ---- stages of owners

published_if : (stage : OwnerStage) (set_found : Bool) → 0 < one_if (is_published stage && not set_found) → (stage ≡ Published) × (set_found ≡ false)
published_if Idle set_found less = absurd (omega arith)
published_if Published true less = absurd (omega arith)
published_if Published false less = (refl, refl)
published_if Standing set_found less = absurd (omega arith)
published_if Done set_found less = absurd (omega arith)

pub found_if : (stage : OwnerStage) (set_found : Bool) → 0 < one_if (is_published stage && set_found) → (stage ≡ Published) × (set_found ≡ true)
found_if Idle set_found less = absurd (omega arith)
found_if Published true less = (refl, refl)
found_if Published false less = absurd (omega arith)
found_if Standing set_found less = absurd (omega arith)
found_if Done set_found less = absurd (omega arith)

pub standing_if : (stage : OwnerStage) → is_standing stage ≡ true → stage ≡ Standing
standing_if Idle e = absurd (false≢true e)
standing_if Published e = absurd (false≢true e)
standing_if Standing e = refl
standing_if Done e = absurd (false≢true e)

or_true : (b : Bool) → (b || true) ≡ true
or_true true = refl
or_true false = refl

bit_of : (b : Bool) (n : ℕ) → n % 2 ≡ one_if b → (b ≡ true → n % 2 ≡ 1) × (b ≡ false → n % 2 ≡ 0)
bit_of true n e = (λ is. e, λ is. absurd (false≢true (sym is)))
bit_of false n e = (λ is. absurd (false≢true is), λ is. e)

odd_even : (n : ℕ) → n % 2 ≡ 1 → (n % 2 == 0) ≡ false
odd_even n e = ne_eqb (n % 2) 0 (λ z. absurd (omega arith))

module _ (rules : RulesValue) (standing : StandingValue) (key : Parties) (table : SlotTable) (r : StandsFor rules standing key table) (seat : ℕ) (below : seat < length standing.seats)
    (which : ActPlace) (k : ℕ) (inside : k < key.slots) where
  abbrev own : SeatValue
  own = get_or standing.seats seat new_seat

  abbrev acts : List Planned
  acts = get_or rules.acts seat []

  abbrev slot : Slot
  slot = slot_at standing k

  -- what a step leads to
  abbrev pub Leads : (Change → SlotTable → SlotTable → Type 0) → Change → Type 0
  Leads kind step = (new : SlotTable) × kind step table new × StandsFor rules (after_change seat step which rules.tells standing) key new

  is : IsOwned table k slot (over_seats (puts k) rules.acts standing.seats) (over_seats (finds k) rules.acts standing.seats)
  is = r.owned k inside

  abbrev o : Owning
  o = is.owning

  at : get_elem? table.views (owner_no k) ≡ some (Owner o)
  at = is.at

  inside_o : o.slot < key.slots
  inside_o = subst (λ (n : ℕ). n < key.slots) (sym is.own) inside

  less : k < length standing.slots
  less = let same = r.slots in omega arith

  content_room : 2 * k + 1 < length table.words
  content_room = let wide = r.kept.wide in omega arith

  flag_room : 2 * k < length table.words
  flag_room = let wide = r.kept.wide in omega arith

  abbrev there : ℕ
  there = content_of table.words k

  -- ---- the use is swapped in
  module _ (use_no : ℕ) (unused : slot.used ≡ false) (no_put : put acts own ≡ None) (no_found : found acts own ≡ None) (behind : put_at stages.Published (act_now acts own) ≡ Some k) where
    abbrev in_slot : Slot
    in_slot = record slot { content = use_no; used = true }

    abbrev in_step : Change
    in_step = record (change.only (In stages.Published)) { slot = Some (record { number = k; slot = in_slot }) }

    abbrev o_in : Owning
    o_in = record o { stage = Published; published = use_no; stood = false; found_set = false }

    idle : o.stage ≡ Idle
    idle = idle_if o.stage (sym unused ∙ is.used_is)

    kept_in : Kept key (moved table (2 * k + 1) use_no (owner_no k) (Owner o_in))
    kept_in = subst (λ (n : ℕ). Kept key (moved table (2 * n + 1) use_no (owner_no k) (Owner o_in))) is.own (publish_keeps key table r.kept (owner_no k) o idle at inside_o use_no)

    empty : there ≡ 0
    empty = subst (λ (n : ℕ). content_of table.words n ≡ 0) is.own (rest_law key table (owner_no k) o (r.kept, at, inside_o) (ap is_resting idle))

    pub swapped_in : Leads (IsPublish k) in_step
    swapped_in =
        let after : SeatValue = after_step in_step which rules.tells own in
        let before_puts = none_at k (put acts own) no_put in
        let after_puts : puts k acts after ≡ 1 = one_at k (put acts after) behind in
        let before_finds = none_at k (found acts own) no_found in
        let sum_puts = over_puts rules standing key table r seat below which in_step k in
        let sum_finds = over_finds rules standing key table r seat below which in_step k in
        let none_puts : one_if (is_published o.stage && not o.found_set) ≡ 0 = ap (λ (s : OwnerStage). one_if (is_published s && not o.found_set)) idle in
        let none_finds : one_if (is_published o.stage && o.found_set) ≡ 0 = ap (λ (s : OwnerStage). one_if (is_published s && o.found_set)) idle in
        let puts_is = is.puts_is in
        let finds_is = is.finds_is in
        let stands = owner_moves rules standing key table r seat below which in_step k inside (2 * k + 1) use_no in_slot o_in kept_in
        (record { flags_else = λ j ne. flag_same table.words k use_no j; contents_else = λ j ne. content_else table.words k use_no j ne })
        (wrote rules standing key table r seat below which in_step k in_slot less refl)
        (record { puts_else = λ j ne. else_at k j (put acts after) behind ne ∙ sym (none_at j (put acts own) no_put); finds_else = λ j ne. sym (none_at j (found acts own) no_found) })
        is.own (ap (λ (w : ℕ). w % 2) (flag_same table.words k use_no k) ∙ is.flag_is) (content_here table.words k use_no content_room)
        refl (is.stands_is ∙ ap is_standing idle) (omega arith) (omega arith)
        (asks_less key.slots acts own after _ refl (λ j e. let same : k ≡ j = let one : Some k ≡ Some j = sym behind ∙ e in cc in subst (λ (n : ℕ). n < key.slots) same inside) (λ j e. absurd (let bad : ⊥ = cc in bad)) (r.askers seat below)) in (
          moved table (2 * k + 1) use_no (owner_no k) (Owner o_in),
          record {
            owning = o;
            use_no = use_no;
            takes = (at, refl, (key, table, owner_no k, r.kept, omega arith, at, refl, kept_in));
            empty = empty;
            slot = in_slot;
            writes = refl;
            holds = refl;
            after = refl;
          },
          stands,
        )

  -- ---- the flag is read
  module _ (now : put acts own ≡ Some k) (no_found : found acts own ≡ None) where
    publishing : (o.stage ≡ Published) × (o.found_set ≡ false)
    publishing =
        let part = part_of_seats (puts k) rules.acts standing.seats seat below in
        let mine : puts k acts own ≡ 1 = one_at k (put acts own) now in
        let puts_is = is.puts_is in
        published_if o.stage o.found_set (omega arith)

    abbrev clear_slot : Slot
    clear_slot = record slot { stands = true }

    abbrev clear_step : Change
    clear_step = record (change.told reply.Standing) { slot = Some (record { number = k; slot = clear_slot }) }

    abbrev o_clear : Owning
    o_clear = record o { stage = Standing; stood = true }

    abbrev word : ℕ
    word = flag_of table.words k

    checks_clear : slot.flag ≡ false → Leads (IsCheck k) clear_step
    checks_clear clear =
        let even : word % 2 ≡ 0 = (bit_of slot.flag word is.flag_is).1 clear in
        let even_o = subst (λ (n : ℕ). flag_of table.words n % 2 ≡ 0) (sym is.own) even in
        let test : (word % 2 == 0) ≡ true = eq-eqb (word % 2) 0 even in
        let kept = subst (λ (n : ℕ). Kept key (moved table (2 * n) (flag_of table.words n) (owner_no k) (Owner o_clear))) is.own (check_keeps key table r.kept (owner_no k) o publishing.0 at inside_o even_o) in
        let view_is : owner_checked word (Owner o) ≡ Owner o_clear = ap (λ (b : Bool). Owner (owning_checked b o)) test in
        let after : SeatValue = after_step clear_step which rules.tells own in
        let before_puts = one_at k (put acts own) now in
        let before_finds = none_at k (found acts own) no_found in
        let sum_puts = over_puts rules standing key table r seat below which clear_step k in
        let sum_finds = over_finds rules standing key table r seat below which clear_step k in
        let one_puts : one_if (is_published o.stage && not o.found_set) ≡ 1 = λ i. one_if (is_published (publishing.0 i) && not (publishing.1 i)) in
        let none_finds : one_if (is_published o.stage && o.found_set) ≡ 0 = λ i. one_if (is_published (publishing.0 i) && publishing.1 i) in
        let puts_is = is.puts_is in
        let finds_is = is.finds_is in
        let stands = owner_moves rules standing key table r seat below which clear_step k inside (2 * k) word clear_slot o_clear kept
        (record { flags_else = λ j ne. flag_else table.words k word j ne; contents_else = λ j ne. content_same table.words k word j })
        (wrote rules standing key table r seat below which clear_step k clear_slot less refl)
        (record { puts_else = λ j ne. sym (else_at k j (put acts own) now ne); finds_else = λ j ne. sym (none_at j (found acts own) no_found) })
        is.own (ap (λ (w : ℕ). w % 2) (flag_here table.words k word flag_room) ∙ is.flag_is) (content_same table.words k word k ∙ is.content_is)
        (is.used_is ∙ ap is_begun publishing.0) refl (omega arith) (omega arith)
        (asks_less key.slots acts own after _ refl (λ j e. absurd (let bad : ⊥ = cc in bad)) (λ j e. absurd (let bad : ⊥ = cc in bad)) (r.askers seat below)) in
        let done = subst (λ (view : View). Kept key (moved table (2 * k) word (owner_no k) view)) (sym view_is) kept in (
          moved table (2 * k) word (owner_no k) (owner_checked word (Owner o)),
          record {
            owning = o;
            takes = (at, refl, (key, table, owner_no k, r.kept, omega arith, at, refl, done));
            after = sym (ap (λ (b : Bool). if b then Told (Word reply.Standing) else In stages.FoundSet) test);
          },
          subst (λ (view : View). StandsFor rules (after_change seat clear_step which rules.tells standing) key (moved table (2 * k) word (owner_no k) view)) (sym view_is) stands,
        )

    abbrev set_step : Change
    set_step = change.only (In stages.FoundSet)

    abbrev o_set : Owning
    o_set = record o { found_set = true }

    checks_set : found_at stages.FoundSet (act_now acts own) ≡ Some k → slot.flag ≡ true → Leads (IsCheck k) set_step
    checks_set behind flagged =
        let odd : word % 2 ≡ 1 = (bit_of slot.flag word is.flag_is).0 flagged in
        let odd_o = subst (λ (n : ℕ). flag_of table.words n % 2 ≡ 1) (sym is.own) odd in
        let test : (word % 2 == 0) ≡ false = odd_even word odd in
        let kept = subst (λ (n : ℕ). Kept key (moved table (2 * n) (flag_of table.words n) (owner_no k) (Owner o_set))) is.own (found_keeps key table r.kept (owner_no k) o publishing.0 at odd_o) in
        let view_is : owner_checked word (Owner o) ≡ Owner o_set = ap (λ (b : Bool). Owner (owning_checked b o)) test in
        let after : SeatValue = after_step set_step which rules.tells own in
        let before_puts = one_at k (put acts own) now in
        let before_finds = none_at k (found acts own) no_found in
        let after_finds : finds k acts after ≡ 1 = one_at k (found acts after) behind in
        let sum_puts = over_puts rules standing key table r seat below which set_step k in
        let sum_finds = over_finds rules standing key table r seat below which set_step k in
        let one_puts : one_if (is_published o.stage && not o.found_set) ≡ 1 = λ i. one_if (is_published (publishing.0 i) && not (publishing.1 i)) in
        let none_finds : one_if (is_published o.stage && o.found_set) ≡ 0 = λ i. one_if (is_published (publishing.0 i) && publishing.1 i) in
        let now_puts : one_if (is_published o.stage && false) ≡ 0 = ap (λ (s : OwnerStage). one_if (is_published s && false)) publishing.0 in
        let now_finds : one_if (is_published o.stage && true) ≡ 1 = ap (λ (s : OwnerStage). one_if (is_published s && true)) publishing.0 in
        let puts_is = is.puts_is in
        let finds_is = is.finds_is in
        let stands = owner_moves rules standing key table r seat below which set_step k inside (2 * k) word slot o_set kept
        (record { flags_else = λ j ne. flag_else table.words k word j ne; contents_else = λ j ne. content_same table.words k word j })
        (wrote_none rules standing key table r seat below which set_step k refl)
        (record { puts_else = λ j ne. sym (else_at k j (put acts own) now ne); finds_else = λ j ne. else_at k j (found acts after) behind ne ∙ sym (none_at j (found acts own) no_found) })
        is.own (ap (λ (w : ℕ). w % 2) (flag_here table.words k word flag_room) ∙ is.flag_is) (content_same table.words k word k ∙ is.content_is)
        is.used_is is.stands_is (omega arith) (omega arith)
        (asks_less key.slots acts own after _ refl (λ j e. absurd (let bad : ⊥ = cc in bad)) (λ j e. let same : k ≡ j = let one : Some k ≡ Some j = sym behind ∙ e in cc in subst (λ (n : ℕ). n < key.slots) same inside) (r.askers seat below)) in
        let done = subst (λ (view : View). Kept key (moved table (2 * k) word (owner_no k) view)) (sym view_is) kept in (
          moved table (2 * k) word (owner_no k) (owner_checked word (Owner o)),
          record {
            owning = o;
            takes = (at, refl, (key, table, owner_no k, r.kept, omega arith, at, refl, done));
            after = sym (ap (λ (b : Bool). if b then Told (Word reply.Standing) else In stages.FoundSet) test);
          },
          subst (λ (view : View). StandsFor rules (after_change seat set_step which rules.tells standing) key (moved table (2 * k) word (owner_no k) view)) (sym view_is) stands,
        )

    pub checks : found_at stages.FoundSet (act_now acts own) ≡ Some k → Leads (IsCheck k) (change.check k slot)
    checks behind = by_test (Leads (IsCheck k)) slot.flag set_step clear_step (checks_set behind) checks_clear
