use Rattle.std.proofs.Common.{ap, sym, ◌∙◌, ◌≡◌}
use mathlib.Core.Bool.{true≢false}
use Rattle.std.specs.Bool.{Decides}
use Rattle.std.proofs.lemmas.Bool.Decides.{Decides-at}
use Rattle.std.specs.Cmp.{booleans_Decides, unsigned_Decides}
use Rattle.irp_types.specs.declared.entry.Entry.{Entry}
use Rattle.irp_types.proofs.Deciding.{call, lock, option, reply, where_true, where_false}
use Rattle.irp_types.proofs.entry.Entry.is_same.Goals as goal
use Rattle.irp_types.proofs.entry.Entry.is_same.Goals.{Joined-self-other-3, then-self-other, else-self-other, then-self-other-2, else-self-other-2, then-eq, else-eq, then-eq-2, else-eq-2, then-self-other-3, else-self-other-3}

-- what the fields before the questions say, in the order of their tests
abbrev Numbered : Entry → Entry → Type 0
Numbered one other = (one.number ≡ other.number) × (one.seat ≡ other.seat)

abbrev Called : Entry → Entry → Type 0
Called one other = Numbered one other × (one.call ≡ other.call)

abbrev Locked : Entry → Entry → Type 0
Locked one other = Called one other × (one.lock ≡ other.lock)

abbrev Drained : Entry → Entry → Type 0
Drained one other = Locked one other × (one.drained ≡ other.drained)

abbrev Replied : Entry → Entry → Type 0
Replied one other = Drained one other × (one.reply ≡ other.reply)

-- such entries are equal where their questions are
entries : (one other : Entry) → Replied one other → one.asked ≡ other.asked → one ≡ other
entries one other h asked =
    λ i. record { number = h.0.0.0.0.0 i; seat = h.0.0.0.0.1 i; call = h.0.0.0.1 i; lock = h.0.0.1 i; drained = h.0.1 i; asked = asked i; reply = h.1 i }

replied : (one other : Entry) → one ≡ other → Replied one other
replied one other e = (((((ap (λ z. z.number) e, ap (λ z. z.seat) e), ap (λ z. z.call) e), ap (λ z. z.lock) e), ap (λ z. z.drained) e), ap (λ z. z.reply) e)

-- the tests of the fields before the questions
tests : (c : Joined-self-other-3) → Decides c.if-self-other-3.value (Replied c.args.self.now c.args.other.now)
tests c =
    let one = c.args.self.now in
    let other = c.args.other.now in
    let numbered : Decides c.if-self-other.value (Numbered one other) =
    elim c.if-self-other.branch [
      | then-self-other w ↦ where_true ((unsigned_Decides _ _).1 w.if-self-other.true) w.value-is (unsigned_Decides _ _) (unsigned_Decides _ _)
      | else-self-other w ↦ (λ e. absurd (w.if-self-other.false ((unsigned_Decides _ _).0 (sym w.value-is ∙ e))), λ h. absurd (w.if-self-other.false h.0))
    ]
    in
    let called : Decides c.if-self-other-2.value (Called one other) =
    elim c.if-self-other-2.branch [
      | then-self-other-2 w ↦ where_true w.if-self-other-2.true w.value-is numbered (Decides-at _ _ w.eq.ensures (call _ _))
      | else-self-other-2 w ↦ where_false w.if-self-other-2.false w.value-is numbered
    ]
    in
    let locked : Decides c.if-eq.value (Locked one other) =
    elim c.if-eq.branch [
      | then-eq w ↦ where_true w.if-eq.true w.value-is called (Decides-at _ _ w.eq-then-eq.ensures (option lock _ _))
      | else-eq w ↦ where_false w.if-eq.false w.value-is called
    ]
    in
    let drained : Decides c.if-eq-2.value (Drained one other) =
    elim c.if-eq-2.branch [
      | then-eq-2 w ↦ where_true w.if-eq-2.true w.value-is locked (booleans_Decides _ _)
      | else-eq-2 w ↦ where_false w.if-eq-2.false w.value-is locked
    ]
    in
    elim c.if-self-other-3.branch [
      | then-self-other-3 w ↦ where_true w.if-self-other-3.true w.value-is drained (Decides-at _ _ w.eq-then-self-other-3.ensures (reply _ _))
      | else-self-other-3 w ↦ where_false w.if-self-other-3.false w.value-is drained
    ]

pub returns-then-eq-3 : goal.returns-then-eq-3
returns-then-eq-3 c =
    let h = tests (goal.at.returns-then-eq-3 c).Joined-self-other-3 in (
      λ e. entries _ _ (h.0 c.if-eq-3.true) (sym c.as_slice.ensures ∙ c.are_same.ensures.0 e ∙ c.as_slice-then-eq-3.ensures),
      λ e. c.are_same.ensures.1 (c.as_slice.ensures ∙ ap (λ z. z.asked) e ∙ sym c.as_slice-then-eq-3.ensures),
    )

pub returns-else-eq-3 : goal.returns-else-eq-3
returns-else-eq-3 c =
    let h = tests (goal.at.returns-else-eq-3 c).Joined-self-other-3 in
    (λ e. absurd (true≢false (sym e ∙ c.if-eq-3.false)), λ e. h.1 (replied _ _ e))
