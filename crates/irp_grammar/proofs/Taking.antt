-- Lines that are taken one after the other.
use Rattle.std.proofs.Common.{◌≡◌, ◌≢◌, ◌⊎◌, ◌-◌, inl, inr, ◌∙◌, ℕ, Bool, true, false, if◌then◌else◌, not, List, [], ◌∷◌, ◌++◌, Option, Some, None, append-nil, ap, refl, subst, sym}
use Rattle.std.proofs.lemmas.List.Elements.{filter-append}
use Rattle.irp_script_reader.specs.declared.refusal.Section.{Section}
use Rattle.irp_script_reader.specs.declared.refusal.Section.TheVariants as section
use Rattle.irp_grammar.specs.Lines.{lines_of, next_of}
use Rattle.irp_grammar.specs.Reading.{IsReadFrom, IsTaken, IsTakenIf, Line, Members, SayLines, SaySoFar, SaysAct, SaysBehind, SaysLine, SaysMember, SaysStack, SaysStep, SaysWords, added, attachments, heading, is_setup, members_of, nothing_said, of_others, of_steps, placed, steps_last, those, with_count, with_given}
use Rattle.irp_grammar.specs.Naming.{Given, one_more}
use Rattle.irp_grammar.specs.declared.said.Said.{Said}
use Rattle.irp_grammar.specs.declared.step_line.StepLine.{StepLine}

-- ---- what a line says leaves the faults as they are

abbrev pub Keeps : Members → Members → Type 0
Keeps old new = new.faults ≡ old.faults

steps_keep : (b : Bool) (more : List StepLine) (given : Given) (old new : Members) → new ≡ added b more (with_given given old)
    → Keeps old new
steps_keep true more given old new is = ap (λ (some : Members). some.faults) is
steps_keep false more given old new is = ap (λ (some : Members). some.faults) is

step_keeps : (its : Section) (words rest : List (List ℕ)) (old new : Members) → SaysStep its words rest old new → Keeps old new
step_keeps its words rest old new says = by says.7
  where
    by : SaysAct its says.3 says.4 says.1 rest (with_given says.2 old) new ⊎ SaysStack its says.3 says.4 says.1 rest (with_given says.2 old) new
        → Keeps old new
    by (inl one) = steps_keep (is_setup its) (one.0 ∷ []) one.1 old new one.4
    by (inr some) =
        let stack = some.1 in
        steps_keep (is_setup its) (attachments (stack.created.given.devices - one_more says.2.devices) says.3 says.4 (one_more says.2.devices))
        stack.created.given stack.created new stack.is
        ∙ steps_keep (is_setup its) stack.creates.steps stack.creates.given old stack.created stack.creates.is

count_keeps : (its : Section) (number : ℕ) (given : Given) (old new : Members) → new ≡ with_count its number (with_given given old) → Keeps old new
count_keeps section.Seats number given old new is = ap (λ (some : Members). some.faults) is
count_keeps section.Locks number given old new is = ap (λ (some : Members). some.faults) is
count_keeps section.Slots number given old new is = ap (λ (some : Members). some.faults) is
count_keeps section.Top number given old new is = ap (λ (some : Members). some.faults) is
count_keeps section.Completions number given old new is = ap (λ (some : Members). some.faults) is
count_keeps section.Cancels number given old new is = ap (λ (some : Members). some.faults) is
count_keeps section.Dispatches number given old new is = ap (λ (some : Members). some.faults) is
count_keeps section.Drivers number given old new is = ap (λ (some : Members). some.faults) is
count_keeps section.Setup number given old new is = ap (λ (some : Members). some.faults) is
count_keeps section.Steps number given old new is = ap (λ (some : Members). some.faults) is

member_keeps : (its : Section) (words rest : List (List ℕ)) (old new : Members) → SaysMember its words rest old new → Keeps old new
member_keeps section.Completions words rest old new says = ap (λ (some : Members). some.faults) says.5
member_keeps section.Cancels words rest old new says = ap (λ (some : Members). some.faults) says.5
member_keeps section.Dispatches words rest old new says = ap (λ (some : Members). some.faults) says.6
member_keeps section.Drivers words rest old new says = ap (λ (some : Members). some.faults) says.5
member_keeps section.Setup words rest old new says = step_keeps section.Setup words rest old new says
member_keeps section.Steps words rest old new says = step_keeps section.Steps words rest old new says
member_keeps section.Top words rest old new says = count_keeps says.0 says.1 says.2 old new says.5
member_keeps section.Seats words rest old new says = count_keeps says.0 says.1 says.2 old new says.5
member_keeps section.Locks words rest old new says = count_keeps says.0 says.1 says.2 old new says.5
member_keeps section.Slots words rest old new says = count_keeps says.0 says.1 says.2 old new says.5

behind_keeps : (headed : Option Section) (its : Section) (words rest : List (List ℕ)) (old new : Members)
    → SaysBehind headed its words rest old new → Keeps old new
behind_keeps (Some headed) its words rest old new says = ap (λ (some : Members). some.faults) says.1
behind_keeps None its words rest old new says = member_keeps its words rest old new says

words_keep : (headed : Option Section) (its : Section) (words : List (List ℕ)) (old new : Members) → SaysWords headed its words old new → Keeps old new
words_keep headed its words old new says = behind_keeps headed its words says.0 old new says.1

line_keeps : (line : Line) (old new : Members) → SaysLine line old new → Keeps old new
line_keeps line old new says = words_keep (heading (next_of line.1)) line.0 line.1 old new says

lines_keep : (lines : List Line) (old new : Members) → SayLines lines old new → Keeps old new
lines_keep [] old new is = ap (λ (some : Members). some.faults) is
lines_keep (line ∷ lines) old new say = lines_keep lines say.0 new say.2 ∙ line_keeps line old say.0 say.1

-- ---- lines, and those behind them

say_more : (lines : List Line) (line : Line) (old between new : Members) → SayLines lines old between → SaysLine line between new → SayLines (lines ++ line ∷ []) old new
say_more [] line old between new is says = (new, subst (λ (old : Members). SaysLine line old new) is says, refl)
say_more (one ∷ lines) line old between new say says =
    (say.0, say.1, say_more lines line say.0 between new say.2 says)

say_both : (one other : List Line) (old between new : Members) → SayLines one old between → SayLines other between new → SayLines (one ++ other) old new
say_both [] other old between new is say = subst (λ (old : Members). SayLines other old new) is say
say_both (line ∷ one) other old between new say others =
    (say.0, say.1, say_both one other say.0 between new say.2 others)

-- ---- those of some lines that stand in `steps`, or all others

those_more : (b : Bool) (lines : List Line) (line : Line) → those b (lines ++ line ∷ []) ≡ those b lines ++ those b (line ∷ [])
those_more true lines line = filter-append of_steps lines (line ∷ [])
those_more false lines line = filter-append of_others lines (line ∷ [])

is_one : (b : Bool) (line : Line) → of_steps line ≡ b → those b (line ∷ []) ≡ line ∷ []
is_one true line is = ap (λ (its : Bool). if its then line ∷ [] else []) is
is_one false line is = ap (λ (its : Bool). if not its then line ∷ [] else []) is

is_other : (b : Bool) (line : Line) → of_steps line ≡ not b → those b (line ∷ []) ≡ []
is_other true line is = ap (λ (its : Bool). if its then line ∷ [] else []) is
is_other false line is = ap (λ (its : Bool). if not its then line ∷ [] else []) is

-- no line was taken
pub takes_none : (b : Bool) (old : Members) → SaySoFar (those b []) old old
takes_none true old none = refl
takes_none false old none = refl

-- one more is one of those, and is taken
takes_one : (b : Bool) (lines : List Line) (line : Line) (old between new : Members) → of_steps line ≡ b
    → SaySoFar (those b lines) old between → IsTaken line between new → SaySoFar (those b (lines ++ line ∷ [])) old new
takes_one b lines line old between new its so_far taken none = by taken
  where
    by : IsTaken line between new → SayLines (those b (lines ++ line ∷ [])) old new
    by (inl some) = absurd (some none)
    by (inr says) =
        let before = so_far (sym (line_keeps line between new says) ∙ none) in
        let all = those_more b lines line ∙ ap (λ (some : List Line). those b lines ++ some) (is_one b line its) in
        subst (λ (some : List Line). SayLines some old new) (sym all)
        (say_more (those b lines) line old between new before says)

-- one more isn't
takes_other : (b : Bool) (lines : List Line) (line : Line) (old new : Members) → of_steps line ≡ not b
    → SaySoFar (those b lines) old new → SaySoFar (those b (lines ++ line ∷ [])) old new
takes_other b lines line old new its so_far none =
    let all = those_more b lines line ∙ ap (λ (some : List Line). those b lines ++ some) (is_other b line its) in
    subst (λ (some : List Line). SayLines some old new) (sym (all ∙ append-nil (those b lines))) (so_far none)

-- one more line, whether it is one of those or not
differs : (a b : Bool) → a ≢ b → a ≡ not b
differs true true apart = absurd (apart refl)
differs true false apart = refl
differs false true apart = refl
differs false false apart = absurd (apart refl)

pub takes_next : (b : Bool) (lines : List Line) (line : Line) (old between new : Members)
    → SaySoFar (those b lines) old between → IsTakenIf b line between new → SaySoFar (those b (lines ++ line ∷ [])) old new
takes_next b lines line old between new so_far (inl taken) =
    takes_one b lines line old between new taken.0 so_far taken.1
takes_next b lines line old between new so_far (inr other) =
    takes_other b lines line old new (differs (of_steps line) b other.0)
    (subst (λ (new : Members). SaySoFar (those b lines) old new) (sym other.1) so_far)

-- those of `steps` are taken after all others
pub takes_both : (lines : List Line) (old between new : Members) → SaySoFar (those false lines) old between
    → SaySoFar (those true lines) between new → SaySoFar (steps_last lines) old new
takes_both lines old between new one other none =
    let later = other none in
    let before = one (sym (lines_keep (those true lines) between new later) ∙ none) in
    say_both (those false lines) (those true lines) old between new before later

-- what is said of a whole text, whose lines are taken so, and whose faults are then noted and ordered
pub read_whole : (text : List ℕ) (lines : List Line) (start between last noted said : Said)
    → lines ≡ placed section.Top (lines_of text) → members_of start ≡ nothing_said
    → SaySoFar (those false lines) (members_of start) (members_of between)
    → SaySoFar (those true lines) (members_of between) (members_of last)
    → (noted.faults.items ≢ []) ⊎ (noted ≡ last) → (said.faults.items ≡ [] → members_of said ≡ members_of noted)
    → said.faults.items ≡ [] → IsReadFrom text said
read_whole text lines start between last noted said are empty one other slots ordered none = by slots
  where
    same : members_of said ≡ members_of noted
    same = ordered none

    faultless : noted.faults.items ≡ []
    faultless = sym (ap (λ (some : Members). some.faults) same) ∙ none

    by : (noted.faults.items ≢ []) ⊎ (noted ≡ last) → IsReadFrom text said
    by (inl some) = absurd (some faultless)
    by (inr is) =
        let ends = same ∙ ap members_of is in
        let at_last = sym (ap (λ (some : Members). some.faults) ends) ∙ none in
        let say = takes_both lines (members_of start) (members_of between) (members_of last) one other at_last in
        let begun = subst (λ (old : Members). SayLines (steps_last lines) old (members_of last)) empty say in
        let ended = subst (λ (new : Members). SayLines (steps_last lines) nothing_said new) (sym ends) begun in
        subst (λ (some : List Line). SayLines (steps_last some) nothing_said (members_of said)) are ended
