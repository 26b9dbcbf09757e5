-- Warnings in the order of the text.
use Rattle.std.proofs.Common.{◌≡◌, ℕ, ◌+◌, ◌<◌, ◌≤◌, ◌||◌, Bool, true, false, List, [], ◌∷◌, ◌++◌, length, take, get_or, slice_get, if◌then◌else◌, nat_lt, Option, Some, None, All, AllPairs, refl, sym, ap, subst, ◌∙◌, arith, append-nil, length-append, length-take, take_all, lt-ltb, le-ltb, ltb-true, ltb-false}
use Rattle.std.specs.List.{list_any}
use Rattle.std.proofs.lemmas.List.{map-append, take-append-le, length-map}
use Rattle.std.proofs.lemmas.List.Elements.{All-push}
use Rattle.std.proofs.lemmas.List.Quantifiers.{all_pairs_push}
use Rattle.std.proofs.lemmas.Option.{none-some, slice_get-get_or}
use Rattle.irp_transcript.specs.declared.header.Header.{Header}
use Rattle.irp_script_reader.specs.declared.act.Step.{Step}
use Rattle.irp_script_reader.specs.declared.refusal.Section.{Section}
use Rattle.irp_script_reader.specs.declared.refusal.Section.TheVariants.{Setup, Steps}
use Rattle.irp_script_reader.specs.declared.script.ScriptParts.{ScriptParts}
use Rattle.irp_plain.specs.declared.answered.Answered.{Answered}
use Rattle.irp_plain.specs.declared.parts.After.{After}
use Rattle.irp_machine.specs.Headers.{IsHeaderOf}
use Rattle.irp_machine.specs.Machine.{act_of}
use Rattle.irp_machine.specs.Runs.{RunValue, RunsOn, act_in, setup_run, steps_run}
use Rattle.irp_machine.specs.declared.parts.Planned.{Planned}
use Rattle.irp_warnings.specs.Concerns.{Hint, concern_of, is_told, tells_of}
use Rattle.irp_warnings.specs.Warned.{AreFirst, AreInOrder, AreMade, AreWarnings, Goes, IsCourse, IsMade, IsThere, MadeStep, Plays, hint_of, hinted, hints, hints_in, hints_of, place_in, place_of, steps_in, tells, with_hints}
use Rattle.irp_warnings.specs.declared.warning.Concern.{Concern}
use Rattle.irp_warnings.specs.declared.warning.Warning.{Warning}

-- ---- steps that were made

-- a seat that is told nothing has nothing to do
ended : (old new : RunValue) (seat : ℕ) (act : Option Planned) (after : Option After) → after ≡ None → RunsOn old seat act after new
    → (old ≡ new) × (act ≡ None)
ended old new seat None after none runs = (sym runs.1, refl)
ended old new seat (Some planned) after none runs = absurd (none-some runs.0 (sym none ∙ runs.1))

pub played_out : (old new : RunValue) (seat place : ℕ) (after : Option After) → after ≡ None
    → RunsOn old seat (act_in place (act_of old.rules old.standing seat)) after new → Plays old seat place [] new
played_out old new seat place after none runs =
    let is = ended old new seat (act_in place (act_of old.rules old.standing seat)) after none runs in
    (is.0, subst (λ (run : RunValue). act_in place (act_of run.rules run.standing seat) ≡ None) is.0 is.1)

-- ---- the first 100

-- fewer than n, which are the first n of a list, are the list
whole : (n : ℕ) (xs told : List Hint) → told ≡ take n xs → length told < n → length xs ≤ n
whole n xs told is few =
    let size = length-take n xs in
    let same = ap length is in
    omega (arith, size, same, few)

several : (n : ℕ) (xs told : List Hint) → told ≡ take n xs → n ≤ length told → n ≤ length xs
several n xs told is many =
    let size = length-take n xs in
    let same = ap length is in
    omega (arith, size, same, many)

room : (test : Bool) (xs told : List Hint) (new : List Hint → List Hint) → ((told : List Hint) → length (new told) ≤ 1) → told ≡ take 100 xs → nat_lt (length told) 100 ≡ test
    → (if test then told ++ new told else told) ≡ take 100 (xs ++ new xs)
room true xs told new one is test =
    let few = ltb-true (length told) 100 test in
    let same : told ≡ xs = is ∙ take_all 100 xs (whole 100 xs told is few) in
    let all : length (xs ++ new xs) ≤ 100 = omega (arith, length-append xs (new xs), one xs, ap length same, few) in
    ap (λ (told : List Hint). told ++ new told) same ∙ sym (take_all 100 (xs ++ new xs) all)
room false xs told new one is test =
    is ∙ sym (take-append-le 100 xs (new xs) (several 100 xs told is (ltb-false (length told) 100 test)))

pub first_100 : (xs told : List Hint) (new : List Hint → List Hint) → ((told : List Hint) → length (new told) ≤ 1) → told ≡ take 100 xs
    → with_hints (new told) told ≡ take 100 (xs ++ new xs)
first_100 xs told new one is = room (nat_lt (length told) 100) xs told new one is refl

pub hinted_once : (section : Section) (index : ℕ) (concern : Option Concern) → length (hinted section index concern) ≤ 1
hinted_once section index None = omega arith
hinted_once section index (Some concern) = omega arith

-- ---- what is told

pub told_of_warnings : (label : ℕ) (found : List Warning)
    → list_any (tells label) found ≡ is_told (hints_of found) label
told_of_warnings label [] = refl
told_of_warnings label (warning ∷ others) = ap (λ rest. tells_of label warning.concern || rest) (told_of_warnings label others)

abbrev hint : Section → ℕ → Concern → Hint
hint section index concern = record { section = section; index = index; concern = concern }

with_room : (more told : List Hint) → length told < 100 → with_hints more told ≡ told ++ more
with_room more told few = ap (λ (test : Bool). if test then told ++ more else told) (lt-ltb (length told) 100 few)

-- a warning of a step was put behind the others
pub added : (section : Section) (index : ℕ) (concern : Concern) (old new : List Warning) (warning : Warning) → length old < 100
    → warning.section ≡ section → warning.index ≡ index → warning.concern ≡ concern → new ≡ old ++ warning ∷ []
    → hints_of new ≡ with_hints (hinted section index (Some concern)) (hints_of old)
added section index concern old new warning few is_section is_index is_concern is =
    let same : hint_of warning ≡ hint section index concern =
    ap (λ (section : Section). hint section warning.index warning.concern) is_section
    ∙ ap (λ (index : ℕ). hint section index warning.concern) is_index ∙ ap (λ (concern : Concern). hint section index concern) is_concern in
    ap hints_of is ∙ map-append hint_of old (warning ∷ []) ∙ ap (λ (one : Hint). hints_of old ++ one ∷ []) same
    ∙ sym (with_room (hinted section index (Some concern)) (hints_of old) (omega (arith, few, length-map old hint_of)))

pub not_added : (section : Section) (index : ℕ) (concern : Concern) (old : List Warning) → 100 ≤ length old
    → hints_of old ≡ with_hints (hinted section index (Some concern)) (hints_of old)
not_added section index concern old many =
    sym (ap (λ (test : Bool). if test then hints_of old ++ hint section index concern ∷ [] else hints_of old)
    (le-ltb (length (hints_of old)) 100 (omega (arith, many, length-map old hint_of))))

-- ---- where they stand

within : (script : ScriptParts) (limit more : ℕ) (hint : Hint) → limit ≤ more → IsThere script limit hint → IsThere script more hint
within script limit more hint wider there = record { within = there.within; before = omega (arith, wider, there.before) }

same_told : (script : ScriptParts) (limit more : ℕ) (old new : List Warning) → limit ≤ more → hints_of new ≡ hints_of old → AreInOrder script limit old
    → AreInOrder script more new
same_told script limit more old new wider same told = record {
  few = omega (arith, told.few, length-map new hint_of, length-map old hint_of, ap length same);
  there = subst (λ hints. All (IsThere script more) hints) (sym same) (λ k d few. within script limit more _ wider (told.there k d few));
  order = subst (λ hints. AllPairs (λ one later. place_of script one < place_of script later) hints) (sym same) told.order;
}

one_told : (script : ScriptParts) (limit more : ℕ) (old new : List Warning) (hint : Hint) → limit ≤ place_of script hint → IsThere script more hint
    → length (hints_of old) < 100 → hints_of new ≡ hints_of old ++ hint ∷ [] → AreInOrder script limit old → AreInOrder script more new
one_told script limit more old new hint behind there few is told =
    let all : All (IsThere script more) (hints_of old) = λ k d below. within script limit more _ (omega (arith, behind, there.before)) (told.there k d below) in
    let rises : (k : ℕ) (d : Hint) → k < length (hints_of old) → place_of script (get_or (hints_of old) k d) < place_of script hint = λ k d below. omega (arith, behind, (told.there k d below).before) in
    record {
      few = omega (arith, few, length-map new hint_of, ap length is, length-append (hints_of old) (hint ∷ []));
      there = subst (λ hints. All (IsThere script more) hints) (sym is) (All-push (IsThere script more) (hints_of old) hint all there);
      order = subst (λ hints. AllPairs (λ one later. place_of script one < place_of script later) hints) (sym is)
          (all_pairs_push (λ one later. place_of script one < place_of script later) (hints_of old) hint told.order rises);
    }

if_told : (test : Bool) (script : ScriptParts) (limit more : ℕ) (old new : List Warning) (hint : Hint) → limit ≤ place_of script hint → IsThere script more hint
    → nat_lt (length (hints_of old)) 100 ≡ test → hints_of new ≡ (if test then hints_of old ++ hint ∷ [] else hints_of old) → AreInOrder script limit old
    → AreInOrder script more new
if_told true script limit more old new hint behind there test is told =
    one_told script limit more old new hint behind there (ltb-true (length (hints_of old)) 100 test) is told
if_told false script limit more old new hint behind there test is told =
    same_told script limit more old new (omega (arith, behind, there.before)) is told

by_test : (test : Bool) (told : List Hint) → (if test then told ++ [] else told) ≡ told
by_test true told = append-nil told
by_test false told = refl

pub unchanged : (told : List Hint) → with_hints [] told ≡ told
unchanged told = by_test (nat_lt (length told) 100) told

pub told_more : (script : ScriptParts) (section : Section) (index : ℕ) (concern : Option Concern) (old new : List Warning)
    → index < length (steps_in script section) → hints_of new ≡ with_hints (hinted section index concern) (hints_of old)
    → AreInOrder script (place_in script section index) old → AreInOrder script (place_in script section (index + 1)) new
told_more script section index None old new there is told =
    same_told script (place_in script section index) (place_in script section (index + 1)) old new (omega arith) (is ∙ unchanged (hints_of old)) told
told_more script section index (Some concern) old new there is told =
    if_told (nat_lt (length (hints_of old)) 100) script (place_in script section index) (place_in script section (index + 1)) old new
    (record { section = section; index = index; concern = concern }) (omega arith) (record { within = there; before = omega arith }) refl is told

-- ---- a step more

-- one more step was made, and what isn't meant in it is told
pub goes_on : (script : ScriptParts) (section : Section) (start before run : RunValue) (first old new told : List Warning) (steps : List Step) (index : ℕ)
    (d : Step) (answer : Option Answered) (concern : Option Concern) → steps ≡ steps_in script section → index < length steps
    → IsMade before (get_or steps index d).seat index answer run → told ≡ old
    → concern ≡ concern_of script run (hints_of told) (get_or steps index d) answer
    → hints_of new ≡ with_hints (hinted section index concern) (hints_of old)
    → Goes script section start first index before old → Goes script section start first (index + 1) run new
goes_on script section start before run first old new told steps index d answer concern in_script few made same meant is goes = λ earlier so.
    let step = get_or steps index d in
    let far = goes earlier so in
    let one : MadeStep = record { section = section; index = index; step = step; answer = answer; run = run } in
    let there = subst (λ (steps : List Step). slice_get steps index ≡ Some step) in_script (slice_get-get_or steps index d few) in
    let meant_now : concern ≡ concern_of script run (hints_of old) step answer =
    meant ∙ ap (λ (told : List Warning). concern_of script run (hints_of told) step answer) same in
    let told_now : hints_of new ≡ with_hints (hints_in script one (hints_of old)) (hints_of old) =
    is ∙ ap (λ (concern : Option Concern). with_hints (hinted section index concern) (hints_of old)) meant_now in
    let more =
    first_100 (hints script (far.0 ++ earlier)) (hints_of old) (hints_in script one)
    (λ told. hinted_once section index (concern_of script run told step answer)) far.3 in
    (one ∷ far.0, (before, far.1, refl, sym far.2, there, made, refl), omega (arith, far.2), told_now ∙ more)

-- the setup was made, and then the steps
pub course_of : (script : ScriptParts) (header : Header) (none first second : List Warning) (start opened begun last : RunValue) → IsHeaderOf script header
    → none ≡ [] → start ≡ setup_run header script → Goes script Setup start none (length script.setup) opened first → begun ≡ steps_run opened
    → Goes script Steps begun first (length script.steps) last second → AreWarnings script second
course_of script header none first second start opened begun last headed empty starts setup begins steps =
    let so : AreFirst script [] none = ap hints_of empty ∙ sym (take_all 100 [] (omega arith)) in
    let before = setup [] so in
    let behind = steps (before.0 ++ []) before.3 in
    let course : IsCourse script (behind.0 ++ (before.0 ++ [])) = record {
      header = header;
      headed = headed;
      setup = before.0;
      opened = opened;
      setup_made = subst (λ (start : RunValue). AreMade script Setup start before.0 opened) starts before.1;
      setup_whole = before.2;
      steps = behind.0;
      ended = last;
      steps_made = subst (λ (start : RunValue). AreMade script Steps start behind.0 last) begins behind.1;
      steps_whole = behind.2;
      is = ap (λ (setup : List MadeStep). behind.0 ++ setup) (append-nil before.0);
    } in
    (behind.0 ++ (before.0 ++ []), course, behind.3)
