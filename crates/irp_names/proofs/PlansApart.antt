-- Two plans with one text are one plan.
use Rattle.std.proofs.Common.{◌≡◌, ℕ, ◌==◌, ◌<◌, ◌≤◌, ◌^◌, ◌-◌, Bool, true, false, List, [], ◌∷◌, ◌++◌, length, ap, sym, subst, refl, ◌∙◌, arith, rules, Option, Some, None, bytes_eq, get_or, drop, zero, suc}
use Rattle.std.specs.Prelude.{codes, if◌then◌else◌, replicate}
use Rattle.std.specs.Fmt.{decimal, digits, format_spec, padded_integral, char_count}
use Rattle.std.specs.Char.{digit_value}
use Rattle.std.specs.List.{find}
use Rattle.std.specs.Option.{option_map_or}
use Rattle.std.specs.Str.Parse.{AllDigits, digits_value}
use Rattle.std.proofs.lemmas.Bool.{eqb-true, eq-eqb}
use Rattle.std.proofs.lemmas.Fmt.{decimal_injective, digits_is_IsNumeral, decimal_is_IsNumeral}
use Rattle.std.proofs.lemmas.List.{append_cancel_right, append-nil}
use Rattle.irp_types.specs.declared.answer.Plan.{Plan}
use Rattle.irp_types.specs.declared.answer.Plan.TheVariants as plan
use Rattle.irp_types.specs.declared.names.CancelId.{CancelId}
use Rattle.irp_types.specs.declared.routine.Rule.{Rule}
use Rattle.irp_types.specs.declared.routine.Rule.TheVariants as rule
use Rattle.irp_types.specs.declared.routine.RoutineId.{RoutineId}
use Rattle.irp_types.specs.declared.routine.Setting.{Setting}
use Rattle.irp_types.specs.declared.status.Status.{Status}
use Rattle.irp_forms.specs.Found.{rule_found}
use Rattle.irp_forms.specs.Names.{first_named, rule_name, rules as every_rule}
use Rattle.irp_names.specs.Calls.{flags_words, setting_text}
use Rattle.irp_names.specs.Closures.{CancelHas64Bits, PlanHas64Bits, PlansAreToldApart, SettingHas64Bits, cancel_set, forwarding, plan_text, routine_set}
use Rattle.irp_names.specs.Rows.{Row, named, numbered}
use Rattle.irp_names.specs.Small.{hex_text, routine_text, wide_hex}
use Rattle.irp_names.specs.Statuses.{result_text, status_name, status_rows, status_text}

-- ---- a text up to a sign, and beyond it

lacks : ℕ → List ℕ → Bool
lacks sign [] = true
lacks sign (first ∷ rest) = if first == sign then false else lacks sign rest

up_to : ℕ → List ℕ → List ℕ
up_to sign [] = []
up_to sign (first ∷ rest) = if first == sign then [] else first ∷ up_to sign rest

beyond : ℕ → List ℕ → List ℕ
beyond sign [] = []
beyond sign (first ∷ rest) = if first == sign then rest else beyond sign rest

up_to_is : (sign : ℕ) (text rest : List ℕ) → lacks sign text ≡ true → up_to sign (text ++ (sign ∷ rest)) ≡ text
unfolding lacks up_to
up_to_is sign [] rest none = ap (λ (b : Bool). if b then [] else sign ∷ up_to sign rest) (eq-eqb sign sign refl)
up_to_is sign (first ∷ more) rest none = by (up_to_is sign more rest) (first == sign) none
  where
    by : (lacks sign more ≡ true → up_to sign (more ++ (sign ∷ rest)) ≡ more) → (b : Bool) → (if b then false else lacks sign more) ≡ true
        → (if b then [] else first ∷ up_to sign (more ++ (sign ∷ rest))) ≡ first ∷ more
    by further true none = absurd (cc (none))
    by further false none = ap (λ (text : List ℕ). first ∷ text) (further none)

beyond_is : (sign : ℕ) (text rest : List ℕ) → lacks sign text ≡ true → beyond sign (text ++ (sign ∷ rest)) ≡ rest
unfolding lacks beyond
beyond_is sign [] rest none = ap (λ (b : Bool). if b then rest else beyond sign rest) (eq-eqb sign sign refl)
beyond_is sign (first ∷ more) rest none = by (beyond_is sign more rest) (first == sign) none
  where
    by : (lacks sign more ≡ true → beyond sign (more ++ (sign ∷ rest)) ≡ rest) → (b : Bool) → (if b then false else lacks sign more) ≡ true
        → (if b then more ++ (sign ∷ rest) else beyond sign (more ++ (sign ∷ rest))) ≡ rest
    by further true none = absurd (cc (none))
    by further false none = further none

-- what stands before the first sign is the same in one text, and so is what stands behind it
Parts : ℕ → List ℕ → List ℕ → List ℕ → List ℕ → Type 0
Parts sign one other rest further = (one ≡ other) × (rest ≡ further)

parts : (sign : ℕ) (one other rest further : List ℕ) → lacks sign one ≡ true → lacks sign other ≡ true
    → one ++ (sign ∷ rest) ≡ other ++ (sign ∷ further) → Parts sign one other rest further
unfolding Parts
parts sign one other rest further none none_too same = (
  sym (up_to_is sign one rest none) ∙ ap (up_to sign) same ∙ up_to_is sign other further none_too,
  sym (beyond_is sign one rest none) ∙ ap (beyond sign) same ∙ beyond_is sign other further none_too,
)

-- ---- numbers

digits_lack : (base : ℕ) → base ≤ 16 → (text : List ℕ) → AllDigits base text → lacks 44 text ≡ true
unfolding lacks
digits_lack base small [] all = refl
digits_lack base small (first ∷ rest) all = by (digits_lack base small rest all.1) (first == 44) refl
  where
    by : lacks 44 rest ≡ true → (b : Bool) → (first == 44) ≡ b → (if b then false else lacks 44 rest) ≡ true
    by further true is =
        let value : digit_value 44 < base = subst (λ (n : ℕ). digit_value n < base) (eqb-true first 44 is) all.0 in
        absurd (omega arith)
    by further false is = further

decimal_lacks : (number : ℕ) → number < 2 ^ 64 → lacks 44 (decimal number) ≡ true
decimal_lacks number small = digits_lack 10 (omega arith) (decimal number) (decimal_is_IsNumeral number small).0.1

numeral : (upper : Bool) (number : ℕ) → number < 2 ^ 64 → AllDigits 16 (digits 16 upper number) × (digits_value 16 (digits 16 upper number) ≡ number)
numeral upper number small =
    let is = digits_is_IsNumeral 16 upper (omega arith) (omega arith) number (omega arith) in (is.0.1, is.1)

hex_lacks : (number : ℕ) → number < 2 ^ 64 → lacks 44 (hex_text number) ≡ true
unfolding lacks
hex_lacks number small = digits_lack 16 (omega arith) (digits 16 false number) (numeral false number small).0

hex_same : (one other : ℕ) → one < 2 ^ 64 → other < 2 ^ 64 → hex_text one ≡ hex_text other → one ≡ other
hex_same one other small small_too same =
    let digits_same : digits 16 false one ≡ digits 16 false other = ap (drop 2) same in
    sym (numeral false one small).1 ∙ ap (digits_value 16) digits_same ∙ (numeral false other small_too).1

-- zeros in front change no value
zeros_value : (count : ℕ) (text : List ℕ) → digits_value 16 (replicate count 48 ++ text) ≡ digits_value 16 text
zeros_value zero text = refl
zeros_value (suc count) text = zeros_value count text

zeros_lack : (count : ℕ) (text : List ℕ) → lacks 44 text ≡ true → lacks 44 (replicate count 48 ++ text) ≡ true
unfolding lacks
zeros_lack zero text none = none
zeros_lack (suc count) text none = zeros_lack count text none

wide : List ℕ → List ℕ
wide text = padded_integral (format_spec 32 0 4 8 (2 ^ 64 - 1)) false [] text

-- how many zeros stand in front
zeros : List ℕ → ℕ
zeros text = 8 - length text - 0 - 0

wide_is : (text : List ℕ) → wide text ≡ replicate (zeros text) 48 ++ text
unfolding wide zeros padded_integral char_count
wide_is text = ap (λ (rest : List ℕ). replicate (8 - length text - 0 - 0) 48 ++ rest) (append-nil text)

wide_value : (number : ℕ) → number < 2 ^ 64 → digits_value 16 (wide (digits 16 true number)) ≡ number
wide_value number small =
    ap (digits_value 16) (wide_is (digits 16 true number)) ∙ zeros_value (zeros (digits 16 true number)) (digits 16 true number)
    ∙ (numeral true number small).1

wide_lacks : (number : ℕ) → number < 2 ^ 64 → lacks 44 (wide (digits 16 true number)) ≡ true
wide_lacks number small =
    subst (λ (text : List ℕ). lacks 44 text ≡ true) (sym (wide_is (digits 16 true number)))
    (zeros_lack (zeros (digits 16 true number)) (digits 16 true number) (digits_lack 16 (omega arith) (digits 16 true number) (numeral true number small).0))

-- ---- statuses

-- each name of a table has its number, and no comma
Known : List Row → Type 0
Known [] = Unit {0}
Known (row ∷ rows) = ((numbered status_rows row.1 ≡ Some row.0) × (lacks 44 row.1 ≡ true)) × Known rows

Told : ℕ → List ℕ → Type 0
Told number name = (numbered status_rows name ≡ Some number) × (lacks 44 name ≡ true)

named_told : (rows : List Row) (number : ℕ) (name : List ℕ) → Known rows → named rows number ≡ Some name → Told number name
unfolding Known Told
named_told [] number name known is = absurd (cc (is))
named_told (row ∷ rows) number name known is = by (named_told rows number name known.1) (number == row.0) refl is
  where
    by : (named rows number ≡ Some name → Told number name) → (b : Bool) → (number == row.0) ≡ b
        → (if b then Some row.1 else named rows number) ≡ Some name → Told number name
    by further true same is =
        let named_so : row.1 ≡ name = cc (is) in
        let its_number : row.0 ≡ number = sym (eqb-true number row.0 same) in
        subst (λ (n : ℕ). Told n name) its_number (subst (λ (given : List ℕ). Told row.0 given) named_so known.0)
    by further false same is = further is

all_known : Known status_rows
unfolding Known lacks
all_known = search rules

name_told : (number : ℕ) (name : List ℕ) → status_name number ≡ Some name → Told number name
name_told number name is = named_told status_rows number name all_known is

-- the words of a status that has this name, or none
told_as : Option (List ℕ) → ℕ → List ℕ
told_as name number = option_map_or (λ (given : List ℕ). given) name (codes "status " ++ wide_hex 8 true number)

unnamed : (number : ℕ) → numbered status_rows (codes "status " ++ wide_hex 8 true number) ≡ None
unnamed number = refl

number_same : (one other : ℕ) → one < 2 ^ 64 → other < 2 ^ 64 → (name name_too : Option (List ℕ)) → status_name one ≡ name
    → status_name other ≡ name_too → told_as name one ≡ told_as name_too other → one ≡ other
unfolding told_as wide Told
number_same one other small small_too (Some name) (Some further) is is_too same =
    let both : Some one ≡ Some other =
    sym (name_told one name is).0 ∙ ap (numbered status_rows) same ∙ (name_told other further is_too).0 in
    cc (both)
number_same one other small small_too (Some name) None is is_too same =
    let both : Some one ≡ None = sym (name_told one name is).0 ∙ ap (numbered status_rows) same ∙ unnamed other in
    absurd (cc (both))
number_same one other small small_too None (Some name) is is_too same =
    let both : None ≡ Some other = sym (unnamed one) ∙ ap (numbered status_rows) same ∙ (name_told other name is_too).0 in
    absurd (cc (both))
number_same one other small small_too None None is is_too same =
    let digits_same : wide (digits 16 true one) ≡ wide (digits 16 true other) = ap (drop 9) same in
    sym (wide_value one small) ∙ ap (digits_value 16) digits_same ∙ wide_value other small_too

status_same : (one other : Status) → one.0 < 2 ^ 64 → other.0 < 2 ^ 64 → status_text one ≡ status_text other → one ≡ other
unfolding told_as
status_same one other small small_too same =
    let number : one.0 ≡ other.0 =
    number_same one.0 other.0 small small_too (status_name one.0) (status_name other.0) refl refl same in
    λ i. record { 0 = number i }

status_lacks : (status : Status) → status.0 < 2 ^ 64 → lacks 44 (status_text status) ≡ true
unfolding told_as wide Told lacks
status_lacks status small = by (status_name status.0) refl
  where
    by : (name : Option (List ℕ)) → status_name status.0 ≡ name → lacks 44 (told_as name status.0) ≡ true
    by None is = wide_lacks status.0 small
    by (Some name) is = (name_told status.0 name is).1

-- ---- a status and information; a setting

finish_same : (status further : Status) (information more : ℕ) → (status.0 < 2 ^ 64) × (information < 2 ^ 64)
    → (further.0 < 2 ^ 64) × (more < 2 ^ 64) → result_text status information ≡ result_text further more
    → plan.Finish status information ≡ plan.Finish further more
unfolding Parts
finish_same status further information more small small_too same =
    let split = parts 44 (status_text status) (status_text further) (codes " information " ++ hex_text information)
    (codes " information " ++ hex_text more) (status_lacks status small.0) (status_lacks further small_too.0) same in
    let hex : hex_text information ≡ hex_text more = ap (drop 13) split.1 in
    let one = status_same status further small.0 small_too.0 split.0 in
    let two = hex_same information more small.1 small_too.1 hex in
    λ i. plan.Finish (one i) (two i)

word_lacks : (one : Rule) → lacks 32 (rule_name one) ≡ true
unfolding lacks
word_lacks rule.Watch = refl
word_lacks rule.Change = refl
word_lacks rule.Keeper = refl
word_lacks rule.KeepOnError = refl
word_lacks rule.Free = refl

routine_lacks : (id : RoutineId) → id.no < 2 ^ 64 → lacks 44 (routine_text id) ≡ true
unfolding lacks
routine_lacks id small = by id.rule
  where
    by : (one : Rule) → lacks 44 (rule_name one ++ (codes " " ++ decimal id.no)) ≡ true
    by rule.Watch = decimal_lacks id.no small
    by rule.Change = decimal_lacks id.no small
    by rule.Keeper = decimal_lacks id.no small
    by rule.KeepOnError = decimal_lacks id.no small
    by rule.Free = decimal_lacks id.no small

routine_same : (one other : RoutineId) → one.no < 2 ^ 64 → other.no < 2 ^ 64 → routine_text one ≡ routine_text other → one ≡ other
unfolding Parts
routine_same one other small small_too same =
    let split = parts 32 (rule_name one.rule) (rule_name other.rule) (decimal one.no) (decimal other.no) (word_lacks one.rule)
    (word_lacks other.rule) same in
    let found : Some one.rule ≡ Some other.rule =
    sym (rule_found one.rule) ∙ ap (first_named rule_name every_rule) split.0 ∙ rule_found other.rule in
    let rule_same : one.rule ≡ other.rule = cc (found) in
    let no_same = decimal_injective one.no other.no small small_too split.1 in
    λ i. record { rule = rule_same i; no = no_same i }

abbrev Flags : Type 0
Flags = Bool × Bool × Bool

flags_told : List Flags
flags_told =
    (true, true, true)
    ∷ (true, true, false)
    ∷ (true, false, true)
    ∷ (true, false, false)
    ∷ (false, true, true)
    ∷ (false, true, false)
    ∷ (false, false, true)
    ∷ (false, false, false)
    ∷ []

flags_named : List ℕ → Option Flags
flags_named given = find (λ (one : Flags). bytes_eq given (flags_words one.0 one.1 one.2)) flags_told

flags_found : (success error cancel : Bool) → flags_named (flags_words success error cancel) ≡ Some (success, error, cancel)
unfolding flags_named flags_told
flags_found true true true = refl
flags_found true true false = refl
flags_found true false true = refl
flags_found true false false = refl
flags_found false true true = refl
flags_found false true false = refl
flags_found false false true = refl
flags_found false false false = refl

-- what stands behind the routine, and behind the context
abbrev behind : Setting → List ℕ
behind set = codes " context " ++ (hex_text set.context ++ (codes ", " ++ flags_words set.on_success set.on_error set.on_cancel))

abbrev last : Setting → List ℕ
last set = codes " " ++ flags_words set.on_success set.on_error set.on_cancel

setting_same : (one other : Setting) → SettingHas64Bits (Some one) → SettingHas64Bits (Some other) → setting_text one ≡ setting_text other
    → one ≡ other
unfolding Parts
setting_same one other small small_too same =
    let split = parts 44 (routine_text one.routine) (routine_text other.routine) (behind one) (behind other)
    (routine_lacks one.routine small.0) (routine_lacks other.routine small_too.0) same in
    let rest : hex_text one.context ++ (44 ∷ last one) ≡ hex_text other.context ++ (44 ∷ last other) = ap (drop 9) split.1 in
    let further = parts 44 (hex_text one.context) (hex_text other.context) (last one) (last other)
    (hex_lacks one.context small.1) (hex_lacks other.context small_too.1) rest in
    let words : flags_words one.on_success one.on_error one.on_cancel ≡ flags_words other.on_success other.on_error other.on_cancel =
    ap (drop 1) further.1 in
    let found : ◌≡◌ {A = Option Flags} (Some (one.on_success, one.on_error, one.on_cancel)) (Some (other.on_success, other.on_error, other.on_cancel)) =
    sym (flags_found one.on_success one.on_error one.on_cancel) ∙ ap flags_named words
    ∙ flags_found other.on_success other.on_error other.on_cancel in
    let flags : ◌≡◌ {A = Flags} (one.on_success, one.on_error, one.on_cancel) (other.on_success, other.on_error, other.on_cancel) = cc (found) in
    let routine = routine_same one.routine other.routine small.0 small_too.0 split.0 in
    let context = hex_same one.context other.context small.1 small_too.1 further.0 in
    λ i. record {
      routine = routine i;
      context = context i;
      on_success = (flags i).0;
      on_error = (flags i).1;
      on_cancel = (flags i).2;
    }

cancel_same : (one other : CancelId) → one.0 < 2 ^ 64 → other.0 < 2 ^ 64 → decimal one.0 ≡ decimal other.0 → one ≡ other
cancel_same one other small small_too same =
    let number = decimal_injective one.0 other.0 small small_too same in λ i. record { 0 = number i }

-- ---- what is set

-- in what position two texts differ
letter : ℕ → List ℕ → ℕ
letter at text = get_or text at 0

driver_called : List ℕ
driver_called = codes "IoCallDriver"

routines_same : (one other : Option Setting) → SettingHas64Bits one → SettingHas64Bits other
    → routine_set one ++ driver_called ≡ routine_set other ++ driver_called → one ≡ other
unfolding driver_called letter
routines_same None None small small_too same = refl
routines_same None (Some other) small small_too same = absurd (omega (arith, ap (letter 2) same))
routines_same (Some one) None small small_too same = absurd (omega (arith, ap (letter 2) same))
routines_same (Some one) (Some other) small small_too same =
    let open_so = append_cancel_right (setting_text one ++ codes "), ") (setting_text other ++ codes "), ") driver_called
    (ap (drop 23) same) in
    ap Some (setting_same one other small small_too (append_cancel_right (setting_text one) (setting_text other) (codes "), ") open_so))

forwarded_same : (one other : Option Setting) → SettingHas64Bits one → SettingHas64Bits other → forwarding one ≡ forwarding other → one ≡ other
unfolding driver_called
forwarded_same one other small small_too same = routines_same one other small small_too (ap (drop 37) same)

held : List ℕ
held = codes "keeps the packet, returns STATUS_PENDING"

cancels_same : (one other : Option CancelId) → CancelHas64Bits one → CancelHas64Bits other
    → cancel_set one ++ held ≡ cancel_set other ++ held → one ≡ other
unfolding held letter
cancels_same None None small small_too same = refl
cancels_same None (Some other) small small_too same = absurd (omega (arith, ap (letter 0) same))
cancels_same (Some one) None small small_too same = absurd (omega (arith, ap (letter 0) same))
cancels_same (Some one) (Some other) small small_too same =
    let open_so = append_cancel_right (decimal one.0 ++ codes "), ") (decimal other.0 ++ codes "), ") held (ap (drop 34) same) in
    ap Some (cancel_same one other small small_too (append_cancel_right (decimal one.0) (decimal other.0) (codes "), ") open_so))

-- ---- what kind of plan a text tells

-- the fifth letter tells four kinds; where it is that of IoMarkIrpPending, a later one tells the rest
kind_told : List ℕ → ℕ
kind_told text = if letter 4 text == 114 then letter 34 text else letter 4 text

kind : Plan → ℕ
kind (plan.Finish status information) = 109
kind (plan.Hold None) = 44
kind (plan.Hold (Some id)) = 110
kind plan.HoldSlot = 32
kind plan.Skip = 105
kind (plan.Forward set) = 112
kind (plan.ForwardPend set) = 83

kind_is : (one : Plan) → kind_told (plan_text one) ≡ kind one
unfolding kind_told kind letter
kind_is (plan.Finish status information) = refl
kind_is (plan.Hold None) = refl
kind_is (plan.Hold (Some id)) = refl
kind_is plan.HoldSlot = refl
kind_is plan.Skip = refl
kind_is (plan.Forward set) = refl
kind_is (plan.ForwardPend set) = refl

-- plans of one kind with one text are one plan
of_kind : (one other : Plan) → PlanHas64Bits one → PlanHas64Bits other → kind one ≡ kind other → plan_text one ≡ plan_text other → one ≡ other
unfolding kind held
of_kind (plan.Finish status information) (plan.Finish further more) small small_too alike same = finish_same status further information more small small_too (ap (drop 23) same)
of_kind (plan.Finish status information) (plan.Hold None) small small_too alike same = absurd (omega (arith, alike))
of_kind (plan.Finish status information) (plan.Hold (Some id_too)) small small_too alike same = absurd (omega (arith, alike))
of_kind (plan.Finish status information) plan.HoldSlot small small_too alike same = absurd (omega (arith, alike))
of_kind (plan.Finish status information) plan.Skip small small_too alike same = absurd (omega (arith, alike))
of_kind (plan.Finish status information) (plan.Forward set_too) small small_too alike same = absurd (omega (arith, alike))
of_kind (plan.Finish status information) (plan.ForwardPend set_too) small small_too alike same = absurd (omega (arith, alike))
of_kind (plan.Hold None) (plan.Finish further more) small small_too alike same = absurd (omega (arith, alike))
of_kind (plan.Hold None) (plan.Hold None) small small_too alike same = refl
of_kind (plan.Hold None) (plan.Hold (Some id_too)) small small_too alike same = absurd (omega (arith, alike))
of_kind (plan.Hold None) plan.HoldSlot small small_too alike same = absurd (omega (arith, alike))
of_kind (plan.Hold None) plan.Skip small small_too alike same = absurd (omega (arith, alike))
of_kind (plan.Hold None) (plan.Forward set_too) small small_too alike same = absurd (omega (arith, alike))
of_kind (plan.Hold None) (plan.ForwardPend set_too) small small_too alike same = absurd (omega (arith, alike))
of_kind (plan.Hold (Some id)) (plan.Finish further more) small small_too alike same = absurd (omega (arith, alike))
of_kind (plan.Hold (Some id)) (plan.Hold None) small small_too alike same = absurd (omega (arith, alike))
of_kind (plan.Hold (Some id)) (plan.Hold (Some id_too)) small small_too alike same = ap plan.Hold (cancels_same (Some id) (Some id_too) small small_too (ap (drop 18) same))
of_kind (plan.Hold (Some id)) plan.HoldSlot small small_too alike same = absurd (omega (arith, alike))
of_kind (plan.Hold (Some id)) plan.Skip small small_too alike same = absurd (omega (arith, alike))
of_kind (plan.Hold (Some id)) (plan.Forward set_too) small small_too alike same = absurd (omega (arith, alike))
of_kind (plan.Hold (Some id)) (plan.ForwardPend set_too) small small_too alike same = absurd (omega (arith, alike))
of_kind plan.HoldSlot (plan.Finish further more) small small_too alike same = absurd (omega (arith, alike))
of_kind plan.HoldSlot (plan.Hold None) small small_too alike same = absurd (omega (arith, alike))
of_kind plan.HoldSlot (plan.Hold (Some id_too)) small small_too alike same = absurd (omega (arith, alike))
of_kind plan.HoldSlot plan.HoldSlot small small_too alike same = refl
of_kind plan.HoldSlot plan.Skip small small_too alike same = absurd (omega (arith, alike))
of_kind plan.HoldSlot (plan.Forward set_too) small small_too alike same = absurd (omega (arith, alike))
of_kind plan.HoldSlot (plan.ForwardPend set_too) small small_too alike same = absurd (omega (arith, alike))
of_kind plan.Skip (plan.Finish further more) small small_too alike same = absurd (omega (arith, alike))
of_kind plan.Skip (plan.Hold None) small small_too alike same = absurd (omega (arith, alike))
of_kind plan.Skip (plan.Hold (Some id_too)) small small_too alike same = absurd (omega (arith, alike))
of_kind plan.Skip plan.HoldSlot small small_too alike same = absurd (omega (arith, alike))
of_kind plan.Skip plan.Skip small small_too alike same = refl
of_kind plan.Skip (plan.Forward set_too) small small_too alike same = absurd (omega (arith, alike))
of_kind plan.Skip (plan.ForwardPend set_too) small small_too alike same = absurd (omega (arith, alike))
of_kind (plan.Forward set) (plan.Finish further more) small small_too alike same = absurd (omega (arith, alike))
of_kind (plan.Forward set) (plan.Hold None) small small_too alike same = absurd (omega (arith, alike))
of_kind (plan.Forward set) (plan.Hold (Some id_too)) small small_too alike same = absurd (omega (arith, alike))
of_kind (plan.Forward set) plan.HoldSlot small small_too alike same = absurd (omega (arith, alike))
of_kind (plan.Forward set) plan.Skip small small_too alike same = absurd (omega (arith, alike))
of_kind (plan.Forward set) (plan.Forward set_too) small small_too alike same = ap plan.Forward (forwarded_same set set_too small small_too same)
of_kind (plan.Forward set) (plan.ForwardPend set_too) small small_too alike same = absurd (omega (arith, alike))
of_kind (plan.ForwardPend set) (plan.Finish further more) small small_too alike same = absurd (omega (arith, alike))
of_kind (plan.ForwardPend set) (plan.Hold None) small small_too alike same = absurd (omega (arith, alike))
of_kind (plan.ForwardPend set) (plan.Hold (Some id_too)) small small_too alike same = absurd (omega (arith, alike))
of_kind (plan.ForwardPend set) plan.HoldSlot small small_too alike same = absurd (omega (arith, alike))
of_kind (plan.ForwardPend set) plan.Skip small small_too alike same = absurd (omega (arith, alike))
of_kind (plan.ForwardPend set) (plan.Forward set_too) small small_too alike same = absurd (omega (arith, alike))
of_kind (plan.ForwardPend set) (plan.ForwardPend set_too) small small_too alike same =
    ap plan.ForwardPend (forwarded_same set set_too small small_too
    (append_cancel_right (forwarding set) (forwarding set_too) (codes ", returns STATUS_PENDING") (ap (drop 18) same)))

pub plans_apart : PlansAreToldApart
plans_apart one other small small_too same =
    of_kind one other small small_too (sym (kind_is one) ∙ ap kind_told same ∙ kind_is other) same
