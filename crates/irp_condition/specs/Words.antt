-- What words write.
use Rattle.std.specs.Prelude.{ℕ, ◌+◌, ◌-◌, ◌*◌, ◌^◌, ◌==◌, ◌&&◌, ◌||◌, Bool, true, false, if◌then◌else◌, nat_le, nat_lt, List, [], ◌∷◌, length, drop, slice_index_or, Option, Some, None, option_map, codes}
use Rattle.std.specs.List.{find}
use Rattle.std.proofs.Common.{bytes_eq}
use Rattle.irp_condition.specs.declared.value.Answer.{Answer}
use Rattle.irp_condition.specs.declared.value.Answer.TheVariants as answer
use Rattle.irp_condition.specs.declared.value.Value.TheVariants.{Missing, Truth, Number, Owner, Answer as Answered}
use Rattle.irp_condition.specs.declared.naming.Sort.{Sort}
use Rattle.irp_condition.specs.declared.naming.Sort.TheVariants as sort
use Rattle.irp_condition.specs.declared.scope.Scope.{Scope}
use Rattle.irp_types.specs.declared.location.Owner.TheVariants as owner
use Rattle.irp_condition.specs.declared.value.Named.{Named}
use Rattle.irp_condition.specs.declared.value.Value.{Value}
use Rattle.irp_condition.specs.Tokens.{is_within}

-- read the one, and then what is read from it
infixl 10 ◌>>=◌
abbrev pub ◌>>=◌ : {A B : Type 0} → Option A → (A → Option B) → Option B
(Some value) >>= next = next value
None >>= next = None

-- the one, or else the other
abbrev pub or_else : {A : Type 0} → Option A → Option A → Option A
or_else (Some value) other = Some value
or_else None other = other

-- the value of the first of these words that is the given one
abbrev pub value_in : List Named → List ℕ → Option Value
value_in table word = option_map (λ (one : Named). one.value) (find (λ (one : Named). bytes_eq word one.name.now) table)

-- the truth that a word writes
abbrev pub truth_value : List ℕ → Option Value
truth_value word =
    if bytes_eq word (codes "true") then Some (Truth true) else
    (if bytes_eq word (codes "false") then Some (Truth false) else None)

-- the answer that a word writes
abbrev pub answer_named : List ℕ → Option Answer
answer_named word =
    if bytes_eq word (codes "done") || bytes_eq word (codes "ok") then Some answer.Done else
    (if bytes_eq word (codes "seat_full") then Some answer.SeatFull else
    (if bytes_eq word (codes "not_held") then Some answer.NotHeld else
    (if bytes_eq word (codes "already_removing") then Some answer.AlreadyRemoving else
    (if bytes_eq word (codes "no_lock") then Some answer.NoLock else
    (if bytes_eq word (codes "yes") then Some answer.Yes else
    (if bytes_eq word (codes "busy") then Some answer.Busy else
    (if bytes_eq word (codes "standing") then Some answer.Standing else
    (if bytes_eq word (codes "taken") then Some answer.Taken else
    (if bytes_eq word (codes "lost") then Some answer.Lost else
    (if bytes_eq word (codes "nothing") then Some answer.Nothing else
    (if bytes_eq word (codes "used") then Some answer.Used else
    (if bytes_eq word (codes "not_standing") then Some answer.NotStanding else
    (if bytes_eq word (codes "no_slot") then Some answer.NoSlot else
    (if bytes_eq word (codes "no_token") then Some answer.NoToken else None))))))))))))))

-- the value of a digit, which is 16 for what is none
abbrev pub digit_of : ℕ → ℕ
digit_of byte =
    if is_within 48 57 byte then byte - 48 else
    (if is_within 97 102 byte then byte - 87 else
    (if is_within 65 70 byte then byte - 55 else 16))

-- the number that digits write in this base, behind those that write another; none where it is 2^64 or more
abbrev pub number_behind : ℕ → ℕ → List ℕ → Option ℕ
number_behind base number [] = Some number
number_behind base number (byte ∷ digits) =
    if nat_lt (digit_of byte) base && nat_lt (number * base + digit_of byte) (2 ^ 64) then
    number_behind base (number * base + digit_of byte) digits else None

-- the number that digits write in this base
abbrev pub number_in : ℕ → List ℕ → Option ℕ
number_in base [] = None
number_in base (byte ∷ digits) = number_behind base 0 (byte ∷ digits)

-- it begins with 0x
abbrev pub has_prefix : List ℕ → Bool
has_prefix word = nat_le 2 (length word) && ((slice_index_or word 0 0 == 48) && (slice_index_or word 1 0 == 120))

-- the number that a word writes: decimal, or hexadecimal behind 0x
abbrev pub number_of : List ℕ → Option ℕ
number_of word = if has_prefix word then number_in 16 (drop 2 word) else number_in 10 word

-- this one, where it is below a bound
abbrev pub below : ℕ → ℕ → Option ℕ
below bound number = if nat_lt number bound then Some number else None

-- the device that a word names: D and its number
abbrev pub device_named : List ℕ → Option ℕ
device_named word =
    if nat_lt 0 (length word) && (slice_index_or word 0 0 == 68) then number_in 10 (drop 1 word) >>= below 64 else None

-- the owner that a word writes, or that there is none
abbrev pub owner_value : List ℕ → Option Value
owner_value word =
    if bytes_eq word (codes "originator") then Some (Owner owner.Originator) else
    (if bytes_eq word (codes "ended") then Some (Owner owner.Ended) else
    (if bytes_eq word (codes "none") then Some Missing else
    option_map (λ (device : ℕ). Owner (owner.Device (record { 0 = device }))) (device_named word)))

-- the number or status that a word writes
abbrev pub number_value : List Named → List ℕ → Option Value
number_value statuses word = or_else (option_map Number (number_of word)) (value_in statuses word)

-- the refusal or the answer that a word writes
abbrev pub answer_value : List Named → List ℕ → Option Value
answer_value refusals word = or_else (value_in refusals word) (option_map Answered (answer_named word))

-- what a word writes that a step can be answered
abbrev pub reply_value : Scope → List ℕ → Option Value
reply_value scope word =
    or_else (owner_value word)
    (or_else (number_value scope.statuses.now word) (or_else (truth_value word) (answer_value scope.refusals.now word)))

-- the value of this sort that a word writes
abbrev pub value_named : Scope → Sort → List ℕ → Option Value
value_named scope sort.Reply word = reply_value scope word
value_named scope sort.Owner word = owner_value word
value_named scope sort.Number word = number_value scope.statuses.now word
value_named scope sort.Truth word = truth_value word
