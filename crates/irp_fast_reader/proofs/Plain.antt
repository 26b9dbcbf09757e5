-- The compact text of a value that stands is printable ASCII. So it is UTF-8, and has no newline.
use Rattle.std.proofs.Common.{◌≡◌, ℕ, zero, suc, ◌<◌, ◌==◌, ◌||◌, nat_lt, List, [], ◌∷◌, ◌++◌, Bool, true, false, cond, decimal, refl, arith}
use Rattle.std.specs.Prelude.{⊤, IsUtf8, IsAscii}
use Rattle.std.specs.Str.Parse.{AllDigits}
use Rattle.std.proofs.lemmas.Bool.{ne_eqb, and_parts, ltb-true, lt-ltb, le-ltb}
use Rattle.std.proofs.lemmas.Fmt.{decimal_is_IsNumeral}
use Rattle.std.proofs.lemmas.Str.{IsUtf8-from_ascii}
use Rattle.std.proofs.lemmas.Str.Ascii.{IsAscii-nil, IsAscii-cons}
use Rattle.std.proofs.lemmas.Str.Parse.{digit_from_value}
use Rattle.json.specs.Print.{escape_byte, escape, quoted}
use Rattle.serde_json.specs.Data.{unsigned, negative, float, Data, null, boolean, number, string, array, object, Items, no_items, item, Members, no_members, member}
use Rattle.serde_json.specs.Written.{compact_text, items_text, members_text, comma_if}
use Rattle.irp_fast_reader.proofs.Stands.{are_plain, keys_plain, Stands, ItemsStand, MembersStand}

-- printable ASCII
abbrev pub IsPlain : List ℕ → Type 0
IsPlain [] = ⊤
IsPlain (byte ∷ bytes) = (31 < byte) × (byte < 128) × IsPlain bytes

plain_test : (bytes : List ℕ) → are_plain bytes ≡ true → IsPlain bytes
plain_test [] h = tt
plain_test (byte ∷ bytes) h =
    let both = and_parts _ _ h in
    let range = and_parts _ _ both.0 in
    (ltb-true 31 byte range.0, ltb-true byte 128 range.1, plain_test bytes both.1)

plain_append : (one other : List ℕ) → IsPlain one → IsPlain other → IsPlain (one ++ other)
plain_append [] other h k = k
plain_append (byte ∷ bytes) other h k = (h.0, h.1, plain_append bytes other h.2 k)

plain_byte : (byte : ℕ) (bytes : List ℕ) → 31 < byte → byte < 128 → IsPlain bytes → IsPlain (byte ∷ bytes)
plain_byte byte bytes low high h = (low, high, h)

-- a plain byte in a string: itself, or a backslash before it
escaped : (byte : ℕ) (quote control : Bool) (long : List ℕ) → 31 < byte → byte < 128 → control ≡ false
    → IsPlain (cond (nat_lt 0 (cond quote byte 0)) (92 ∷ cond quote byte 0 ∷ []) (cond control long (byte ∷ [])))
escaped byte true control long low high is = rw (lt-ltb 0 byte (omega arith)) (omega arith, omega arith, (low, high, tt))
escaped byte false control long low high is = rw is (low, high, tt)

escape_byte_plain : (byte : ℕ) → 31 < byte → byte < 128 → IsPlain (escape_byte byte)
unfolding escape_byte
escape_byte_plain byte low high =
    rw (
      ne_eqb byte 8 (λ e. omega arith),
      ne_eqb byte 12 (λ e. omega arith),
      ne_eqb byte 10 (λ e. omega arith),
      ne_eqb byte 13 (λ e. omega arith),
      ne_eqb byte 9 (λ e. omega arith),
    )
    (escaped byte ((byte == 34) || (byte == 92)) (nat_lt byte 32) _ low high (le-ltb byte 32 (omega arith)))

escape_plain : (text : List ℕ) → IsPlain text → IsPlain (escape text)
escape_plain [] h = tt
escape_plain (byte ∷ bytes) h = plain_append (escape_byte byte) (escape bytes) (escape_byte_plain byte h.0 h.1) (escape_plain bytes h.2)

quoted_plain : (text : List ℕ) → are_plain text ≡ true → IsPlain (quoted text)
quoted_plain text h =
    plain_byte 34 _ (omega arith) (omega arith) (plain_append (escape text) (34 ∷ []) (escape_plain text (plain_test text h)) (plain_test (34 ∷ []) refl))

digits_plain : (digits : List ℕ) → AllDigits 10 digits → IsPlain digits
digits_plain [] h = tt
digits_plain (digit ∷ digits) h =
    let range = digit_from_value digit h.0 in
    (omega (arith, range), omega (arith, range), digits_plain digits h.1)

comma_plain : (later : Bool) (text : List ℕ) → IsPlain text → IsPlain (comma_if later ++ text)
comma_plain true text h = plain_byte 44 text (omega arith) (omega arith) h
comma_plain false text h = h

mutual
  text_plain : (d : Data) (levels : ℕ) → Stands d levels → IsPlain (compact_text d)
  text_plain null levels h = plain_test (compact_text null) refl
  text_plain (boolean true) levels h = plain_test (compact_text (boolean true)) refl
  text_plain (boolean false) levels h = plain_test (compact_text (boolean false)) refl
  text_plain (number (unsigned n)) levels h = digits_plain (decimal n) (decimal_is_IsNumeral n h).0.1
  text_plain (number (negative z)) levels h = absurd h
  text_plain (number (float x)) levels h = absurd h
  text_plain (string s) levels h = quoted_plain s h
  text_plain (array ds) zero h = absurd h
  text_plain (array ds) (suc levels) h = plain_byte 91 _ (omega arith) (omega arith) (items_plain false ds levels h)
  text_plain (object ms) zero h = absurd h
  text_plain (object ms) (suc levels) h = plain_byte 123 _ (omega arith) (omega arith) (members_plain false ms levels h.1 h.2)

  items_plain : (later : Bool) (ds : Items) (levels : ℕ) → ItemsStand ds levels → IsPlain (items_text later ds)
  items_plain later no_items levels h = plain_test (items_text later no_items) refl
  items_plain later (item d ds) levels h =
      comma_plain later _ (plain_append (compact_text d) (items_text true ds) (text_plain d levels h.0) (items_plain true ds levels h.1))

  members_plain : (later : Bool) (ms : Members) (levels : ℕ) → keys_plain ms ≡ true → MembersStand ms levels → IsPlain (members_text later ms)
  members_plain later no_members levels keys h = plain_test (members_text later no_members) refl
  members_plain later (member k d ms) levels keys h =
      let both = and_parts _ _ keys in
      comma_plain later _
      (plain_append (quoted k) _ (quoted_plain k both.0)
      (plain_byte 58 _ (omega arith) (omega arith)
      (plain_append (compact_text d) (members_text true ms) (text_plain d levels h.0) (members_plain true ms levels both.1 h.1))))

ascii : (bytes : List ℕ) → IsPlain bytes → IsAscii bytes
ascii [] h = IsAscii-nil
ascii (byte ∷ bytes) h = IsAscii-cons byte bytes h.1 (ascii bytes h.2)

-- plain bytes are UTF-8
pub utf8_plain : (bytes : List ℕ) → IsPlain bytes → IsUtf8 bytes
utf8_plain bytes h = IsUtf8-from_ascii bytes (ascii bytes h)

-- the compact text of a value that stands is plain
pub plain : (d : Data) (levels : ℕ) → Stands d levels → IsPlain (compact_text d)
plain = text_plain
