-- The compact text of a value that stands is read back as the value.
use Rattle.std.proofs.Common.{◌≡◌, ℕ, zero, suc, ◌≤◌, [], Some, option_map, option_and_then, refl, sym, ap, ◌∙◌, arith, append-nil}
use Rattle.json.specs.Lex.{tokens}
use Rattle.json.specs.Json as json
use Rattle.json.specs.Tree as tree
use Rattle.json.specs.Tree.{HasNumbers, ItemsHaveNumbers, MembersHaveNumbers}
use Rattle.json.proofs.Printed.Decimals.{IsNumber-decimal}
use Rattle.json.proofs.Printed.Tokens.{tokens-print}
use Rattle.json.proofs.Printed.Trees.{value-json_tokens, ArePrintable-json_tokens}
use Rattle.serde_json.specs.Data.{Num, unsigned, negative, float, Data, null, boolean, number, string, array, object, Items, no_items, item, Members, no_members, member, put}
use Rattle.serde_json.specs.Read.{number_of, of_json, of_items, of_members, max_depth, read}
use Rattle.serde_json.specs.Written.{number_text, outline, items_outline, members_outline, compact_text}
use Rattle.serde_json.proofs.Numbers.{number_of-decimal}
use Rattle.serde_json.proofs.Texts.{print-outline}
use Rattle.irp_fast_reader.proofs.Stands.{put_all, NumberStands, Stands, ItemsStand, MembersStand}

number_back : (n : Num) → NumberStands n → number_of (number_text n) ≡ Some n
number_back (unsigned n) h = number_of-decimal n h
number_back (negative z) h = absurd h
number_back (float x) h = absurd h

mutual
  numbers : (d : Data) (levels : ℕ) → Stands d levels → HasNumbers (outline d)
  numbers null levels h = tt
  numbers (boolean b) levels h = tt
  numbers (number (unsigned n)) levels h = IsNumber-decimal n h
  numbers (number (negative z)) levels h = absurd h
  numbers (number (float x)) levels h = absurd h
  numbers (string s) levels h = tt
  numbers (array ds) zero h = absurd h
  numbers (array ds) (suc levels) h = items_numbers ds levels h
  numbers (object ms) zero h = absurd h
  numbers (object ms) (suc levels) h = members_numbers ms levels h.2

  items_numbers : (ds : Items) (levels : ℕ) → ItemsStand ds levels → ItemsHaveNumbers (items_outline ds)
  items_numbers no_items levels h = tt
  items_numbers (item d ds) levels h = (numbers d levels h.0, items_numbers ds levels h.1)

  members_numbers : (ms : Members) (levels : ℕ) → MembersStand ms levels → MembersHaveNumbers (members_outline ms)
  members_numbers no_members levels h = tt
  members_numbers (member k d ms) levels h = (numbers d levels h.0, members_numbers ms levels h.1)

mutual
  back : (d : Data) (levels : ℕ) → Stands d levels → of_json (outline d) ≡ Some d
  back null levels h = refl
  back (boolean b) levels h = refl
  back (number n) levels h = ap (option_map number) (number_back n h)
  back (string s) levels h = refl
  back (array ds) zero h = absurd h
  back (array ds) (suc levels) h = ap (option_map array) (items_back ds levels h)
  back (object ms) zero h = absurd h
  back (object ms) (suc levels) h = ap (option_map object) (members_back no_members ms levels h.2 ∙ ap Some h.0)

  items_back : (ds : Items) (levels : ℕ) → ItemsStand ds levels → of_items (items_outline ds) ≡ Some ds
  items_back no_items levels h = refl
  items_back (item d ds) levels h = rw (back d levels h.0) (ap (option_map (item d)) (items_back ds levels h.1))

  members_back : (before ms : Members) (levels : ℕ) → MembersStand ms levels → of_members (members_outline ms) before ≡ Some (put_all ms before)
  members_back before no_members levels h = refl
  members_back before (member k d ms) levels h =
      ap (option_and_then (λ e. of_members (members_outline ms) (put k e before))) (back d levels h.0)
      ∙ members_back (put k d before) ms levels h.1

mutual
  shallow : (d : Data) (levels : ℕ) → Stands d levels → tree.depth (outline d) ≤ levels
  shallow null levels h = omega arith
  shallow (boolean b) levels h = omega arith
  shallow (number n) levels h = omega arith
  shallow (string s) levels h = omega arith
  shallow (array ds) zero h = absurd h
  shallow (array ds) (suc levels) h = omega (arith, items_shallow ds levels h)
  shallow (object ms) zero h = absurd h
  shallow (object ms) (suc levels) h = omega (arith, members_shallow ms levels h.2)

  items_shallow : (ds : Items) (levels : ℕ) → ItemsStand ds levels → tree.items_depth (items_outline ds) ≤ levels
  items_shallow no_items levels h = omega arith
  items_shallow (item d ds) levels h = omega (arith, shallow d levels h.0, items_shallow ds levels h.1)

  members_shallow : (ms : Members) (levels : ℕ) → MembersStand ms levels → tree.members_depth (members_outline ms) ≤ levels
  members_shallow no_members levels h = omega arith
  members_shallow (member k d ms) levels h = omega (arith, shallow d levels h.0, members_shallow ms levels h.1)

-- the text of a value that stands is read back
pub read_back : (d : Data) → Stands d max_depth → read (compact_text d) ≡ Some d
read_back d h =
    let ts = tree.json_tokens (outline d) in
    let lexed : tokens (compact_text d) ≡ ts = ap tokens (sym (print-outline d)) ∙ tokens-print ts (ArePrintable-json_tokens (outline d) (numbers d max_depth h)) in
    ap (λ us. option_and_then of_json (option_and_then (λ p. json.if_last p.0 p.1) (json.value max_depth us))) (lexed ∙ sym (append-nil ts))
    ∙ ap (λ o. option_and_then of_json (option_and_then (λ p. json.if_last p.0 p.1) o)) (value-json_tokens (outline d) max_depth [] (shallow d max_depth h))
    ∙ back d max_depth h
