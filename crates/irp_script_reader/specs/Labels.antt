-- The labels of a script, and how a step names a packet.
use Rattle.std.specs.Prelude.{ℕ, suc, ◌==◌, ◌&&◌, ◌||◌, List, [], ◌∷◌, ◌++◌, length, codes, Bool, nat_le}
use Rattle.std.specs.Prelude.{nat_lt, Option, Some, None, Result, Ok, Err, if◌then◌else◌}
use Rattle.std.specs.List.{list_all}
use Rattle.std.specs.Char.{is_ascii_alphanumeric}
use Rattle.std.proofs.Common.{bytes_eq}
use Rattle.serde_json.specs.Data.{Data, string}
use Rattle.serde_json.specs.Find.{get, as_str}
use Rattle.irp_forms.specs.Parts.{◌>>=◌}
use Rattle.irp_forms.specs.Values.{irp_at}
use Rattle.irp_script_reader.specs.declared.{act.Named.Named, refusal.MemberFault.MemberFault}
use Rattle.irp_script_reader.specs.declared.act.Named.TheVariants as named
use Rattle.irp_script_reader.specs.declared.refusal.MemberFault.TheVariants.{TooMany}

-- the most labels of a script
abbrev pub most_labels : ℕ
most_labels = 4096

-- an ASCII letter, a digit or an underscore
abbrev pub is_label_byte : ℕ → Bool
is_label_byte byte = is_ascii_alphanumeric byte || (byte == 95)

-- 1 to 32 of these
unfoldable pub is_label : List ℕ → Bool
is_label text = nat_le 1 (length text) && (nat_le (length text) 32 && list_all is_label_byte text)

-- a label's place among those that were named before; their number, where it wasn't
abbrev pub place_of : List ℕ → List (List ℕ) → ℕ
place_of label [] = 0
place_of label (first ∷ others) = if bytes_eq first label then 0 else suc (place_of label others)

-- the labels, once this one is named
unfoldable pub with_label : List (List ℕ) → List ℕ → Result (List (List ℕ)) MemberFault
with_label labels label =
    if nat_lt (place_of label labels) (length labels) then Ok labels else
    (if nat_lt (length labels) most_labels then Ok (labels ++ label ∷ []) else Err TooMany)

-- what a step has under `as` or, if it has no such key, under `irp`, where that is a text
abbrev pub text_under : Option Data → Data → Option (List ℕ)
text_under (Some given) form = as_str given
text_under None form = get (codes "irp") form >>= as_str

unfoldable pub label_at : Data → Option (List ℕ)
label_at form = text_under (get (codes "as") form) form

-- the place of the label that a step names, among those that were named before it
abbrev pub place_among : List (List ℕ) → Option (List ℕ) → ℕ
place_among labels None = 0
place_among labels (Some label) = place_of label labels

-- the labels, once a step names its own
abbrev pub with_labels : List (List ℕ) → Option (List ℕ) → Result (List (List ℕ)) MemberFault
with_labels labels None = Ok labels
with_labels labels (Some label) = with_label labels label

-- a packet by a label, which has this place, or by a reference
unfoldable pub named_at : ℕ → Data → Option Named
named_at place (string text) = if is_label text then Some (named.Label place) else None
named_at place form = irp_at form >>= λ irp. Some (named.Irp irp)
