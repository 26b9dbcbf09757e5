-- Objects as rows, as texts.
use Rattle.std.specs.Prelude.{ℕ, List, [], ◌∷◌, ◌++◌, codes}
use Rattle.std.specs.Borrow.{Bor}
use Rattle.serde_json.specs.Data.{Data, boolean}
use Rattle.serde_json.specs.Written.{compact_text}
use Rattle.irp_transcript_writer.specs.Json.{natural, or_null}
use Rattle.irp_transcript_writer.specs.Lines.{cancel_json, irp_json, lock_json, party_json, setting_json}
use Rattle.irp_transcript_writer.specs.Lines.{word_reply_json}
use Rattle.irp_transcript_writer.specs.declared.rows.Part.{Part}
use Rattle.irp_transcript_writer.specs.declared.rows.Part.TheVariants as part

-- what stands under a key
abbrev pub part_json : Part → Data
part_json (part.Number number) = natural number
part_json (part.Flag flag) = boolean flag
part_json (part.Party party) = party_json party
part_json (part.Irp irp) = irp_json irp
part_json (part.Lock lock) = or_null lock_json lock
part_json (part.Cancel cancel) = or_null cancel_json cancel
part_json (part.Setting setting) = setting_json setting
part_json (part.Reply reply) = word_reply_json reply

-- what stands under each key, behind the text before it, and a brace
abbrev pub row_text : List (Bor (List ℕ) × Part) → List ℕ
row_text [] = codes "}"
row_text (member ∷ others) = member.0.now ++ (compact_text (part_json member.1) ++ row_text others)
