-- What is written and the rest of the array are the whole.
use Rattle.std.proofs.Common.{◌≡◌, ◌++◌, drop, map}
use Rattle.serde_json.specs.View.{items_of}
use Rattle.serde_json.specs.Written.{compact_text, items_text}
use Rattle.irp_transcript_writer.specs.Json.{list}
use Rattle.irp_transcript_writer.proofs.form.put_list.Given as goal

abbrev pub invariant-loop-item : goal.invariant-loop-item
invariant-loop-item g l =
    l.out.items ++ items_text l.later (items_of (map g.T.Written.json (drop l.item-index l.items)))
    ≡ l.fn.out.items ++ compact_text (list (map g.T.Written.json l.items))
