use Rattle.std.proofs.Common.{string_bytes}
use Rattle.irp_words.proofs.telling.tell_json.Goals as goal

pub returns-in-Ok-put_all : goal.returns-in-Ok-put_all
returns-in-Ok-put_all g c =
    let out = rw c.as_bytes.ensures.value at c.in-Ok-put_all.ensures.ok in
    (c.in-Ok.told.script, string_bytes c.in-Ok.told.text, c.in-Ok.ensures.said, c.in-Ok.ensures.read, out)
