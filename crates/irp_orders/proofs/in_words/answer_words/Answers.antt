use Rattle.std.proofs.Common.{inr, string_bytes}
use Rattle.irp_orders.proofs.in_words.answer_words.Goals as goal

pub returns-in-Ok : goal.returns-in-Ok
returns-in-Ok g c =
    inr (c.in-Ok.told.script, string_bytes c.in-Ok.told.text, c.in-Ok.ensures.said, c.in-Ok.ensures.read, c.answer.ensures)
