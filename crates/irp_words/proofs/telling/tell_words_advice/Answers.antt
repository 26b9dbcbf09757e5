use Rattle.std.proofs.Common.{true}
use Rattle.irp_words.proofs.ToldOfWords.{told_of_words}
use Rattle.irp_words.proofs.telling.tell_words_advice.Goals as goal

pub returns-in-Ok-json : goal.returns-in-Ok-json
returns-in-Ok-json g c =
    told_of_words c.args.text.now c.in-Ok.said c.in-Ok-json.told true c.tell_told.result c.in-Ok.ensures.lines
    c.in-Ok-json.ensures.told c.tell_told.ensures
