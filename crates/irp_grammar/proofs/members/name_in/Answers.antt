use Rattle.std.proofs.Common.{arith}
use Rattle.std.proofs.lemmas.Str.Pattern.{strip_suffix_char}
use Rattle.irp_grammar.proofs.Giving.{is_name_in}
use Rattle.irp_grammar.proofs.members.name_in.Goals as goal

pub returns : goal.returns
returns c =
    is_name_in c.args.word.now c.strip_suffix.result
    (strip_suffix_char 58 c.args.word.now c.strip_suffix.result c.strip_suffix.ensures.cases (omega (arith)))
