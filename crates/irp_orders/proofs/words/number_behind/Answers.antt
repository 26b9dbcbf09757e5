use Rattle.std.specs.Str.Parse.{ExplainsUnsignedError, HasUnsignedDigitsIfOk, ParsesUnsigned}
use Rattle.clap.specs.Matches.{found_of}
use Rattle.irp_orders.proofs.CommandLine.{number_said}
use Rattle.irp_orders.proofs.words.number_behind.Goals as goal

pub returns : goal.returns
returns c =
    number_said (λ text read. ParsesUnsigned 64 10 text read × ExplainsUnsignedError 10 text read × HasUnsignedDigitsIfOk text read)
    (λ text read gives. gives.0) (found_of c.args.matches.now) c.args.name.now c.get_one.result c.get_one.ensures.none
    c.get_one.ensures.value
