-- The command line is one of those that clap's contract tells wholly.
use Rattle.std.proofs.Common.{◌≡◌, true, refl}
use Rattle.clap.specs.Words.{is_simple, is_simple_and_free}
use Rattle.clap.proofs.OnLiterals.{clap_on_literals}
use Rattle.irp_words.specs.CommandLine.{command_line}

pub command_line_is_simple : is_simple command_line ≡ true
unfolding clap_on_literals
command_line_is_simple = refl

pub command_line_is_free : is_simple_and_free command_line ≡ true
unfolding clap_on_literals
command_line_is_free = refl
