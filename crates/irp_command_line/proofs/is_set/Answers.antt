-- The flag is the text that clap found for the word.
use Rattle.clap.specs.Matches.{found_of}
use Rattle.irp_command_line.proofs.Matching.{flag_said}
use Rattle.irp_command_line.proofs.is_set.Goals as goal

pub returns : goal.returns
returns c =
    flag_said (found_of c.args.matches.now) c.args.name.now c.get_flag.result c.get_flag.ensures.none c.get_flag.ensures.value
    c.get_flag.ensures.other
