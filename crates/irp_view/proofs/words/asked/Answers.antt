-- What clap finds in the words says what comes of them.
use Rattle.std.proofs.Common.{Err}
use Rattle.irp_command_line.specs.CommandLine.{OfSubcommand}
use Rattle.irp_command_line.proofs.Matching.{faulted, matched_by_subcommand}
use Rattle.irp_program.specs.declared.words.Unasked.TheVariants.{NoMemory, Usage}
use Rattle.irp_view.specs.CommandLine.{FaultedBy, Reads, command_line}
use Rattle.irp_view.proofs.CommandLine.{command_line_is_free, command_line_is_simple}
use Rattle.irp_view.proofs.words.asked.Goals as goal

pub returns-in-Ok-try_get_matches_from : goal.returns-in-Ok-try_get_matches_from
returns-in-Ok-try_get_matches_from g c =
    let tried = c.in-Ok-try_get_matches_from in
    matched_by_subcommand FaultedBy Reads (Err Usage) (Err NoMemory) c.asked_of.result command_line _ _ tried.matches
    command_line_is_simple command_line_is_free c.in-Ok.ensures tried.ensures.matches tried.ensures.kinds
    c.asked_of.ensures.reads c.asked_of.ensures.none

pub returns-in-Err : goal.returns-in-Err
returns-in-Err g c =
    faulted FaultedBy (OfSubcommand Reads (Err Usage)) command_line _ _ _ c.asked_by.result (Err NoMemory) c.in-Err.error
    command_line_is_free c.in-Ok.ensures c.in-Err.ensures.kinds c.asked_by.ensures.memory c.asked_by.ensures.faulted
