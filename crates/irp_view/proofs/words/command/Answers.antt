-- The command that is built is the one of the definition.
use Rattle.std.proofs.Common.{rules, codes, true, ◌≡◌}
use Rattle.std.proofs.lemmas.Result.{IfOk-weaker}
use Rattle.clap.specs.Simple.{App, new_app, on_top}
use Rattle.clap.specs.Words.{AddsSubcommand, app_of}
use Rattle.clap.specs.declared.builder.command.Command.{Command}
use Rattle.irp_view.specs.CommandLine.{command_line, packet_line, story_line, text_line, why_line}
use Rattle.irp_command_line.proofs.Matching.{adds_line}
use Rattle.irp_view.proofs.words.command.Goals as goal

abbrev first : App
first = on_top (λ shape. record shape { subcommand_required = true }) (new_app (codes "irp_view"))

pub returns : goal.returns
returns c =
    let first_is : app_of c.subcommand_required-command.result ≡ first = search rules in
    let with_why = adds_line _ _ _ first why_line c.in_ok-command.ensures first_is c.in_ok-why.ensures in
    let with_text = adds_line _ _ _ _ text_line c.in_ok-command-2.ensures with_why c.in_ok-text.ensures in
    let with_packet = adds_line _ _ _ _ packet_line c.in_ok-command-3.ensures with_text c.in_ok-packet.ensures in
    IfOk-weaker c.subcommand-4.result (λ (command : Command). AddsSubcommand c.in_ok-command-3.command c.in_ok-story.story command)
    (λ (command : Command). app_of command ≡ command_line)
    (λ command adds. adds_line _ _ command _ story_line adds with_packet c.in_ok-story.ensures)
    c.subcommand-4.ensures
