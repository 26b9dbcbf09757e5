-- The command that is built is the one of the definition.
use Rattle.std.proofs.Common.{rules, codes, true, ◌≡◌}
use Rattle.std.proofs.lemmas.Result.{IfOk-weaker}
use Rattle.clap.specs.Simple.{App, new_app, on_top}
use Rattle.clap.specs.Words.{AddsSubcommand, app_of}
use Rattle.clap.specs.declared.builder.command.Command.{Command}
use Rattle.irp_command_line.proofs.Matching.{adds_line}
use Rattle.irp_words.specs.CommandLine.{command_line, faults_line, json_line, tables_line, words_line}
use Rattle.irp_words.proofs.words.command.Goals as goal

abbrev first : App
first = on_top (λ shape. record shape { subcommand_required = true }) (new_app (codes "irp_words"))

pub returns : goal.returns
returns c =
    let first_is : app_of c.subcommand_required-command.result ≡ first = search rules in
    let with_json = adds_line _ _ _ first json_line c.in_ok-command.ensures first_is c.in_ok-json.ensures in
    let with_words = adds_line _ _ _ _ words_line c.in_ok-command-2.ensures with_json c.in_ok-words.ensures in
    let with_tables = adds_line _ _ _ _ tables_line c.in_ok-command-3.ensures with_words c.tables.ensures in
    IfOk-weaker c.subcommand-4.result (λ (command : Command). AddsSubcommand c.in_ok-command-3.command c.in_ok-faults.faults command)
    (λ (command : Command). app_of command ≡ command_line)
    (λ command adds. adds_line _ _ command _ faults_line adds with_tables c.in_ok-faults.ensures)
    c.subcommand-4.ensures
