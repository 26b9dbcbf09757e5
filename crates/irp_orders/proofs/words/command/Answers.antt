-- The command that is built is the one of the definition.
use Rattle.std.proofs.Common.{◌∙◌, ◌≡◌, ap₂}
use Rattle.std.proofs.lemmas.Result.{IfOk-weaker}
use Rattle.clap.specs.Words.{AddsArg, app_of, with_rule}
use Rattle.clap.specs.declared.builder.command.Command.{Command}
use Rattle.irp_orders.specs.CommandLine.{command_line}
use Rattle.irp_orders.proofs.words.command.Goals as goal

pub returns : goal.returns
returns c =
    let file = c.in_ok-command.ensures.shape c.new-2.ensures.optional.1 ∙ ap₂ with_rule c.new.ensures.app c.new-2.ensures.rule in
    let ends = c.in_ok-command-2.ensures.shape c.flag.ensures.1 ∙ ap₂ with_rule file c.flag.ensures.0 in
    let groups = c.in_ok-command-3.ensures.shape c.flag-2.ensures.1 ∙ ap₂ with_rule ends c.flag-2.ensures.0 in
    let right = c.in_ok-command-4.ensures.shape c.flag-3.ensures.1 ∙ ap₂ with_rule groups c.flag-3.ensures.0 in
    let states = c.in_ok-command-5.ensures.shape c.number.ensures.1 ∙ ap₂ with_rule right c.number.ensures.0 in
    let outcomes = c.in_ok-command-6.ensures.shape c.number-2.ensures.1 ∙ ap₂ with_rule states c.number-2.ensures.0 in
    let shown = c.in_ok-command-7.ensures.shape c.number-3.ensures.1 ∙ ap₂ with_rule outcomes c.number-3.ensures.0 in
    IfOk-weaker c.arg-8.result (λ (command : Command). AddsArg c.in_ok-command-7.command c.never.result command)
    (λ (command : Command). app_of command ≡ command_line)
    (λ command adds. adds.shape c.never.ensures.1 ∙ ap₂ with_rule shown c.never.ensures.0) c.arg-8.ensures
