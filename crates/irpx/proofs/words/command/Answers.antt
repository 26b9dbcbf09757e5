-- The command that is built is the one of the definition.
use Rattle.std.proofs.Common.{rules, ap, ap₂, codes, Bool, true, false, ◌||◌, ◌≡◌, ◌∙◌}
use Rattle.std.proofs.lemmas.Result.{IfOk-weaker}
use Rattle.clap.specs.Simple.{on_top}
use Rattle.clap.specs.Words.{App, AddsSubcommand, app_of, new_app, rule_of, with_rule, with_subcommand}
use Rattle.clap.specs.declared.builder.arg.Arg.{Arg}
use Rattle.clap.specs.declared.builder.command.Command.{Command}
use Rattle.irpx.specs.CommandLine.{command_line, workers_option}
use Rattle.irpx.proofs.words.command.Goals as goal

abbrev with_demo : App
with_demo = with_subcommand (on_top (λ shape. record shape { subcommand_required = true }) (new_app (codes "irpx"))) (new_app (codes "demo")).top

abbrev run_app : App
run_app = with_rule (new_app (codes "run")) workers_option

pub returns : goal.returns
returns c =
    let option_is : rule_of c.action-workers.result ≡ workers_option = search rules in
    let narrow : c.action-workers.result.global ≡ false = ap (λ (arg : Arg). arg.global) c.action-workers.ensures ∙ (ap (λ (arg : Arg). arg.global) c.long.ensures ∙ c.new.ensures.optional.1) in
    let run_is : app_of c.in_ok-run.run' ≡ run_app = c.in_ok-run.ensures.shape narrow ∙ ap₂ with_rule c.new-2.ensures.app option_is in
    let demo_is : app_of c.in_ok-command.command ≡ with_demo = search rules in
    let both_is : app_of c.in_ok-command-2.command ≡ with_subcommand with_demo run_app.top =
    c.in_ok-command-2.ensures.shape (c.in_ok-run.ensures.globals ∙ ap₂ (λ (one other : Bool). one || other) c.new-2.ensures.local narrow)
    ∙ ap₂ with_subcommand demo_is (ap (λ (app : App). app.top) run_is) in
    IfOk-weaker c.subcommand-3.result (λ (command : Command). AddsSubcommand c.in_ok-command-2.command c.new-5.result command)
    (λ (command : Command). app_of command ≡ command_line)
    (λ command adds. adds.shape c.new-5.ensures.local ∙ ap₂ with_subcommand both_is (ap (λ (app : App). app.top) c.new-5.ensures.app))
    c.subcommand-3.ensures
