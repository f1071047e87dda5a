use Rattle.std.proofs.Common.{◌≡◌, ◌∙◌, ap, ap₂, sym, List, [], ◌∷◌, map, fold}
use Rattle.std.proofs.lemmas.List.Elements.{All-head, All-tail}
use Rattle.std.proofs.lemmas.Result.{IfOk-weaker}
use Rattle.std.specs.List.{All}
use Rattle.clap.specs.Built.{AddsArg, AddsInTurn}
use Rattle.clap.specs.Words.{App, app_of, rule_of, with_rule}
use Rattle.clap.specs.declared.builder.arg.Arg.{Arg}
use Rattle.clap.specs.declared.builder.command.Command.{Command}
use Rattle.gr_cli.specs.Arguments.{simple_command}
use Rattle.gr_cli.specs.ClapWords.{IsOwn}
use Rattle.gr_cli.proofs.arguments.simple_command.Goals as goal

-- Arguments that are added in turn are the command's last ones.
added : (arguments : List Arg) (before after : Command)
    → AddsInTurn AddsArg before arguments after → All IsOwn arguments
    → app_of after ≡ fold with_rule (app_of before) (map rule_of arguments)
added [] before after same own = ap app_of (sym same)
added (argument ∷ arguments) before after adds own =
    let next = adds.1.shape (All-head IsOwn argument arguments own) in
    added arguments adds.0 after adds.2 (All-tail IsOwn argument arguments own)
    ∙ ap (λ (app : App). fold with_rule app (map rule_of arguments)) next

pub returns : goal.returns
unfolding simple_command
returns c = IfOk-weaker _ _ _ (λ command adds.
    added _ _ command adds c.in_ok-arguments.ensures.own
    ∙ ap₂ (fold with_rule) c.bare_command.ensures c.in_ok-arguments.ensures.rules) c.args-2.ensures
