use Rattle.std.proofs.Common.{rules, ◌≡◌, codes, refl}
use Rattle.std.proofs.lemmas.Result.{IfOk-weaker}
use Rattle.clap.specs.Words.{App, app_of, new_app, rule_of, with_rule, with_subcommand}
use Rattle.command_words.specs.Reading.{made_commands, needed_rule}
use Rattle.command_words.proofs.Shapes.{told_command, told_more, told_one}
use Rattle.command_words.proofs.grammar.with_desk.Goals as goal

pub returns : goal.returns
returns c =
    let migrate : App = new_app (codes "migrate") in
    let trade : App = new_app (codes "trade") in
    let calendar : App = with_rule (new_app (codes "calendar")) (needed_rule (codes "member")) in
    let one : App = with_subcommand made_commands migrate.top in
    let two : App = with_subcommand one trade.top in
    let member : rule_of c.needed.result ≡ needed_rule (codes "member") = search rules in
    let migrate_is : app_of c.new.result ≡ migrate = search rules in
    let trade_is : app_of c.new-2.result ≡ trade = search rules in
    let first : app_of c.in_ok-first.first ≡ one =
    told_command made_commands migrate c.in_ok-made.made c.new.result c.in_ok-first.first c.in_ok-made.ensures.shape migrate_is refl c.in_ok-first.ensures in
    let second : app_of c.in_ok-second.second ≡ two =
    told_command one trade c.in_ok-first.first c.new-2.result c.in_ok-second.second first trade_is refl c.in_ok-second.ensures in
    let calendar_is = told_one (codes "calendar") (codes "calendar") (rule_of c.needed.result) (needed_rule (codes "member")) c.with_one.result refl member c.with_one.ensures.shape in
    record {
      shape = IfOk-weaker c.and_command.result _ _
          (λ m h. told_more two calendar c.in_ok-second.second m c.with_one.result second calendar_is refl h) c.and_command.ensures.shape;
    }
