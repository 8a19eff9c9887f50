use Rattle.std.proofs.Common.{◌≡◌, codes, refl}
use Rattle.std.proofs.lemmas.Result.{IfOk-weaker}
use Rattle.clap.specs.Words.{App, app_of, with_rule, with_subcommand}
use Rattle.command_words.specs.Reading.{month_commands, nodes_rule, sized_app}
use Rattle.command_words.proofs.Shapes.{told_more}
use Rattle.command_words.proofs.grammar.with_made.Goals as goal

pub returns : goal.returns
returns c =
    let make : App = sized_app (codes "make") in
    let trial : App = with_rule (sized_app (codes "trial")) nodes_rule in
    let made : app_of c.in_ok-made.made ≡ with_subcommand month_commands make.top =
    told_more month_commands make c.in_ok-month.month c.in_ok-made.made c.with_sizes.result c.in_ok-month.ensures.shape c.with_sizes.ensures.shape refl c.in_ok-made.ensures.shape in
    record {
      shape = IfOk-weaker c.and_command-2.result _ _
          (λ m h. told_more (with_subcommand month_commands make.top) trial c.in_ok-made.made m c.trial.result made c.trial.ensures.shape refl h) c.and_command-2.ensures.shape;
    }
