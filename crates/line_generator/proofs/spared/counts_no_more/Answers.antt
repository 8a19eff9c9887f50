use Rattle.std.proofs.Common.{◌≡◌, arith}
use Rattle.std.specs.Prelude.{bit_and}
use Rattle.std.proofs.lemmas.Bool.Decides.{nat_tests}
use Rattle.line_generator.proofs.SparedClasses.{in_both}
use Rattle.line_generator.proofs.spared.counts_no_more.Goals as goal

pub returns : goal.returns
returns c = record {
  counted = λ e bid h. in_both c.args.wide.now.counted c.args.terms.now.counted bid (let same : bit_and c.args.wide.now.counted c.args.terms.now.counted ≡ c.args.wide.now.counted = grind (arith, nat_tests) in same) h;
}
