use Rattle.std.proofs.Common.{arith}
use Rattle.lens_classes.specs.Classes.{is_in}
use Rattle.lens_classes.proofs.Bits.{beyond_within}
use Rattle.lens_classes.proofs.Plain.{asked_there}
use Rattle.lens_classes.proofs.classes.class_terms.Goals as goal

pub returns-clause-fits : goal.returns-clause-fits
returns-clause-fits c = record {
  low = omega arith;
  high =
      let within = beyond_within c.args.problem.now c.args.member c.args.lens.now (is_in c.args.granted) in
      let e = c.class_beyond-beyond.ensures.beyond in
      omega (arith, within, e);
  asked = asked_there c.args.problem.now c.args.member c.args.goal.now c.args.lens.now c.asked_bid.result c.asked_bid.ensures.asked;
}
