use Rattle.std.proofs.Common.{◌∙◌, arith, refl}
use Rattle.lens_classes.specs.declared.terms.Terms.{Terms}
use Rattle.lens_classes.proofs.Before.{window_in_order}
use Rattle.lens_classes.proofs.Plain.{ArePlain, asked_there, plain_same}
use Rattle.lens_classes.proofs.classes.plain_terms.Goals as goal

pub returns-clause-same : goal.returns-clause-same
returns-clause-same c =
    let terms : Terms = record { low = c.low_of.result; high = c.high_of.result; days_off = c.rules_days.result; floor = c.from.result; asked = c.asked_bid.result; counted = 0 } in
    let are : ArePlain c.args.problem.now c.args.member c.args.goal.now c.args.lens.now terms = record {
      low = c.low_of.ensures.low;
      high = c.high_of.ensures.high;
      days_off = c.rules_days.ensures.days;
      floor = c.from.ensures ∙ c.floor_of.ensures.floor;
      asked = c.asked_bid.ensures.asked;
      counted = refl;
    } in
    plain_same c.args.problem.now c.args.member c.args.goal.now c.args.lens.now c.requires.lens c.requires.plain terms are

pub returns-clause-fits : goal.returns-clause-fits
returns-clause-fits c = record {
  low =
      let problem = c.args.problem.now in
      let order = window_in_order problem.base.rules.horizon problem.base.members c.args.member problem.valid.month.members_form.each in
      let low = c.low_of.ensures.low in
      let high = c.high_of.ensures.high in
      omega (arith, order, low, high);
  high = let high = c.high_of.ensures.high in omega (arith, high);
  asked = asked_there c.args.problem.now c.args.member c.args.goal.now c.args.lens.now c.asked_bid.result c.asked_bid.ensures.asked;
}
