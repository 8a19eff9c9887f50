use Rattle.count_graphs.proofs.FewCounted.{nothing_counted}
use Rattle.line_generator.proofs.question.Question.plain_terms.Goals as goal

pub returns-clause-asked : goal.returns-clause-asked
returns-clause-asked c = record {
  in_range = c.requires.asked.in_range;
  fits = c.plain_terms.ensures.fits;
  counted = nothing_counted c.args.self.now.problem.now c.args.self.now.member c.plain_terms.result c.plain_terms.ensures.none;
  decisions = c.requires.asked.decisions;
  shape = c.requires.asked.shape;
  plain = c.requires.plain;
  per_pairing = c.requires.asked.per_pairing;
  small = c.requires.asked.small;
}
