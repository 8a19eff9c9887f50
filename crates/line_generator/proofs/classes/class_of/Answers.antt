use Rattle.std.proofs.Common.{◌≡◌, [], arith}
use Rattle.lens_classes.specs.Classes.{is_in}
use Rattle.line_generator.proofs.ClassBests.{loses_none}
use Rattle.term_lines.proofs.FoundLines.{at_none, at_some}
use Rattle.line_generator.proofs.Reaching.{out_of_reach}
use Rattle.line_generator.proofs.ScarceBids.{scarce_none}
use Rattle.line_generator.proofs.classes.class_of.Goals as goal

pub returns-in_default-clause-none : goal.returns-in_default-clause-none
returns-in_default-clause-none c = λ node line is. at_none _ _ c.in_default.is c.class_terms.ensures.none is.is

pub returns-then-loses_implied-clause-none : goal.returns-then-loses_implied-clause-none
returns-then-loses_implied-clause-none c = λ node line is.
    loses_none c.args.problem.now c.args.member c.args.goal.now node c.args.lens.now [] (is_in c.args.granted) c.in-Some.terms c.in-Some.ensures.terms c.in-Some.ensures.fits
    (c.loses_implied.ensures.implied c.if-loses_implied.true) line is

pub returns-then-terms-from-clause-none : goal.returns-then-terms-from-clause-none
returns-then-terms-from-clause-none c = λ node line is.
    let over = c.if-terms-from.true in
    let from : c.from.result ≡ c.bids_weight.result = c.from.ensures in
    out_of_reach c.args.problem.now c.args.member node c.in_ok-narrow.narrow c.in-Some.terms c.bids_weight.result c.bids_weight.ensures.weight (omega (arith, over, from)) line
    (is.keeps c.in-Some.terms c.in_ok-narrow.narrow c.in-Some.ensures.terms c.in_ok-narrow.ensures.class)

pub returns-then-counts_scarce-clause-none : goal.returns-then-counts_scarce-clause-none
returns-then-counts_scarce-clause-none c = λ node line is.
    scarce_none c.args.problem.now c.args.member node c.in_ok-narrow.narrow c.in-Some.terms line (c.counts_scarce.ensures.scarce c.if-counts_scarce.true)
    (is.keeps c.in-Some.terms c.in_ok-narrow.narrow c.in-Some.ensures.terms c.in_ok-narrow.ensures.class)

pub returns-clause-class : goal.returns-clause-class
returns-clause-class c = record {
  is = at_some _ _ _ c.in-Some.is c.class_terms.ensures.class;
  are_terms = at_some _ _ _ c.in-Some.is c.class_terms.ensures.terms;
  is_lens = c.in_ok-narrow.ensures.class;
  fits = at_some _ _ _ c.in-Some.is c.class_terms.ensures.fits;
  shape = c.in_ok-narrow.ensures.shape;
}
