use Rattle.std.proofs.Common.{ℤ, sym, subst}
use Rattle.term_lines.specs.Overs.{IsMost}
use Rattle.term_lines.specs.Questions.{KeepsTerms}
use Rattle.term_lines.proofs.FoundLines.{at_some, at_none, most_found, none_found}
use Rattle.term_lines.proofs.question.TermQuestion.best_line.Goals as goal

pub returns-in_default : goal.returns-in_default
returns-in_default g c = record { best = record { line = tt; weight = tt; most = tt; none = none_found c.requires.stands (at_none _ _ c.in_default.is c.requires.none) } }

pub line_of-requires-clause-chain : goal.line_of-requires-clause-chain
line_of-requires-clause-chain g c = at_some _ _ _ c.in-Some.is c.requires.attained

pub returns : goal.returns
returns g c = record {
  best = record {
    line = c.in_ok-priced.ensures.line;
    weight = c.in_ok-priced.ensures.weight;
    most = subst (λ (z : ℤ). IsMost (KeepsTerms c.args.self.now) c.args.self.now.weights.now z) (sym c.in_ok-priced.ensures.gain)
        (most_found c.requires.stands c.in-Some.traced.gain (at_some _ _ _ c.in-Some.is c.requires.greatest));
    none = tt;
  };
}
