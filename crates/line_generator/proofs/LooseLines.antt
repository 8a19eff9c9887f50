-- Lines that need not come to a least credit.
use Rattle.std.proofs.Common.{ℕ, List, arith}
use Rattle.roster_model.specs.declared.node.Decision.{Decision}
use Rattle.roster_model.specs.declared.problem.Problem.{Problem}
use Rattle.roster_model.specs.declared.proof.Lens.{Lens}
use Rattle.lens_classes.specs.TermLines.{IsTermLine}
use Rattle.lens_classes.specs.declared.terms.Terms.{Terms}
use Rattle.line_generator.specs.Questions.{without_low}

module _ (problem : Problem) (member : ℕ) (node : List Decision) (lens : Lens) (terms : Terms) where
  -- a line that keeps the terms keeps those with no least credit
  pub loosened : (line : List ℕ) → IsTermLine problem member node lens terms line → IsTermLine problem member node lens (without_low terms) line
  loosened line is = record {
    ascending = is.ascending;
    in_range = is.in_range;
    obeys = is.obeys;
    apart = is.apart;
    rested = is.rested;
    least_credit = omega (arith);
    most_credit = is.most_credit;
    floor = is.floor;
    grant = is.grant;
    counts = is.counts;
    free = is.free;
    nights = is.nights;
    enough_days_off = is.enough_days_off;
    windows = is.windows;
  }
