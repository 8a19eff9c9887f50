use Rattle.std.proofs.Common.{FitsSigned, w64, rules, refl}
use Rattle.std.proofs.lemmas.Int.{to_z-of_z}
use Rattle.term_lines.proofs.FoundLines.{line_found, weight_found}
use Rattle.term_lines.proofs.question.TermQuestion.line_of.Goals as goal

pub returns-clause-line : goal.returns-clause-line
returns-clause-line g c = line_found c.requires.stands c.args.traced.now.arcs c.args.traced.now.gain _ _ _ c.in_ok-line.line c.requires.chain c.len-count.ensures refl c.as_slice.ensures c.in_ok-line.ensures.line

pub returns-clause-weight : goal.returns-clause-weight
returns-clause-weight g c =
    let range : FitsSigned w64 c.args.traced.now.gain = search rules in
    rw to_z-of_z (weight_found c.requires.stands c.args.traced.now.arcs c.args.traced.now.gain _ _ _ c.in_ok-line.line c.requires.chain c.len-count.ensures refl c.as_slice.ensures c.in_ok-line.ensures.line)

pub returns-clause-gain : goal.returns-clause-gain
returns-clause-gain g c =
    let range : FitsSigned w64 c.args.traced.now.gain = search rules in
    to_z-of_z w64 c.args.traced.now.gain range
