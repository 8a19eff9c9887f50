use Rattle.std.proofs.Common.{sym, subst, ℕ, List}
use Rattle.std.specs.Prelude.{All}
use Rattle.std.proofs.lemmas.List.Elements.{All-push}
use Rattle.roster_model.specs.Rounds.{IsStandardLine}
use Rattle.weight_certificates.proofs.columns.passing.Goals as goal

pub loop-part-preserved : goal.loop-part-preserved
loop-part-preserved c =
    let P = λ (line : List ℕ). IsStandardLine c.args.problem.now c.args.goal.now c.args.node.now c.args.member line in
    let passes : IsStandardLine c.args.problem.now c.args.goal.now c.args.node.now c.args.member c.part-item.result.line = record {
      lens = c.args.lens.now;
      standard = c.requires.standard;
      passes = c.in_ok-lens_line.ensures.passes.0 c.if-not-branch.false;
    } in
    subst (λ (lines : List (List ℕ)). All P lines) (sym c.in_ok-append.ensures.added)
    (All-push P c.loop-part.lines c.in_ok-copy.field-0 c.loop-part.invariant (subst P (sym c.in_ok-copy.ensures.equal) passes))
