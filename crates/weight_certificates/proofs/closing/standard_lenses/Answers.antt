use Rattle.std.proofs.Common.{◌+◌, ◌∷◌, [], ℕ, length, length-append, ap, ◌∙◌, List}
use Rattle.roster_model.specs.declared.proof.Lens.{Lens}
use Rattle.roster_model.specs.Lenses.{IsLens, IsStandardLens}
use Rattle.weight_certificates.proofs.Facts.{each_more}
use Rattle.weight_certificates.proofs.closing.standard_lenses.Goals as goal

pub loop-member-preserved : goal.loop-member-preserved
loop-member-preserved c =
    let before = c.loop-member.invariant in
    let added = c.in_ok-append.ensures.added in
    record {
      lines = ap (λ (xs : List Lens). length xs) added ∙ length-append c.loop-member.lenses (c.standard_lens.result ∷ []) ∙ ap (λ (n : ℕ). n + 1) before.lines;
      standard =
          each_more (λ (m : ℕ) (lens : Lens). IsStandardLens c.args.problem.now m lens) c.loop-member.lenses c.append.new.list c.standard_lens.result c.loop-member.member
          before.standard before.lines c.standard_lens.ensures.standard added;
      shapes =
          each_more (λ (m : ℕ) (lens : Lens). IsLens c.args.problem.now m lens) c.loop-member.lenses c.append.new.list c.standard_lens.result c.loop-member.member
          before.shapes before.lines c.standard_lens.ensures.shape added;
    }
