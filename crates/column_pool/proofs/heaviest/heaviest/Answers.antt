use Rattle.std.proofs.Common.{◌≡◌, ◌+◌, ap, sym, subst, ◌∙◌, to_z, of_z, w64, FitsSigned, rules, List, ℕ, ℤ, Option}
use Rattle.std.proofs.lemmas.Bool.{false≢true}
use Rattle.std.proofs.lemmas.Int.{to_z-of_z}
use Rattle.roster_model.specs.Rounds.{IsStandardLine}
use Rattle.roster_model.specs.Weights.{weight_of}
use Rattle.column_pool.specs.Heaviest.{IsHeaviest, weight_at_place}
use Rattle.column_pool.proofs.Heavier.{HasWeight, heaviest_kept, heaviest_taken}
use Rattle.column_pool.proofs.heaviest.heaviest.Goals as goal
use Rattle.column_pool.proofs.heaviest.heaviest.Goals.{then-branch, else-branch}

pub loop-place-preserved : goal.loop-place-preserved
loop-place-preserved c =
    let same : c.line-line.result.now ≡ _ = c.line-line.ensures.line in
    let here : c.weigh-weight.result ≡ weight_at_place c.args.weights.now c.args.lines.now c.loop-place.place =
    c.weigh-weight.ensures.value ∙ ap (λ (line : List ℕ). weight_of c.args.weights.now line) same in
    let fits : FitsSigned w64 c.weigh-weight.result = search rules in
    let kept : to_z w64 (of_z w64 c.weigh-weight.result) ≡ c.weigh-weight.result = to_z-of_z w64 c.weigh-weight.result fits in
    let standard = λ (line : List ℕ). IsStandardLine c.args.problem.now c.args.goal.now c.args.node.now c.args.member line in
    elim c.if-branch.branch [
      | then-branch w ↦
          let both = c.in_ok-is_heavier.ensures.heavier w.if-branch.true in
          record {
            is =
                subst (λ (h : Option ℕ). IsHeaviest c.args.problem.now c.args.goal.now c.args.node.now c.args.member c.args.weights.now c.args.lines.now (c.loop-place.place + 1) h) (sym w.heaviest-is)
                (heaviest_taken c.args.problem.now c.args.goal.now c.args.node.now c.args.member c.args.weights.now c.args.lines.now c.loop-place.place
                c.loop-place.heaviest (to_z w64 c.loop-place.most-bits) (to_z w64 (of_z w64 c.weigh-weight.result)) c.loop-place.invariant.is c.loop-place.invariant.weighed (kept ∙ here)
                both.0 (subst standard same both.1));
            weighed =
                subst (λ (h : Option ℕ). HasWeight c.args.weights.now c.args.lines.now h (to_z w64 c.if-branch.most-bits)) (sym w.heaviest-is)
                (sym (w.most-is ∙ kept ∙ here));
          }
      | else-branch w ↦
          record {
            is =
                subst (λ (h : Option ℕ). IsHeaviest c.args.problem.now c.args.goal.now c.args.node.now c.args.member c.args.weights.now c.args.lines.now (c.loop-place.place + 1) h) (sym w.heaviest-is)
                (heaviest_kept c.args.problem.now c.args.goal.now c.args.node.now c.args.member c.args.weights.now c.args.lines.now c.loop-place.place
                c.loop-place.heaviest (to_z w64 c.loop-place.most-bits) (to_z w64 (of_z w64 c.weigh-weight.result)) c.loop-place.invariant.is c.loop-place.invariant.weighed (kept ∙ here)
                (λ above standard_here. false≢true (sym w.if-branch.false ∙ c.in_ok-is_heavier.ensures.other above (subst standard (sym same) standard_here))));
            weighed =
                subst (λ (h : Option ℕ). HasWeight c.args.weights.now c.args.lines.now h (to_z w64 c.if-branch.most-bits)) (sym w.heaviest-is)
                (subst (λ (m : ℤ). HasWeight c.args.weights.now c.args.lines.now c.loop-place.heaviest m) (sym w.most-is) c.loop-place.invariant.weighed);
          }
    ]
