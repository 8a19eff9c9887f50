use Rattle.std.proofs.Common.{◌≡◌, ◌<◌, ◌∷◌, [], ◌++◌, ◌∙◌, ap, sym, subst, arith, length, length-set, ℕ, List}
use Rattle.std.proofs.lemmas.List.{get_or_default}
use Rattle.roster_model.specs.Rosters.{line_at}
use Rattle.roster_model.specs.Rounds.{IsStandardLine}
use Rattle.weight_certificates.specs.Columns.{AreColumns, lines_of}
use Rattle.weight_certificates.proofs.ColumnSteps.{columns_more}
use Rattle.weight_certificates.proofs.columns.Columns.add.Goals as goal

pub loop-member-preserved : goal.loop-member-preserved
loop-member-preserved c =
    let count = c.loop-member.invariant.count in
    let longer = lines_of c.loop-member.self c.loop-member.member ++ c.in_ok-copy.field-0 ∷ [] in
    let lt : c.loop-member.member < length c.loop-member.self = omega (arith, c.loop-member-test.true, c.requires.per_member, count) in
    record {
      count = ap (λ (ls : List (List (List ℕ))). length ls) c.in_ok-add_line.ensures.added ∙ length-set c.loop-member.self c.loop-member.member longer ∙ count;
      are =
          λ problem goal node before round.
          let same : c.in_ok-copy.field-0 ≡ line_at c.args.round.now c.loop-member.member =
          c.in_ok-copy.ensures.equal ∙ c.index-round-member.is ∙ get_or_default c.args.round.now c.loop-member.member c.index-round-member.result [] c.loop-member-test.true in
          let here = round.each c.loop-member.member (omega (arith, c.loop-member-test.true, round.lines)) in
          subst (λ (ls : List (List (List ℕ))). AreColumns problem goal node ls) (sym c.in_ok-add_line.ensures.added)
          (columns_more problem goal node c.loop-member.self c.loop-member.member c.in_ok-copy.field-0 (c.loop-member.invariant.are problem goal node before round) lt
          (subst (λ (line : List ℕ). IsStandardLine problem goal node c.loop-member.member line) (sym same) here));
    }
