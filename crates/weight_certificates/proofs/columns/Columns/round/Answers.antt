use Rattle.std.proofs.Common.{◌≡◌, ◌<◌, ap, sym, subst, arith, length, ℕ, List}
use Rattle.roster_model.specs.Rounds.{IsStandardLine}
use Rattle.weight_certificates.proofs.ColumnSteps.{first_lines_more, first_lines_all, column_line}
use Rattle.weight_certificates.proofs.columns.Columns.round.Goals as goal

pub loop-member-init : goal.loop-member-init
loop-member-init c = λ problem goal node are. record {
  lines = ap (λ (r : List (List ℕ)). length r) c.new-round.ensures;
  each = λ m lt. absurd (omega (arith, lt));
}

pub loop-member-preserved : goal.loop-member-preserved
loop-member-preserved c = λ problem goal node are.
    let seen : c.self.inside.lists ≡ c.args.self.now = cc in
    let lt : c.loop-member.member < length c.args.self.now = omega (arith, c.loop-member-test.true, c.len-member-end.ensures, ap (λ (ls : List (List (List ℕ))). length ls) seen) in
    let here = column_line problem goal node c.args.self.now c.loop-member.member c.in-Some.place c.lines-lines.result.now c.index-lines-place.result c.index-lines-place.result
    are lt c.lines-lines.ensures.lines c.in-Some.ensures.within c.index-lines-place.is in
    first_lines_more problem goal node c.loop-member.round c.append.new.list c.in_ok-copy.field-0 c.loop-member.member (c.loop-member.invariant problem goal node are)
    (subst (λ (line : List ℕ). IsStandardLine problem goal node c.loop-member.member line) (sym c.in_ok-copy.ensures.equal) here) c.in_ok-append.ensures.added

pub returns : goal.returns
returns c =
    let seen : c.self.inside.lists ≡ c.args.self.now = cc in
    record {
      round =
          λ problem goal node are.
          first_lines_all problem goal node c.args.self.now c.loop-member.round c.loop-member.member (c.loop-member.invariant problem goal node are) are
          (omega (arith, c.loop-member-test.false, c.loop-member.auto.member-end, c.len-member-end.ensures, ap (λ (ls : List (List (List ℕ))). length ls) seen));
    }
