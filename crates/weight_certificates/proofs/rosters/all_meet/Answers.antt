use Rattle.std.proofs.Common.{◌≡◌, ◌∙◌, ap, subst, arith, ℕ, List, [], length}
use Rattle.std.proofs.lemmas.List.{get_or_default}
use Rattle.roster_model.specs.Rosters.{line_at}
use Rattle.roster_model.specs.Goals.{MeetsGoal}
use Rattle.weight_certificates.proofs.Facts.{one_more}
use Rattle.weight_certificates.proofs.rosters.all_meet.Goals as goal

pub loop-member-preserved : goal.loop-member-preserved
loop-member-preserved c =
    let same : c.line-item.result ≡ line_at c.args.round.now c.loop-member.member =
    c.line-item.is ∙ get_or_default c.as_slice-line-items.result.now c.loop-member.member c.line-item.result [] c.loop-member-test.true
    ∙ ap (λ (lines : List (List ℕ)). line_at lines c.loop-member.member) c.as_slice-line-items.ensures in
    one_more (λ (m : ℕ). MeetsGoal c.args.problem.now c.args.goal.now m (line_at c.args.round.now m)) c.loop-member.member c.loop-member.invariant
    (subst (λ (line : List ℕ). MeetsGoal c.args.problem.now c.args.goal.now c.loop-member.member line) same (c.meets_goal.ensures.met.0 c.if-not-meets_goal.false))

pub returns : goal.returns
returns c =
    let same = ap (λ (lines : List (List ℕ)). length lines) c.as_slice-line-items.ensures in
    record { meet = λ yes m lt. c.loop-member.invariant m (omega (arith, lt, same, c.loop-member-test.false)) }
