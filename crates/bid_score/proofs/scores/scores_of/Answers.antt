use Rattle.std.proofs.Common.{◌≡◌, ◌∷◌, [], ◌++◌, ℕ, List, length, get_or, arith, sym, ap, ◌∙◌}
use Rattle.std.specs.Prelude.{map}
use Rattle.std.specs.List.{range_with_len}
use Rattle.std.proofs.lemmas.List.{get_or_read}
use Rattle.std.proofs.lemmas.List.FromFn.{map-range_with_len_more}
use Rattle.roster_model.specs.Scores.{score_of}
use Rattle.roster_model.specs.Rosters.{line_at, scores_of}
use Rattle.bid_score.proofs.scores.scores_of.Goals as goal

pub loop-member-preserved : goal.loop-member-preserved
loop-member-preserved c =
    let f = λ (m : ℕ). score_of c.args.problem.now m (line_at c.args.roster.now m) in
    let e : c.line-item.result ≡ line_at c.args.roster.now c.loop-member.member =
    get_or_read c.as_slice-line-items.result.now c.loop-member.member c.line-item.result c.loop-member-test.true c.line-item.is []
    ∙ ap (λ (xs : List (List ℕ)). get_or xs c.loop-member.member []) c.as_slice-line-items.ensures in
    c.in_ok-add.ensures.ok
    ∙ ap (λ (xs : List ℕ). xs ++ c.score.result ∷ []) c.loop-member.invariant
    ∙ ap (λ (x : ℕ). map f (range_with_len 0 c.loop-member.member) ++ x ∷ []) (c.score.ensures ∙ ap (λ (line : List ℕ). score_of c.args.problem.now c.loop-member.member line) e)
    ∙ sym (map-range_with_len_more f 0 c.loop-member.member c.loop-member.member (omega arith))

pub returns : goal.returns
unfolding scores_of
returns c =
    let f = λ (m : ℕ). score_of c.args.problem.now m (line_at c.args.roster.now m) in
    let same = ap (λ (xs : List (List ℕ)). length xs) c.as_slice-line-items.ensures in
    let all : c.loop-member.member ≡ length c.args.problem.now.base.members = omega (arith, same) in
    record { value = c.loop-member.invariant ∙ ap (λ (n : ℕ). map f (range_with_len 0 n)) all }
