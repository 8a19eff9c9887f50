use Rattle.std.proofs.Common.{◌≡◌, arith, ◌∙◌, ◌≤◌, ◌<◌, length, List, ℕ, All, true, pos, get_or, ap, cond, ◌+ℤ◌}
use Rattle.roster_model.specs.Ascending.{ascends_from}
use Rattle.roster_model.specs.Scores.{is_flown}
use Rattle.roster_model.proofs.Bounds.{ascending-length}
use Rattle.roster_model.specs.Weights.{weight_at}
use Rattle.weight_certificates.proofs.RowSums.{count-turn, count-end}
use Rattle.weight_certificates.proofs.rows.count_line.Goals as goal

pub loop-p-preserved : goal.loop-p-preserved
loop-p-preserved c =
    let same = c.pairings-p-items.ensures.numbers in
    let up : ascends_from 0 c.pairings-p-items.result.now ≡ true = rw same c.pairings-p-items.ensures.ascending in
    let inside : All (λ p. p < length c.args.counts.now) c.pairings-p-items.result.now = rw same c.requires.in_range in
    let few : length c.pairings-p-items.result.now ≤ length c.args.counts.now = ascending-length c.pairings-p-items.result.now (length c.args.counts.now) up inside in
    let here : get_or c.pairings-p-items.result.now c.loop-p.p-index 0 < length c.args.counts.now = inside c.loop-p.p-index 0 (omega arith) in
    λ j in_row.
    count-turn c.loop-p.counts c.args.counts.now c.pairings-p-items.result.now c.loop-p.p-index j c.loop-p.invariant (omega arith) (omega arith) (omega arith)
    c.requires.small (omega arith) in_row

pub returns : goal.returns
returns c =
    let same = c.pairings-p-items.ensures.numbers in
    let up : ascends_from 0 c.pairings-p-items.result.now ≡ true = rw same c.pairings-p-items.ensures.ascending in
    record {
      more =
          λ k in_row.
          let so_far = c.loop-p.invariant k (omega arith) in
          so_far ∙ count-end c.pairings-p-items.result.now c.loop-p.p-index k (weight_at c.args.counts.now k) (omega arith) up
          ∙ ap (λ (l : List ℕ). weight_at c.args.counts.now k +ℤ pos (cond (is_flown l k) 1 0)) same;
    }
