use Rattle.std.proofs.Common.{◌≡◌, ◌+◌, ◌<◌, ◌∙◌, ℕ, List, length, map, sym, subst, arith}
use Rattle.open_commands.specs.declared.open_stop.OpenRow.{OpenRow}
use Rattle.open_commands.specs.OpenRows.{AreThose, vacant_crew}
use Rattle.open_commands.proofs.Those.{AreRowsBelow, rows_more, rows_skip}
use Rattle.open_commands.proofs.open_rows.open_rows.Goals as goal
use Rattle.open_commands.proofs.open_rows.open_rows.Goals.{then-count-gt0+in_ok-row+in_ok-add, else-count-gt0}

pub loop-number-preserved : goal.loop-number-preserved
loop-number-preserved c =
    let problem = c.args.problem.now in
    let made = c.args.made.now in
    let roster = c.args.roster.now in
    let k : ℕ = c.loop-number.number in
    elim c.if-count-gt0.branch [
      | then-count-gt0+in_ok-row+in_ok-add w ↦
          rows_more problem made roster c.loop-number.rows c.if-count-gt0.rows k w.in_ok-row.row c.loop-number.invariant
          (omega (arith, c.vacant_crew-count.ensures.value, w.if-count-gt0.true)) w.in_ok-row.ensures.row w.in_ok-row.ensures.number
          (w.rows-is ∙ w.in_ok-add.ensures.ok)
      | else-count-gt0 w ↦
          subst (λ (rs : List OpenRow). AreRowsBelow problem made roster (k + 1) rs) (sym w.rows-is)
          (rows_skip problem made roster c.loop-number.rows k c.loop-number.invariant
          (λ lt. absurd (omega (arith, c.vacant_crew-count.ensures.value, w.if-count-gt0.false, lt))))
    ]

pub returns : goal.returns
returns c =
    let end : c.loop-number.number ≡ length c.args.problem.now.base.pairings =
    omega (arith, c.loop-number-test.false, c.loop-number.auto.number-end, c.len-number-end.ensures) in
    record {
      rows = record {
        those = subst (λ (n : ℕ). AreThose (λ p. 0 < vacant_crew c.args.problem.now c.args.roster.now p) n (map (λ row. row.number) c.loop-number.rows)) end
            c.loop-number.invariant.those;
        each = c.loop-number.invariant.each;
      };
    }
