use Rattle.std.proofs.Common.{false, get_or, ℕ, ◌∙◌, ap, Vec, Global}
use Rattle.term_lines.proofs.ChainLines.{number_set, number_not_set}
use Rattle.term_lines.proofs.lines.set_numbers.Goals as goal
use Rattle.term_lines.proofs.lines.set_numbers.Goals.{then-flags-number+in_ok-push, else-flags-number}

pub loop-number-preserved : goal.loop-number-preserved
loop-number-preserved c =
    elim c.if-flags-number.branch [
      | then-flags-number+in_ok-push w ↦
          ap (λ (v : Vec ℕ Global). v.items) w.numbers-is ∙ w.in_ok-push.ensures.items
          ∙ number_set (λ p. get_or c.args.flags.now p false) c.loop-number.number c.loop-number.numbers.items w.if-flags-number.true c.loop-number.invariant
      | else-flags-number w ↦
          ap (λ (v : Vec ℕ Global). v.items) w.numbers-is
          ∙ number_not_set (λ p. get_or c.args.flags.now p false) c.loop-number.number c.loop-number.numbers.items w.if-flags-number.false c.loop-number.invariant
    ]
