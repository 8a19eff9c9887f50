use Rattle.std.proofs.Common.{◌∙◌, ◌+◌, ◌++◌, ◌∷◌, [], ℕ, List, ap, sym, length, length-append, arith}
use Rattle.label_setter.proofs.Ordering.{range_one_more}
use Rattle.label_setter.proofs.order.fill_numbers.Goals as goal

pub loop-number-preserved : goal.loop-number-preserved
loop-number-preserved c = record {
  numbers = c.in_ok-push.ensures.items ∙ ap (λ (xs : List ℕ). xs ++ c.loop-number.number ∷ []) c.loop-number.invariant.numbers ∙ sym (range_one_more c.loop-number.number);
  long = ap length c.in_ok-push.ensures.items ∙ length-append c.loop-number.order.items (c.loop-number.number ∷ []) ∙ ap (λ n. n + 1) c.loop-number.invariant.long;
  capacity = let kept = c.loop-number.invariant.capacity in omega arith;
}
