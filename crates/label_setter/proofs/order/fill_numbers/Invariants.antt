use Rattle.std.proofs.Common.{◌≡◌, ◌≤◌, length, vec_capacity}
use Rattle.std.specs.List.{range_with_len}
use Rattle.label_setter.proofs.order.fill_numbers.Given as goal

abbrev pub invariant-loop-number : goal.invariant-loop-number
invariant-loop-number l = record {
  numbers : l.order.items ≡ range_with_len 0 l.number;
  long : length l.order.items ≡ l.number;
  capacity : vec_capacity l.initial.order ≤ vec_capacity l.order;
}
