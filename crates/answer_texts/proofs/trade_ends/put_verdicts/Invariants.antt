use Rattle.std.proofs.Common.{◌≡◌, ◌+◌, ◌++◌, drop}
use Rattle.answer_texts.specs.TradeTexts.{verdict_lines}
use Rattle.answer_texts.proofs.trade_ends.put_verdicts.Given as goal

abbrev pub invariant-loop-i : goal.invariant-loop-i
invariant-loop-i l = l.out ++ verdict_lines (l.i + 1) (drop l.i l.verdicts) ≡ l.fn.out ++ verdict_lines 1 l.verdicts
