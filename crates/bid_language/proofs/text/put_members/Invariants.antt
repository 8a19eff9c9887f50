use Rattle.std.proofs.Common.{◌≡◌, ◌++◌, drop}
use Rattle.bid_language.specs.Spelling.{all_lines}
use Rattle.bid_language.proofs.text.put_members.Given as goal

abbrev pub invariant-loop-m : goal.invariant-loop-m
invariant-loop-m l = l.out ++ all_lines l.base (drop l.m l.members) (drop l.m l.lists) ≡ l.fn.out ++ all_lines l.base l.members l.lists
