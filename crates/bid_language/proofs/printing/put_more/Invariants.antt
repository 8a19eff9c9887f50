use Rattle.std.proofs.Common.{◌≡◌, ◌++◌, take}
use Rattle.bid_language.specs.Spelling.{more_text}
use Rattle.bid_language.proofs.printing.put_more.Given as goal

abbrev pub invariant-loop-atom : goal.invariant-loop-atom
invariant-loop-atom l = l.out ≡ l.fn.out ++ more_text l.pairings (take l.atom-index l.atoms)
