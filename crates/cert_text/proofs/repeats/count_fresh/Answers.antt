use Rattle.std.proofs.Common.{List, length, subst}
use Rattle.cert_text.specs.Sorting.{Placed, IsLeast}
use Rattle.cert_text.proofs.SortedLines.{fresh_to}
use Rattle.cert_text.proofs.repeats.count_fresh.Goals as goal

pub returns : goal.returns
returns c = record {
  fresh =
      fresh_to c.args.lines.now c.in_ok-pairs.pairs.items c.sort.new.pairs.items c.least_repeat.result c.in_ok-pairs.ensures.pairs c.sort.ensures.moved c.sort.ensures.sorted
      (subst (λ (qs : List Placed). IsLeast qs (length c.args.lines.now) c.least_repeat.result) c.deref.ensures.value c.least_repeat.ensures.least);
}
