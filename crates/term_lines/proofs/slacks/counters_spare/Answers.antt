use Rattle.std.proofs.Common.{arith, length, sym}
use Rattle.term_lines.proofs.SlackLaws.{spares_fail}
use Rattle.term_lines.proofs.slacks.counters_spare.Goals as goal

pub returns-then-not-sum_spares : goal.returns-then-not-sum_spares
returns-then-not-sum_spares g c = record {
  spares = sym (spares_fail (length c.args.first.now) c.args.limits.now c.args.first.now c.args.second.now c.loop-k.k (omega arith) (sym c.if-not-sum_spares.ensures.spares));
}
