use Rattle.std.proofs.Common.{ℕ, Option, sym, subst, arith}
use Rattle.line_items.proofs.FreeTimes.{BestBefore, ended_more, best_found, best_kept, last_found, last_kept}
use Rattle.line_items.proofs.free.last_block.Goals as goal
use Rattle.line_items.proofs.free.last_block.Goals.{then-saturating_sub-ge1800, else-saturating_sub-ge1800}

pub loop-span-preserved : goal.loop-span-preserved
loop-span-preserved c =
    record {
      low = omega (arith, c.max-free_from.ensures, c.loop-span.invariant.low);
      ended = ended_more c.args.times.now c.loop-span.span-index _ c.loop-span.free_from c.max-free_from.result
          c.loop-span-test.true c.loop-span.invariant.ended c.max-free_from.ensures;
      best = elim c.if-saturating_sub-ge1800.branch [
        | then-saturating_sub-ge1800 w ↦
            subst (λ (o : Option ℕ). BestBefore c.args.times.now c.args.from c.args.to c.max-free_from.result o) (sym w.last-is)
            (best_found c.args.times.now c.loop-span.span-index _ c.args.from c.args.to c.loop-span.free_from c.max-free_from.result
            c.min-until.result c.loop-span.last c.requires.timetable c.loop-span-test.true c.loop-span.invariant.low
            c.loop-span.invariant.ended c.loop-span.invariant.best c.min-until.ensures
            (omega (arith, w.if-saturating_sub-ge1800.true, c.saturating_sub.ensures)) c.max-free_from.ensures)
        | else-saturating_sub-ge1800 w ↦
            subst (λ (o : Option ℕ). BestBefore c.args.times.now c.args.from c.args.to c.max-free_from.result o) (sym w.last-is)
            (best_kept c.args.times.now c.loop-span.span-index _ c.args.from c.args.to c.loop-span.free_from c.max-free_from.result
            c.min-until.result c.loop-span.last c.requires.timetable c.loop-span-test.true
            c.loop-span.invariant.best c.min-until.ensures
            (omega (arith, w.if-saturating_sub-ge1800.false, c.saturating_sub.ensures)) c.max-free_from.ensures)
      ];
    }

pub returns-then-saturating_sub-ge1800-2 : goal.returns-then-saturating_sub-ge1800-2
returns-then-saturating_sub-ge1800-2 c =
    record {
      last = last_found c.args.times.now c.loop-span.span-index c.args.from c.args.to c.loop-span.free_from
          (omega arith) c.loop-span.invariant.ended c.loop-span.invariant.low
          (omega (arith, c.if-saturating_sub-ge1800-2.true, c.saturating_sub-2.ensures));
    }

pub returns : goal.returns
returns c =
    record {
      last = last_kept c.args.times.now c.args.from c.args.to c.loop-span.free_from c.loop-span.last
          (omega (arith, c.if-saturating_sub-ge1800-2.false, c.saturating_sub-2.ensures)) c.loop-span.invariant.best;
    }
