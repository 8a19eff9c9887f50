use Rattle.std.proofs.Common.{◌≡◌, ◌∙◌, sym, arith, ◌+◌, ◌-◌}
use Rattle.bid_language.proofs.AtomSteps.{atoms-more, atoms-last, reads-none, reads-fault}
use Rattle.bid_language.proofs.filter.filter.Goals as goal

pub returns-in-Err : goal.returns-in-Err
returns-in-Err c = record { reads = reads-fault c.args.pairings.now (8 - c.loop-n.n) (7 - c.loop-n.n) c.loop-n.atoms c.args.words.now c.loop-n.words c.loop-n.words _ (omega arith) c.loop-n.invariant c.in-Err.ensures.reads }

pub returns : goal.returns
returns c = record { reads = reads-none c.args.pairings.now (8 - c.loop-n.n) c.loop-n.atoms c.args.words.now c.loop-n.words _ _ (omega arith) c.loop-n.invariant c.too_many.ensures.reads }

pub returns-then-not-more : goal.returns-then-not-more
returns-then-not-more c = record { reads = sym c.loop-n.invariant ∙ atoms-last c.args.pairings.now (8 - c.loop-n.n) (7 - c.loop-n.n) c.loop-n.atoms _ c.in-Ok.found c.loop-n.words _ (omega arith) c.in-Ok.ensures.reads c.if-not-more.true c.in_ok-add.ensures.ok }

pub loop-n-preserved : goal.loop-n-preserved
loop-n-preserved c =
    let e : 7 - c.loop-n.n ≡ 8 - (c.loop-n.n + 1) = omega arith in
    rw (← e) (atoms-more c.args.pairings.now (8 - c.loop-n.n) (7 - c.loop-n.n) c.loop-n.atoms _ c.in-Ok.found c.loop-n.words _ (omega arith) c.in-Ok.ensures.reads c.if-not-more.false c.in_ok-add.ensures.ok ∙ c.loop-n.invariant)
