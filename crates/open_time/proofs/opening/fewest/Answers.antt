use Rattle.std.proofs.Common.{ℕ, subst, of_calls, arith}
use Rattle.open_time.specs.Tries.{IsTriedAward}
use Rattle.open_time.proofs.Months.{fewer_room}
use Rattle.open_time.proofs.Openings.{crew_kept, tried_more, opened_award, opened_none, opened_spent}
use Rattle.open_time.proofs.opening.fewest.Goals as goal

pub add_vacant-requires : goal.add_vacant-requires
add_vacant-requires g c = record {
  room = fewer_room c.args.problem.now c.args.ceiling c.loop-count.count c.loop-count.invariant.1.within c.loop-count.invariant.1.room;
}

pub try_over-requires-clause-crew : goal.try_over-requires-clause-crew
try_over-requires-clause-crew g c =
    omega (arith, c.crew_of-crew.ensures.value, crew_kept c.args.problem.now c.loop-count.count c.in_ok-made.made c.in_ok-made.ensures.made)

pub returns-in-Award-clause-opened : goal.returns-in-Award-clause-opened
returns-in-Award-clause-opened g c =
    let said = c.in_ok-tried.ensures.attempt in
    opened_award c.args.problem.now c.args.ceiling c.args.nodes c.loop-count.count c.loop-count.none c.loop-count.invariant.1
    c.in_ok-made.made c.in_ok-made.ensures.made c.in_ok-tried.field-0.ledger said.run
    c.in-Award.roster c.in-Award.awarded c.in-Award.reasons
    (subst (λ (k : ℕ). IsTriedAward c.in_ok-made.made k c.in_ok-tried.field-0.ledger c.in-Award.roster c.in-Award.awarded c.in-Award.reasons) c.crew_of-crew.ensures.value
    (rw c.in-Award.is at said.tried))

pub returns-then-count-ceiling-clause-opened : goal.returns-then-count-ceiling-clause-opened
returns-then-count-ceiling-clause-opened g c =
    let said = c.in_ok-tried.ensures.attempt in
    opened_none c.args.problem.now c.args.ceiling c.args.nodes c.loop-count.count c.loop-count.none c.loop-count.invariant.1
    c.in_ok-made.made c.in_ok-made.ensures.made c.in_ok-tried.field-0.ledger said.run
    c.in-NoRoster.proof (rw c.in-NoRoster.is at said.tried) c.if-count-ceiling.true

pub returns-in-Spent-clause-opened : goal.returns-in-Spent-clause-opened
returns-in-Spent-clause-opened g c =
    let said = c.in_ok-tried.ensures.attempt in
    opened_spent c.args.problem.now c.args.ceiling c.args.nodes c.loop-count.count c.loop-count.none c.loop-count.invariant.1
    c.in_ok-made.made c.in_ok-made.ensures.made c.in_ok-tried.field-0.ledger said.run (rw c.in-Spent.is at said.tried)

pub loop-count-preserved : goal.loop-count-preserved
loop-count-preserved g c =
    let said = c.in_ok-tried.ensures.attempt in (
      search of_calls,
      tried_more c.args.problem.now c.args.ceiling c.args.nodes c.loop-count.count c.loop-count.none c.loop-count.invariant.1
          c.in_ok-made.made c.in_ok-made.ensures.made c.in_ok-tried.field-0.ledger said.run
          c.in-NoRoster.proof _ (rw c.in-NoRoster.is at said.tried) c.if-count-ceiling.false (omega arith),
    )
