use Rattle.std.proofs.Common.{ℕ, [], sym, subst}
use Rattle.roster_model.specs.Awards.{floor_goal}
use Rattle.branch_log.specs.Honest.{IsHonest}
use Rattle.award_loop.proofs.ask.propose.Goals as goal

pub returns-clause-honest : goal.returns-clause-honest
returns-clause-honest g c = λ said is.
    let same = c.within.ensures.same said is in
    subst (λ (n : ℕ). IsHonest c.args.problem.now (g.C.Closer.rounds c.args.closer.now) (floor_goal c.args.before.now n) [] said) (sym same.1) (c.in_ok-proposal.ensures.honest said same.0)
