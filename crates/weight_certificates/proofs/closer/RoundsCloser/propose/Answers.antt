use Rattle.std.proofs.Common.{◌≡◌, ℕ, [], rules, subst}
use Rattle.std.specs.Option.{ForSome}
use Rattle.std.specs.Result.{IfOk}
use Rattle.roster_model.specs.Awards.{floor_goal}
use Rattle.branch_log.specs.Honest.{IsHonest}
use Rattle.weight_certificates.proofs.closer.RoundsCloser.propose.Goals as goal

pub returns-clause-honest : goal.returns-clause-honest
returns-clause-honest g c =
    let same : c.self.inside.rounds ≡ c.args.self.now.rounds = search rules in
    subst (λ (n : ℕ). IfOk c.test_floor.result (λ p. ForSome p.verdict (IsHonest c.args.problem.now n (floor_goal c.args.before.now p.floor) []))) same c.test_floor.ensures.honest
