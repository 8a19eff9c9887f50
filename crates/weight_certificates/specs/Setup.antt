-- What a closer by rounds was made for.
use Rattle.std.specs.Prelude.{◌≡◌, ℕ, length}
use Rattle.roster_model.specs.declared.problem.Problem.{Problem}

-- how many rounds show that a node is open, and how many members and pairings its problems have
pub record Setup : Type 0 where
  pub rounds : ℕ
  pub members : ℕ
  pub pairings : ℕ

-- a problem with as many members and pairings
pub record IsMadeFor (setup : Setup) (problem : Problem) : Type 0 where
  pub members : length problem.base.members ≡ setup.members
  pub pairings : length problem.base.pairings ≡ setup.pairings
