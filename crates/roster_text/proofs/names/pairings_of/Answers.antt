use Rattle.std.proofs.Common.{◌<◌, ℕ, List, Result, Ok, Err, length}
use Rattle.std.specs.Prelude.{IfOk, All}
use Rattle.std.specs.Borrow.{Bor}
use Rattle.field_text.specs.Steps.{or_fault}
use Rattle.roster_model.specs.declared.problem.Problem.{Problem}
use Rattle.roster_text.specs.declared.fault.RosterTextCode.{RosterTextCode}
use Rattle.roster_text.specs.declared.fault.RosterTextCode.TheVariants.{Pairing}
use Rattle.roster_text.specs.NameReading.{pairings_at}
use Rattle.roster_text.specs.RowReading.{Gives}
use Rattle.roster_text.proofs.NameLaws.{pairings_take}
use Rattle.roster_text.proofs.RowLaws.{need_ok}
use Rattle.roster_text.proofs.names.pairings_of.Goals as goal

in_range : (problem : Problem) (bytes : List ℕ) (r : Result (List ℕ × Bor (List ℕ)) RosterTextCode) → Gives (λ x. (x.0, x.1.now)) r (or_fault Pairing (pairings_at problem bytes))
    → IfOk r (λ x. All (λ p. p < length problem.base.pairings) x.0)
in_range problem bytes (Ok x) given = (pairings_take problem bytes (x.0, x.1.now) (need_ok Pairing (pairings_at problem bytes) (x.0, x.1.now) given)).line.in_range
in_range problem bytes (Err e) given = tt

pub returns-clause-in_range : goal.returns-clause-in_range
returns-clause-in_range c = in_range c.args.problem.now c.args.bytes.now c.ordered.result c.ordered.ensures.read
