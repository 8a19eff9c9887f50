use Rattle.std.proofs.Common.{◌≡◌, ℕ, ◌<◌, Some}
use Rattle.std.specs.Prelude.{slice_get}
use Rattle.duty_calendar.specs.declared.member.Member.{Member}
use Rattle.open_time.specs.Vacant.{IsVacantName}
use Rattle.open_time.proofs.vacant.first_taken.Given as goal

abbrev pub invariant-loop-place : goal.invariant-loop-place
invariant-loop-place l =
    (k : ℕ) (x : Member) → k < l.place → slice_get l.problem.base.members k ≡ Some x → IsVacantName l.count x.name → ⊥
