use Rattle.std.proofs.Common.{◌≡◌, List, [], ◌∷◌, ◌++◌, arith, subst, sym}
use Rattle.std.proofs.lemmas.Result.{IfOk-weaker}
use Rattle.duty_calendar.specs.declared.horizon.Horizon.{Horizon}
use Rattle.duty_calendar.specs.declared.member.Member.{Member}
use Rattle.duty_calendar.specs.Checks.{AreMembers}
use Rattle.june_months.proofs.Held.{more_members, other_names}
use Rattle.june_months.proofs.months.rivals.Goals as goal

pub returns-clause-form : goal.returns-clause-form
returns-clause-form c =
    let count = c.in_ok-single.ensures.count in
    let form : (list : List Member) → list ≡ c.in_ok-single.field-0 ++ c.in_ok-junior.junior ∷ [] → (h : Horizon) → AreMembers h list =
    λ list is h.
    subst (AreMembers h) (sym is)
    (more_members h c.in_ok-single.field-0 c.in_ok-junior.junior (c.in_ok-single.ensures.form h) (omega arith) (c.in_ok-junior.ensures.form h)
    (other_names c.in_ok-single.field-0 c.in_ok-junior.junior c.in_ok-single.ensures.names c.in_ok-junior.ensures.name)) in
    IfOk-weaker _ _ _ form c.with.ensures.added
