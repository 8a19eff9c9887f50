use Rattle.std.proofs.Common.{◌≡◌, List, [], ◌∷◌, subst, sym}
use Rattle.std.proofs.lemmas.Result.{IfOk-weaker}
use Rattle.duty_calendar.specs.declared.horizon.Horizon.{Horizon}
use Rattle.duty_calendar.specs.declared.member.Member.{Member}
use Rattle.duty_calendar.specs.Checks.{AreMembers}
use Rattle.june_months.proofs.Held.{one_member, named}
use Rattle.june_months.proofs.months.single.Goals as goal

pub returns-clause-form : goal.returns-clause-form
returns-clause-form c =
    let form : (list : List Member) → list ≡ c.in_ok-member.field-0 ∷ [] → (h : Horizon) → AreMembers h list =
    λ list is h. subst (AreMembers h) (sym is) (one_member h c.in_ok-member.field-0 (c.in_ok-member.ensures.form h)) in
    IfOk-weaker _ _ _ form c.one.ensures.only

pub returns-clause-names : goal.returns-clause-names
returns-clause-names c =
    IfOk-weaker _ _ _
    (λ list is. named list c.in_ok-member.field-0 is c.in_ok-member.ensures.name)
    c.one.ensures.only
