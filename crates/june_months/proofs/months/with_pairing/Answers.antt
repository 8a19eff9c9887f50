use Rattle.std.proofs.Common.{◌≡◌, ◌≢◌, ◌≤◌, List, [], ◌∷◌, ◌++◌, subst, sym}
use Rattle.std.specs.Prelude.{All}
use Rattle.std.proofs.lemmas.Result.{IfOk-weaker}
use Rattle.duty_calendar.specs.declared.horizon.Horizon.{Horizon}
use Rattle.duty_calendar.specs.declared.pairing.Pairing.{Pairing}
use Rattle.duty_calendar.specs.Calendar.{month_days}
use Rattle.duty_calendar.specs.Checks.{ArePairings}
use Rattle.june_months.proofs.Held.{more_pairings}
use Rattle.june_months.proofs.months.with_pairing.Goals as goal

pub returns-clause-form : goal.returns-clause-form
returns-clause-form c =
    let form : (list : List Pairing) → list ≡ c.args.list ++ c.args.pairing ∷ [] → (h : Horizon) → 30 ≤ month_days h → ArePairings h list =
    λ list is h long.
    subst (ArePairings h) (sym is)
    (more_pairings h c.args.list c.args.pairing (c.requires.list h long) c.requires.few (c.requires.pairing h long)
    (subst (All (λ (p : Pairing). p.name ≢ c.args.pairing.name)) c.as_slice.ensures (c.is_new.ensures.other c.if-not-is_new.false))) in
    IfOk-weaker _ _ _ form c.with.ensures.added
