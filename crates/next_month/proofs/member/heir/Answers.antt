use Rattle.std.proofs.Common.{◌<◌, ◌≤◌, List, refl, sym, subst, All}
use Rattle.duty_calendar.specs.Calendar.{month_end}
use Rattle.duty_calendar.specs.Checks.{IsFiled}
use Rattle.duty_calendar.specs.declared.event.Event.{Event}
use Rattle.next_month.specs.Heirs.{events_by}
use Rattle.next_month.proofs.Filed.{all_filed, carried_last, carried_forms}
use Rattle.next_month.proofs.Members.{heir_valid}
use Rattle.next_month.proofs.member.heir.Goals as goal

pub sound_parts-requires : goal.sound_parts-requires
sound_parts-requires c = record {
  last = subst (λ (es : List Event). All (λ e. e.report < e.release) es) (sym c.in_ok-events.ensures.events)
      (carried_last c.args.problem.now.base.rules.horizon c.args.lag (events_by c.args.problem.now c.args.roster.now c.bytes.result.now) (all_filed c.args.problem.now c.args.roster.now c.bytes.result.now));
}

pub returns-clause-valid : goal.returns-clause-valid
returns-clause-valid c = λ next ends form.
    heir_valid next c.args.person.now
    (record { name = c.in_ok-name.name; low = c.args.person.now.low; high = c.args.person.now.high; history = c.in_ok-history.field-0.history; fixed = c.in_ok-history.field-0.fixed })
    c.in_ok-events.events.items form c.in_ok-name.ensures.equal refl refl
    (subst (λ (es : List Event). All (λ e. IsFiled next e × (e.release ≤ month_end next)) es) (sym c.in_ok-events.ensures.events)
    (carried_forms c.args.problem.now.base.rules.horizon c.args.lag (events_by c.args.problem.now c.args.roster.now c.bytes.result.now) (all_filed c.args.problem.now c.args.roster.now c.bytes.result.now) next ends))
    c.in_ok-history.ensures.same c.in_ok-history.ensures.apart c.in_ok-history.ensures.before c.in_ok-history.ensures.after c.in_ok-history.ensures.few_history c.in_ok-history.ensures.few_fixed
