use Rattle.std.proofs.Common.{◌<◌, ◌≤◌, List, refl, sym, subst, All, AllPairs}
use Rattle.std.specs.Prelude.{nat_le, nat_lt}
use Rattle.std.proofs.lemmas.List.Sorted.{All-permutation}
use Rattle.duty_calendar.specs.declared.event.Event.{Event}
use Rattle.next_month.specs.Causes.{Overlaps}
use Rattle.next_month.proofs.Sound.{overlap_back, many_back, parts_same, parts_apart, past_early, coming_late}
use Rattle.next_month.proofs.member.sound_parts.Goals as goal

pub are_apart-requires-clause-last : goal.are_apart-requires-clause-last
are_apart-requires-clause-last c =
    subst (λ (es : List Event). All (λ e. e.report < e.release) es) (sym c.as_slice.ensures.value)
    (All-permutation (λ (e : Event). e.report < e.release) _ _ c.in_ok-sort_events.ensures.moved c.requires.last)

pub returns-then-not-are_apart-clause-cause : goal.returns-then-not-are_apart-clause-cause
returns-then-not-are_apart-clause-cause c =
    (refl, overlap_back _ _ c.in_ok-sort_events.ensures.moved (subst (λ (es : List Event). Overlaps es) c.as_slice.ensures.value (c.are_apart.ensures.overlap c.if-not-are_apart.true)))

pub returns-then-len-gt500-clause-cause : goal.returns-then-len-gt500-clause-cause
returns-then-len-gt500-clause-cause c =
    (refl, many_back _ _ c.in_ok-sort_events.ensures.moved (λ e. nat_lt e.report 525600) c.in_ok-parts.parts.history c.len.result 500 c.in_ok-parts.ensures.history c.len.ensures c.if-len-gt500.true)

pub returns-then-len-gt60-clause-cause : goal.returns-then-len-gt60-clause-cause
returns-then-len-gt60-clause-cause c =
    (refl, many_back _ _ c.in_ok-sort_events.ensures.moved (λ e. nat_le 525600 e.report) c.in_ok-parts.parts.fixed c.len-2.result 60 c.in_ok-parts.ensures.fixed c.len-2.ensures c.if-len-gt60.true)

pub returns-clause-same : goal.returns-clause-same
returns-clause-same c =
    parts_same _ _ c.in_ok-sort_events.ensures.moved c.in_ok-parts.parts.history c.in_ok-parts.parts.fixed c.in_ok-sort_events.ensures.sorted c.in_ok-parts.ensures.history c.in_ok-parts.ensures.fixed

pub returns-clause-apart : goal.returns-clause-apart
returns-clause-apart c =
    parts_apart _ _ c.in_ok-sort_events.ensures.moved c.in_ok-parts.parts.history c.in_ok-parts.parts.fixed c.in_ok-sort_events.ensures.sorted c.in_ok-parts.ensures.history c.in_ok-parts.ensures.fixed
    (subst (λ (es : List Event). AllPairs (λ d e. d.release ≤ e.report) es) c.as_slice.ensures.value (c.are_apart.ensures.apart c.if-not-are_apart.false))

pub returns-clause-before : goal.returns-clause-before
returns-clause-before c = past_early c.in_ok-parts.parts.history c.sort_events.new.events.items c.in_ok-parts.ensures.history

pub returns-clause-after : goal.returns-clause-after
returns-clause-after c = coming_late c.in_ok-parts.parts.fixed c.sort_events.new.events.items c.in_ok-parts.ensures.fixed
