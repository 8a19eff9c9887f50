use Rattle.std.proofs.Common.{List, length, get_or, refl, sym, ◌∙◌, ap, arith}
use Rattle.duty_calendar.specs.declared.pairing.Pairing.{Pairing}
use Rattle.line_items.specs.Clear.{base_of}
use Rattle.line_items.proofs.FewEvents.{few_duties, few_fixed, few_history}
use Rattle.line_items.proofs.FreeTimes.{with_item, without_item}
use Rattle.line_items.proofs.free.fill_unsorted.Goals as goal

pub returns-then-item-pairings-clause-times : goal.returns-then-item-pairings-clause-times
returns-then-item-pairings-clause-times c =
    without_item (base_of c.args.problem.now c.args.member) c.args.from c.args.problem.now.base.pairings c.args.item c.fill_base.new.times.items
    (omega (arith, c.if-item-pairings.true, ap (λ (l : List Pairing). length l) c.as_slice-pairings.ensures))
    c.in_ok-fill_base.ensures.times

pub returns-clause-times : goal.returns-clause-times
returns-clause-times c =
    with_item (base_of c.args.problem.now c.args.member) c.args.from c.args.problem.now.base.pairings c.args.item
    c.index-pairings-item.result c.as_slice.result.now c.fill_base.new.times.items c.push_duties.new.times.items
    (omega (arith, c.if-item-pairings.false, ap (λ (l : List Pairing). length l) c.as_slice-pairings.ensures))
    (c.index-pairings-item.is ∙ ap (λ (l : List Pairing). get_or l c.args.item c.index-pairings-item.result) c.as_slice-pairings.ensures)
    (c.as_slice.ensures ∙ ap (λ (p : Pairing). p.duties) (sym c.index-pairings-item.is)) c.in_ok-fill_base.ensures.times c.in_ok-push_duties.ensures.more

pub returns-in_err-fill_base-clause-calm : goal.returns-in_err-fill_base-clause-calm
returns-in_err-fill_base-clause-calm c = λ room fails.
    let past = few_history c.args.problem.now c.args.member c.requires.member in
    let fixed = few_fixed c.args.problem.now c.args.member c.requires.member in
    c.fill_base.ensures.calm (omega (arith, past, fixed, room)) (rw c.in_err-fill_base.was refl)

pub returns-in_err-push_duties-clause-calm : goal.returns-in_err-push_duties-clause-calm
returns-in_err-push_duties-clause-calm c = λ room fails.
    let past = few_history c.args.problem.now c.args.member c.requires.member in
    let fixed = few_fixed c.args.problem.now c.args.member c.requires.member in
    let grown = c.fill_base.ensures.grown in
    let kept = c.fill_base.ensures.capacity in
    let duties = few_duties c.args.problem.now c.args.item c.index-pairings-item.result c.as_slice.result.now
    (omega (arith, c.if-item-pairings.false, ap (λ (l : List Pairing). length l) c.as_slice-pairings.ensures))
    (c.index-pairings-item.is ∙ ap (λ (l : List Pairing). get_or l c.args.item c.index-pairings-item.result) c.as_slice-pairings.ensures)
    (c.as_slice.ensures ∙ ap (λ (p : Pairing). p.duties) (sym c.index-pairings-item.is)) in
    c.push_duties.ensures.calm (omega (arith, past, fixed, grown, kept, duties, room)) (rw c.in_err-push_duties.was refl)
