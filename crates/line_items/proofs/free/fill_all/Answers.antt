use Rattle.std.proofs.Common.{arith, refl}
use Rattle.line_items.proofs.FewEvents.{few_fixed, few_history}
use Rattle.line_items.proofs.FreeTimes.{base_table, base_timed}
use Rattle.line_items.proofs.free.fill_all.Goals as goal

pub returns-clause-timetable : goal.returns-clause-timetable
returns-clause-timetable c =
    base_table c.args.problem.now c.args.member 0 c.fill_base.new.times.items c.sort_times.new.times.items
    c.in_ok-fill_base.ensures.times c.sort_times.ensures.moved c.sort_times.ensures.sorted

pub returns-clause-times : goal.returns-clause-times
returns-clause-times c =
    base_timed c.args.problem.now c.args.member 0 c.fill_base.new.times.items c.sort_times.new.times.items
    c.in_ok-fill_base.ensures.times c.sort_times.ensures.moved

pub returns-in_err-fill_base-clause-calm : goal.returns-in_err-fill_base-clause-calm
returns-in_err-fill_base-clause-calm c = λ room fails.
    let past = few_history c.args.problem.now c.args.member c.requires.member in
    let fixed = few_fixed c.args.problem.now c.args.member c.requires.member in
    c.fill_base.ensures.calm (omega (arith, past, fixed, room)) (rw c.in_err-fill_base.was refl)
