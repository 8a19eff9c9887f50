use Rattle.line_items.proofs.FreeTimes.{item_table, item_times}
use Rattle.line_items.proofs.free.fill_duties.Goals as goal

pub returns-clause-timetable : goal.returns-clause-timetable
returns-clause-timetable c =
    item_table c.args.problem.now c.args.member c.args.item c.args.from c.fill_unsorted.new.times.items c.sort_times.new.times.items
    c.in_ok-fill_unsorted.ensures.times c.sort_times.ensures.moved c.sort_times.ensures.sorted

pub returns-clause-times : goal.returns-clause-times
returns-clause-times c =
    item_times c.args.problem.now c.args.member c.args.item c.args.from c.fill_unsorted.new.times.items c.sort_times.new.times.items
    c.in_ok-fill_unsorted.ensures.times c.sort_times.ensures.moved
