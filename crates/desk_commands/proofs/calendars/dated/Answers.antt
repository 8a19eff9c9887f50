use Rattle.desk_commands.proofs.CalendarDated.{entries_few, ascii_some, named_some}
use Rattle.desk_commands.proofs.calendars.dated.Goals as goal

pub count_of-entries-requires : goal.count_of-entries-requires
count_of-entries-requires c = record {
  few = entries_few c.args.problem.now c.args.roster.now c.args.member c.in_ok-calendar.calendar c.requires.roster c.in_ok-calendar.ensures.table;
}

pub returns-clause-ascii : goal.returns-clause-ascii
returns-clause-ascii c = λ x e. ascii_some c.name_of.result.now c.in_ok-file.file c.in_ok-bytes.bytes c.count_of-entries.result c.name_of.ensures.form c.in_ok-file.ensures.value x e

pub returns-clause-named : goal.returns-clause-named
returns-clause-named c = λ x e. named_some c.name_of.result.now c.in_ok-file.file c.in_ok-bytes.bytes c.count_of-entries.result c.name_of.ensures.form c.in_ok-file.ensures.value x e
