use Rattle.std.proofs.Common.{sym}
use Rattle.csv.specs.Records.{fields_of}
use Rattle.csv.proofs.RecordFacts.{field-get, field-there}
use Rattle.field_text.specs.Sizes.{longest}
use Rattle.field_text.proofs.TextRows.{within-at}
use Rattle.field_text.proofs.rows.text_at.Goals as goal

pub unreachable-requires : goal.unreachable-requires
unreachable-requires c = field-there (fields_of c.args.row.now) c.args.i c.requires.in_range (sym c.in-None.ensures.value)

pub returns-clause-value : goal.returns-clause-value
returns-clause-value c = sym (field-get (fields_of c.args.row.now) c.args.i c.in-Some.field.now (sym c.in-Some.ensures.value))

pub returns-clause-short : goal.returns-clause-short
returns-clause-short c = rw (← field-get (fields_of c.args.row.now) c.args.i c.in-Some.field.now (sym c.in-Some.ensures.value)) (within-at longest (fields_of c.args.row.now) c.args.i c.requires.short)
