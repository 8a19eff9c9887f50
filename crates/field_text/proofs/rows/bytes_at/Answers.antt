use Rattle.std.proofs.Common.{sym}
use Rattle.csv.specs.Records.{fields_of}
use Rattle.csv.proofs.RecordFacts.{field-get, field-there}
use Rattle.field_text.proofs.rows.bytes_at.Goals as goal

pub unreachable-requires : goal.unreachable-requires
unreachable-requires c = field-there (fields_of c.args.row.now) c.args.i c.requires.in_range (sym c.in-None.ensures.value)

pub returns : goal.returns
returns c = record { value = sym (field-get (fields_of c.args.row.now) c.args.i c.in-Some.field.now (sym c.in-Some.ensures.value)) }
