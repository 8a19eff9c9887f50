use Rattle.std.proofs.Common.{refl}
use Rattle.roster_text.proofs.FieldLaws.{fields_fed, fields_over}
use Rattle.roster_text.proofs.reading.has_fields.Goals as goal

pub returns-then-byte-eq10 : goal.returns-then-byte-eq10
returns-then-byte-eq10 c =
    record { value = fields_fed c.loop-byte.commas c.args.bytes.now c.loop-byte.byte-index _ c.loop-byte-test.true refl c.if-byte-eq10.true c.loop-byte.invariant.0 }

pub returns : goal.returns
returns c =
    record { value = fields_over c.loop-byte.commas c.args.bytes.now c.loop-byte.byte-index c.loop-byte-test.false c.loop-byte.invariant.0 }
