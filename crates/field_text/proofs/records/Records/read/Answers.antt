use Rattle.csv.specs.Records.{fields_of}
use Rattle.field_text.proofs.RecordsLeft.{unread-read}
use Rattle.field_text.proofs.records.Records.read.Goals as goal

pub invariant_of-self : goal.invariant_of-self
invariant_of-self c =
    let plain = c.self.invariant c.if-self.false in
    let gave = unread-read c.self.inside.reader c.read_byte_record.new.self c.in-Ok.found (fields_of c.read_byte_record.new.row) plain (c.in-Ok.ensures.reads plain.trim plain.ready) (c.in-Ok.ensures.ready plain.trim) c.in-Ok.ensures.flexible in
    λ _. gave.1 c.if-found.true

pub returns-then-found-clause-next : goal.returns-then-found-clause-next
returns-then-found-clause-next c =
    let plain = c.self.invariant c.if-self.false in
    let gave = unread-read c.self.inside.reader c.read_byte_record.new.self c.in-Ok.found (fields_of c.read_byte_record.new.row) plain (c.in-Ok.ensures.reads plain.trim plain.ready) (c.in-Ok.ensures.ready plain.trim) c.in-Ok.ensures.flexible in
    rw (← c.self.view_is, c.if-self.false) (rw c.if-found.true at gave.0).0

pub returns-then-found-clause-short : goal.returns-then-found-clause-short
returns-then-found-clause-short c =
    let plain = c.self.invariant c.if-self.false in
    let gave = unread-read c.self.inside.reader c.read_byte_record.new.self c.in-Ok.found (fields_of c.read_byte_record.new.row) plain (c.in-Ok.ensures.reads plain.trim plain.ready) (c.in-Ok.ensures.ready plain.trim) c.in-Ok.ensures.flexible in
    (rw c.if-found.true at gave.0).1

pub returns-in-Ok-clause-next : goal.returns-in-Ok-clause-next
returns-in-Ok-clause-next c =
    let plain = c.self.invariant c.if-self.false in
    let gave = unread-read c.self.inside.reader c.read_byte_record.new.self c.in-Ok.found (fields_of c.read_byte_record.new.row) plain (c.in-Ok.ensures.reads plain.trim plain.ready) (c.in-Ok.ensures.ready plain.trim) c.in-Ok.ensures.flexible in
    rw (← c.self.view_is, c.if-self.false) (rw c.if-found.false at gave.0)
