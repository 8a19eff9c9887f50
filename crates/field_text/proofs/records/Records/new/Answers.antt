use Rattle.std.proofs.Common.{◌∙◌, inr, arith}
use Rattle.csv.specs.Reading.{strip_bom}
use Rattle.field_text.proofs.RecordsLeft.{plain-start, unread-start, length-records, length-strip_bom}
use Rattle.field_text.proofs.records.Records.new.Goals as goal

pub invariant_of-result : goal.invariant_of-result
invariant_of-result c = λ _.
    let fr = c.from_reader-reader.ensures in
    let e = c.has_headers.ensures in
    let f = c.flexible.ensures in
    plain-start c.from_reader-reader.result (strip_bom c.args.text.now)
    (rw (f, e) at fr.config ∙ c.new.ensures.config)
    (rw (f, e) at fr.trim ∙ c.new.ensures.trim)
    (rw f at fr.flexible)
    (inr (inr (rw (f, e) at fr.has_headers, fr.headers)))
    fr.source
    (omega (arith, length-strip_bom c.args.text.now))

pub returns-clause-value : goal.returns-clause-value
returns-clause-value c = unread-start c.from_reader-reader.result (strip_bom c.args.text.now) c.from_reader-reader.ensures.state c.from_reader-reader.ensures.source

pub returns-clause-bound : goal.returns-clause-bound
returns-clause-bound c =
    rw (unread-start c.from_reader-reader.result (strip_bom c.args.text.now) c.from_reader-reader.ensures.state c.from_reader-reader.ensures.source) (length-records c.args.text.now)
