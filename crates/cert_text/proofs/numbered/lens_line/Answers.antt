use Rattle.std.proofs.Common.{sym, ◌∙◌}
use Rattle.cert_text.proofs.LineSteps.{line_reads, key_is, whole_is}
use Rattle.cert_text.proofs.numbered.lens_line.Goals as goal

pub returns-in-Ok-clause-reads : goal.returns-in-Ok-clause-reads
returns-in-Ok-clause-reads c =
    line_reads c.args.may c.args.lines.now c.next.new.self c.in_ok-line.line.number c.in_ok-line.line.bytes.now _ c.in_ok-line.ensures.reads (sym c.in_ok-said.ensures.said ∙ c.in-Ok.is)

pub returns-in-Ok-clause-key : goal.returns-in-Ok-clause-key
returns-in-Ok-clause-key c = key_is c.args.may c.in_ok-line.line.bytes.now _ (sym c.in_ok-said.ensures.said ∙ c.in-Ok.is)

pub returns-in-Ok-clause-whole : goal.returns-in-Ok-clause-whole
returns-in-Ok-clause-whole c = whole_is c.args.may c.in_ok-line.line.bytes.now _ (sym c.in_ok-said.ensures.said ∙ c.in-Ok.is)
