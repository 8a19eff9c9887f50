use Rattle.page_parts.specs.Escaping.{escaped}
use Rattle.page_parts.proofs.Escapes.{reads_escaped, reads_inert}
use Rattle.page_parts.proofs.escaping.put_escaped.Goals as goal

pub returns-in_err-put_escaped_byte-clause-inert : goal.returns-in_err-put_escaped_byte-clause-inert
returns-in_err-put_escaped_byte-clause-inert c = reads_inert (escaped c.args.text.now) c.args.text.now (reads_escaped c.args.text.now)

pub returns-in_err-put_escaped_byte-clause-again : goal.returns-in_err-put_escaped_byte-clause-again
returns-in_err-put_escaped_byte-clause-again c = reads_escaped c.args.text.now

pub returns-clause-inert : goal.returns-clause-inert
returns-clause-inert c = reads_inert (escaped c.args.text.now) c.args.text.now (reads_escaped c.args.text.now)

pub returns-clause-again : goal.returns-clause-again
returns-clause-again c = reads_escaped c.args.text.now
