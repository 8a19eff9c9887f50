use Rattle.std.proofs.Common.{sym}
use Rattle.cert_text.proofs.LineSteps.{line_at}
use Rattle.cert_text.proofs.numbered.Table.line.Goals as goal

pub returns : goal.returns
returns c = record { lens = line_at c.self.inside.lines c.args.self.now c.args.number c.as_slice.result.now _ (sym c.self.view_is) c.as_slice.ensures c.requires.some c.requires.within }
