use Rattle.std.proofs.Common.{sym, ◌∙◌}
use Rattle.cert_checker.proofs.SameLenses.{lens_is}
use Rattle.cert_checker.proofs.recall.is_same.Goals as goal

pub returns : goal.returns
returns c = record { same = λ e. lens_is c.args.one.now c.args.other.now (sym c.eq.ensures ∙ e) }
