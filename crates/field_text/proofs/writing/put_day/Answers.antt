use Rattle.std.proofs.Common.{arith}
use Rattle.std.specs.Prelude.{unsigned_abs}
use Rattle.jiff_core.proofs.SignedLemmas.{signed_arith}
use Rattle.field_text.proofs.Days.{date-again, pos-abs}
use Rattle.field_text.proofs.writing.put_day.Goals as goal

pub returns-clause-again : goal.returns-clause-again
returns-clause-again c =
    let e = pos-abs c.args.value.year c.requires.in_range.0 in
    date-again c.args.value (unsigned_abs c.args.value.year) e (omega (arith, signed_arith, e, c.requires.in_range.1))
