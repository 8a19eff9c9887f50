use Rattle.field_text.proofs.Days.{clock-again}
use Rattle.field_text.proofs.writing.put_clock.Goals as goal

pub returns-clause-again : goal.returns-clause-again
returns-clause-again c = clock-again c.args.value c.requires.in_range
