use Rattle.std.proofs.Common.{arith}
use Rattle.field_text.proofs.Again.{number-again}
use Rattle.field_text.proofs.writing.put_number.Goals as goal

pub returns-clause-again : goal.returns-clause-again
returns-clause-again c = number-again c.args.value (omega arith)
