use Rattle.std.proofs.Common.{refl}
use Rattle.rules_file.specs.Rules.{rules_file}
use Rattle.rules_file.proofs.Tables.{table_of-none, table_of-some}
use Rattle.rules_file.proofs.reading.read_rules.Goals as goal

pub returns-in-Err-clause-value : goal.returns-in-Err-clause-value
unfolding rules_file
returns-in-Err-clause-value c =
    rw (table_of-none c.args.text.now (c.in-Err.ensures.refused (λ m. let t = c.is_memory.ensures.1 m in cc))) refl

pub returns-clause-value : goal.returns-clause-value
unfolding rules_file
returns-clause-value c =
    rw (table_of-some c.args.text.now _ c.in-Ok.ensures.ok.0 c.in-Ok.ensures.ok.1) c.of_table.ensures.value
