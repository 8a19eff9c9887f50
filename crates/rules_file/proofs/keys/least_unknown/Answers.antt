use Rattle.std.proofs.Common.{◌∙◌, sym, ap, option_map, string_bytes}
use Rattle.rules_file.proofs.Tables.{unknown-first}
use Rattle.rules_file.proofs.keys.least_unknown.Goals as goal

pub returns : goal.returns
returns c = record { value = ap (option_map string_bytes) c.first_unknown.ensures.value ∙ sym (unknown-first c.args.table.now.entries c.first_unknown.ensures.ordered) }
