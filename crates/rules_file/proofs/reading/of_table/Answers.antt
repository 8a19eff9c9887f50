use Rattle.std.proofs.Common.{◌∙◌, sym, ap, Err, string_bytes}
use Rattle.toml.specs.View.{table_view}
use Rattle.rules_file.specs.declared.fault.RuleFault.TheVariants as fault
use Rattle.rules_file.proofs.Values.{rules-missing, rules-unknown, rules-known}
use Rattle.rules_file.proofs.reading.of_table.Goals as goal

pub returns-in-Ok-clause-value : goal.returns-in-Ok-clause-value
returns-in-Ok-clause-value c =
    rules-missing (table_view c.args.table.now) c.in-Some.key.now (sym c.in-Some.ensures.value) ∙ ap (λ k. Err (fault.MissingKey k)) (sym c.in-Ok.ensures.text)

pub returns-in-Ok-new-clause-value : goal.returns-in-Ok-new-clause-value
returns-in-Ok-new-clause-value c =
    rules-unknown (table_view c.args.table.now) (string_bytes c.in-Some-least_unknown.key.now) (sym c.in_default.ensures.value) (sym c.in-Some-least_unknown.ensures.value)
    ∙ ap (λ k. Err (fault.UnknownKey k)) (sym (c.in-Ok-new.ensures.text ∙ c.as_str.ensures.value))

pub returns-in-Ok-rules_of-clause-value : goal.returns-in-Ok-rules_of-clause-value
returns-in-Ok-rules_of-clause-value c =
    rules-known (table_view c.args.table.now) (sym c.in_default.ensures.value) (sym c.in_default-least_unknown.ensures.value) ∙ c.in-Ok-rules_of.ensures.value

pub returns-in-Ok-new-2-clause-value : goal.returns-in-Ok-new-2-clause-value
returns-in-Ok-new-2-clause-value c =
    rules-known (table_view c.args.table.now) (sym c.in_default.ensures.value) (sym c.in_default-least_unknown.ensures.value) ∙ c.in-Err-rules_of.ensures.value
    ∙ ap (λ k. Err (fault.Range k)) (sym c.in-Ok-new-2.ensures.text)
