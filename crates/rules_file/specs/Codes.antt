-- The numbers by which faults are printed.
use Rattle.std.specs.Prelude.{ℕ}
use Rattle.rules_file.specs.declared.fault.RuleFault.{RuleFault}
use Rattle.rules_file.specs.declared.fault.RuleFault.TheVariants as fault

abbrev pub rule_code : RuleFault → ℕ
rule_code fault.NoMemory = 0
rule_code fault.NotToml = 1
rule_code (fault.MissingKey key) = 2
rule_code (fault.UnknownKey key) = 3
rule_code (fault.Range key) = 4
