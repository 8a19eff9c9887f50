use Rattle.roster_text.specs.RosterText.{member_name}
use Rattle.open_time.specs.Eligible.{IsEligible}
use Rattle.open_commands.specs.OpenRows.{AreNamed}
use Rattle.open_commands.proofs.open_rows.eligible_names.Given as goal

abbrev pub invariant-loop-number : goal.invariant-loop-number
invariant-loop-number l = AreNamed (λ m. IsEligible l.made l.roster m l.pairing) (member_name l.problem) l.number l.names
