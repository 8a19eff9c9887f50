use Rattle.std.proofs.Common.{◌≡◌, ◌++◌, drop}
use Rattle.std.specs.List.{flat_map}
use Rattle.roster_text.specs.ReasonText.{reason_text}
use Rattle.roster_text.proofs.reason_printing.put_reasons.Given as goal

abbrev pub invariant-loop-denial : goal.invariant-loop-denial
invariant-loop-denial l =
    l.out ++ flat_map (reason_text l.problem) (drop l.denial-index l.reasons) ≡ l.fn.out ++ flat_map (reason_text l.problem) l.reasons
