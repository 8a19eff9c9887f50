use Rattle.std.proofs.Common.{◌≡◌, ◌++◌, drop}
use Rattle.std.specs.List.{flat_map}
use Rattle.roster_text.specs.NameReading.{spaced_name}
use Rattle.roster_text.proofs.printing.put_others.Given as goal

abbrev pub invariant-loop-pairing : goal.invariant-loop-pairing
invariant-loop-pairing l =
    l.out ++ flat_map (spaced_name l.problem) (drop l.pairing-index l.line) ≡ l.fn.out ++ flat_map (spaced_name l.problem) l.line
