use Rattle.std.proofs.Common.{◌≡◌, take}
use Rattle.next_folder.specs.Rolled.{newcomers}
use Rattle.next_folder.proofs.names.newcomers.Given as goal

abbrev pub invariant-loop-member : goal.invariant-loop-member
invariant-loop-member l = l.names ≡ newcomers l.problem (take l.member-index l.crew)
