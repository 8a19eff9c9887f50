use Rattle.std.proofs.Common.{◌≡◌, map, take}
use Rattle.next_folder.specs.Rolled.{bare}
use Rattle.next_folder.proofs.crew.all_bare.Given as goal

abbrev pub invariant-loop-member : goal.invariant-loop-member
invariant-loop-member l = l.made ≡ map bare (take l.member-index l.members)
