use Rattle.std.proofs.Common.{◌≡◌, map, take}
use Rattle.std.specs.Prelude.{filter}
use Rattle.next_folder.specs.Rolled.{is_gone}
use Rattle.next_folder.proofs.names.leavers.Given as goal

abbrev pub invariant-loop-member : goal.invariant-loop-member
invariant-loop-member l = l.names ≡ map (λ m. m.name) (filter (λ m. is_gone l.crew m) (take l.member-index l.member-items))
