use Rattle.std.proofs.Common.{◌≡◌, take}
use Rattle.open_time.specs.Moves.{without_pairing}
use Rattle.open_time.proofs.moves.others.Given as goal

abbrev pub invariant-loop-number : goal.invariant-loop-number
invariant-loop-number l = l.made ≡ without_pairing (take l.number-index l.numbers) l.pairing
