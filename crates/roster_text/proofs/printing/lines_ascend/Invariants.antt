use Rattle.std.proofs.Common.{◌≡◌, take, true}
use Rattle.std.specs.Prelude.{All}
use Rattle.roster_model.specs.Ascending.{is_ascending}
use Rattle.roster_text.proofs.printing.lines_ascend.Given as goal

abbrev pub invariant-loop-line : goal.invariant-loop-line
invariant-loop-line l = All (λ line. is_ascending line ≡ true) (take l.line-index l.line-items)
