use Rattle.std.proofs.Common.{◌≡◌, take}
use Rattle.line_generator.proofs.classes.same_windows.Given as goal

abbrev pub invariant-loop-window : goal.invariant-loop-window
invariant-loop-window l = l.list ≡ take l.window-index l.windows
