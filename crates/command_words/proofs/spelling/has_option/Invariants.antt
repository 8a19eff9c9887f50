use Rattle.std.proofs.Common.{◌≡◌, ◌≤◌, map, drop, length}
use Rattle.command_words.specs.Reading.{has_option}
use Rattle.command_words.proofs.spelling.has_option.Given as goal

abbrev pub invariant-loop-i : goal.invariant-loop-i
invariant-loop-i l = record {
  within : l.i ≤ length l.words;
  same : has_option (map (λ w. w.now) (drop l.i l.words)) l.nodes (map (λ w. w.now) (drop l.i l.arguments))
      ≡ has_option (map (λ w. w.now) l.words) l.nodes (map (λ w. w.now) l.arguments);
}
