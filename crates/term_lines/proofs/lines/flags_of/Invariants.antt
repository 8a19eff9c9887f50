use Rattle.std.proofs.Common.{◌≡◌, ◌==◌, ◌<◌, ℕ, false, length, take}
use Rattle.std.specs.Prelude.{slice_index_or}
use Rattle.std.specs.List.{list_any}
use Rattle.term_lines.proofs.lines.flags_of.Given as goal

abbrev pub invariant-loop-arc : goal.invariant-loop-arc
invariant-loop-arc l = record {
  count : length l.flags.items ≡ l.count;
  added : (p : ℕ) → p < l.count → slice_index_or l.flags.items p false ≡ list_any (λ j. slice_index_or l.adds j l.count == p) (take l.arc-index l.arcs);
}
