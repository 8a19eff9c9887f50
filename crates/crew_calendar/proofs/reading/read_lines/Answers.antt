use Rattle.std.proofs.Common.{ℕ, List, ap, arith, length}
use Rattle.crew_calendar.proofs.FoldLines.{unfolded_short}
use Rattle.crew_calendar.proofs.reading.read_lines.Goals as goal

pub content-requires : goal.content-requires
content-requires c = record {
  short = omega (arith, ap (λ (l : List ℕ). length l) c.as_slice.ensures, ap (λ (l : List ℕ). length l) c.in-Ok.ensures.value, unfolded_short c.args.text.now, c.requires.short);
}
