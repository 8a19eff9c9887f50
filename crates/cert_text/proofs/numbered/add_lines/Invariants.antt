use Rattle.std.proofs.Common.{◌≡◌, ◌<◌, ◌^◌, length}
use Rattle.std.specs.List.{list_all}
use Rattle.cert_text.specs.LensLines.{texts, lenses_of}
use Rattle.cert_text.specs.Limits.{is_plain_lens}
use Rattle.cert_text.proofs.LineSteps.{SoFar}
use Rattle.cert_text.proofs.numbered.add_lines.Given as goal

abbrev pub invariant-loop-i : goal.invariant-loop-i
invariant-loop-i l = record {
  count : length l.table ≡ l.i;
  bound : l.lines.line < 2 ^ 32;
  plain : l.plain ≡ list_all is_plain_lens (lenses_of l.table);
  read : SoFar l.wanted l.count (texts l.table) l.fn.lines l.lines;
}
