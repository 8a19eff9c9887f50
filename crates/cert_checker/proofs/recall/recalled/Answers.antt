use Rattle.std.proofs.Common.{◌∙◌, sym, ap}
use Rattle.cert_checker.specs.declared.recall.Sheet.{Sheet}
use Rattle.cert_checker.proofs.Recalls.{found_right}
use Rattle.cert_checker.proofs.recall.recalled.Goals as goal

pub returns-in-Some : goal.returns-in-Some
returns-in-Some c = record {
  right = λ problem. found_right problem c.args.sheets.now c.args.weights.now c.in-Some.place c.index-sheets-place.result c.as_slice.result.now
      c.args.member c.args.floor c.args.lens.now c.found.result c.in-Some.ensures.sheet c.index-sheets-place.is
      (c.as_slice.ensures ∙ sym (ap (λ (s : Sheet). s.answers) c.index-sheets-place.is)) c.found.ensures.kept;
}
