use Rattle.cert_checker.proofs.Recalls.{sheet_kept}
use Rattle.cert_checker.proofs.recall.keep.Goals as goal

pub returns-in_ok-sheet_of-in-None : goal.returns-in_ok-sheet_of-in-None
returns-in_ok-sheet_of-in-None c = record {
  right = λ problem all one. c.add_sheet.ensures.right problem all (c.in_ok-sheet_of-in-None.ensures.right problem one);
}

pub returns-in-Some : goal.returns-in-Some
returns-in-Some c = record {
  right = λ problem. sheet_kept problem c.args.sheets.now c.as_slice.result.now c.args.weights.now c.in-Some.place c.at_mut-sheet.result.now c.add.new.answers c.args.answer
      c.as_slice.ensures c.in-Some.ensures.sheet c.at_mut-sheet.ensures.value c.add.ensures.right;
}
