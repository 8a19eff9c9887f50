use Rattle.std.proofs.Common.{◌∙◌}
use Rattle.std.specs.Prelude.{All}
use Rattle.std.proofs.lemmas.List.Elements.{All-same}
use Rattle.cert_checker.specs.Recalls.{IsRightSheet}
use Rattle.cert_checker.proofs.Recalls.{none_right, pushed}
use Rattle.cert_checker.proofs.recall.add_sheet.Goals.{then-len-ge-MOST_SHEETS, else-len-ge-MOST_SHEETS}
use Rattle.cert_checker.proofs.recall.add_sheet.Goals as goal

pub returns : goal.returns
returns c = record {
  right = λ problem all.
      let left : All (IsRightSheet problem) c.if-len-ge-MOST_SHEETS.sheets =
      elim c.if-len-ge-MOST_SHEETS.branch [
        | then-len-ge-MOST_SHEETS w ↦ none_right problem c.if-len-ge-MOST_SHEETS.sheets (w.sheets-is ∙ w.new.ensures)
        | else-len-ge-MOST_SHEETS w ↦ All-same (IsRightSheet problem) c.if-len-ge-MOST_SHEETS.sheets c.args.sheets.now w.sheets-is all
      ] in
      pushed (IsRightSheet problem) c.if-len-ge-MOST_SHEETS.sheets c.push.new.self c.args.sheet c.push.result c.push.ensures.ok c.push.ensures.err left;
}
