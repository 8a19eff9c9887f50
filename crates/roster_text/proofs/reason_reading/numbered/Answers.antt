use Rattle.std.proofs.Common.{sym, ◌∙◌}
use Rattle.roster_text.specs.ReasonWords.{is_number}
use Rattle.roster_text.proofs.ReasonSteps.{numbers_on}
use Rattle.roster_text.proofs.reason_reading.numbered.Goals as goal

pub loop-number-preserved : goal.loop-number-preserved
loop-number-preserved c =
    numbers_on (is_number c.args.word.now) c.args.count c.loop-number.number _ c.loop-number-test.true
    (sym c.in_ok-is_number.ensures.value ∙ c.if-branch.false) c.loop-number.invariant
