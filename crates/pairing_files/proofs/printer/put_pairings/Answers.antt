use Rattle.pairing_files.proofs.PairingsAgain.{texts-again}
use Rattle.pairing_files.proofs.printer.put_pairings.Goals as goal

pub returns-clause-again : goal.returns-clause-again
returns-clause-again c =
    texts-again c.args.horizon.now c.args.list.now c.in_ok-pairings_text.field-0 c.in_ok-duties_text.field-0 c.in_ok-legs_text.field-0
    c.in_ok-pairings_text.ensures.whole c.in_ok-duties_text.ensures.whole c.in_ok-legs_text.ensures.whole
