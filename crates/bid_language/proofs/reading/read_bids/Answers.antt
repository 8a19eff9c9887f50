use Rattle.bid_language.proofs.ValidBids.{gives-valid}
use Rattle.bid_language.proofs.reading.read_bids.Goals as goal

pub returns-clause-valid : goal.returns-clause-valid
returns-clause-valid c = gives-valid c.args.base.now c.args.text.now c.read_text.result c.requires.base c.read_text.ensures.read
