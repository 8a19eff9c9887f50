use Rattle.line_tests.proofs.Offers.{same_members, same_pairings}
use Rattle.line_tests.proofs.pools.offer_first.Goals as goal

pub returns-clause-members : goal.returns-clause-members
returns-clause-members c = same_members c.offer.result c.args.pool.now c.offer.new.self 0 c.in_ok-line.line c.offer.ensures.ok c.offer.ensures.err

pub returns-clause-pairings : goal.returns-clause-pairings
returns-clause-pairings c = same_pairings c.offer.result c.args.pool.now c.offer.new.self 0 c.in_ok-line.line c.offer.ensures.ok c.offer.ensures.err
