use Rattle.closer_tests.proofs.OtherBids.{month_valid}
use Rattle.closer_tests.proofs.again.with_junior.Goals as goal

pub invariant_of-result : goal.invariant_of-result
invariant_of-result g c = record {
  valid = month_valid c.args.month.now c.expect.result c.expect-senior.result c.args.junior c.expect-2.result
      (rw c.expect.ensures at c.copy.ensures.equal) (rw c.expect-2.ensures at c.pair.ensures.both)
      c.requires.members c.requires.pairings (rw c.expect-senior.ensures at c.first_pairing.ensures.bid)
      c.requires.few c.requires.bids;
}
