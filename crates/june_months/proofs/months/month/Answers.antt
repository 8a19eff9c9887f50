use Rattle.june_months.proofs.months.month.Goals as goal

pub invariant_of-result : goal.invariant_of-result
invariant_of-result c = record {
  valid = record {
    month = record {
      rules_form = c.in_ok-rules.ensures.form;
      pairings_form = c.requires.pairings _ c.in_ok-rules.ensures.days;
      members_form = c.requires.members _;
    };
    lists = c.requires.lists;
    few_bids = c.requires.few_bids;
    each_bid = c.requires.each_bid _ c.in_ok-rules.ensures.days;
  };
}
