use Rattle.instance_maker.proofs.InOrder.{below_limit, first_of_seven}
use Rattle.instance_maker.proofs.OneMade.{one_month_is_made, names_in_order, sizes_are_asked}
use Rattle.instance_maker.proofs.laws.made_months_are_as_asked.Goals as goal

pub returns : goal.returns
returns c = record {
  draws = below_limit;
  first = first_of_seven;
  one = one_month_is_made;
  sizes = sizes_are_asked;
  names = λ number members pairings. names_in_order members pairings number;
}
