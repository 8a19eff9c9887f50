use Rattle.std.proofs.Common.{rules}
use Rattle.std.proofs.lemmas.List.Sorted.{IsNonDecreasingBy-from_sort_by_key}
use Rattle.label_setter.specs.Chains.{end_of}
use Rattle.label_setter.proofs.order.sort_by_end.Goals as goal

pub returns-clause-sorted : goal.returns-clause-sorted
returns-clause-sorted g c = IsNonDecreasingBy-from_sort_by_key (end_of c.args.arcs.now) _ c.sort_unstable_by_key.ensures.sorted (λ a r q k. search rules)
