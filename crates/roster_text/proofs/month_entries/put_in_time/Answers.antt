use Rattle.std.proofs.Common.{◌≡◌, rules}
use Rattle.std.proofs.lemmas.Fn.{always_returns_same}
use Rattle.std.proofs.lemmas.List.Sorted.{IsNonDecreasingBy-from_sort}
use Rattle.roster_text.proofs.MonthOrder.{first, sorted_in_time}
use Rattle.roster_text.proofs.month_entries.put_in_time.Goals as goal

pub returns : goal.returns
returns c = record {
  sorted =
      sorted_in_time c.args.entries.now.items c.sort_by_key.new.self.items
      (IsNonDecreasingBy-from_sort first c.sort_by_key.new.self.items
      (c.in_ok-sort_by_key.ensures.sorted first (always_returns_same _ (λ a r. r ≡ a.0.now.span.start) _ (λ a r q k. search rules))))
      (c.in_ok-sort_by_key.ensures.stable first (always_returns_same _ (λ a r. r ≡ a.0.now.span.start) _ (λ a r q k. search rules)));
}
