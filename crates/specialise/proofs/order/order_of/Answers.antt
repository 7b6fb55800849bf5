use Rattle.std.proofs.Common.{rules}
use Rattle.std.proofs.lemmas.List.Sorted.{IsNonDecreasingBy-from_sort_by_key}
use Rattle.specialise.specs.declared.order.Key.{Key}
use Rattle.specialise.specs.Plans.{entries}
use Rattle.specialise.proofs.Steps.{keys_permuted}
use Rattle.specialise.proofs.order.order_of.Goals as goal

pub returns-clause-keys : goal.returns-clause-keys
returns-clause-keys c = keys_permuted (entries c.args.items.now) c.in_ok-keys.keys.items c.sort_by_key.new.self.items c.in_ok-keys.ensures c.in_ok-sort_by_key.ensures.permutation

pub returns-clause-sorted : goal.returns-clause-sorted
returns-clause-sorted c = IsNonDecreasingBy-from_sort_by_key (λ (k : Key). k.source) _ c.in_ok-sort_by_key.ensures.sorted (λ a r q k. search rules)
