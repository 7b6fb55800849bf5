use Rattle.std.proofs.Common.{ℕ, suc, map, length, ◌∙◌, rules, arith}
use Rattle.std.proofs.lemmas.List.Sorted.{IsNonDecreasingBy-from_sort_by_key}
use Rattle.chunk_reports.specs.declared.reports.Report.{Report}
use Rattle.chunk_reports.proofs.Sorting.{in_order, once_between}
use Rattle.chunk_reports.proofs.Ascending.{same_times, ascending}
use Rattle.chunk_reports.proofs.reports.put_in_order.Goals as goal

pub returns-clause-order : goal.returns-clause-order
returns-clause-order g c =
    let old = c.args.reports.now.items in let new = c.sort_unstable_by_key.new.self.items in
    let n : ℕ = length old in
    in_order n 0 (map (λ (r : Report g.row.T.Denot). r.chunk) new)
    (ascending new (λ k d lt. IsNonDecreasingBy-from_sort_by_key (λ (r : Report g.row.T.Denot). r.chunk) _ c.sort_unstable_by_key.ensures.sorted (λ a r q h. search rules) k (suc k) d (omega arith) lt))
    (once_between n (map (λ (r : Report g.row.T.Denot). r.chunk) new) (λ x. same_times x old new c.sort_unstable_by_key.ensures.permutation ∙ c.requires.once x))
