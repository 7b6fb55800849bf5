use Rattle.std.proofs.Common.{◌≡◌, drop}
use Rattle.counted_code.specs.Counts.{results_among}
use Rattle.phase_checks.proofs.Results.{function_terms}
use Rattle.phase_checks.proofs.groups.count_results.Given as goal
use Rattle.phase_checks.specs.Walks.{results_in}

abbrev pub invariant-loop-place : goal.invariant-loop-place
invariant-loop-place l = results_among (function_terms l.code.functions.items) (drop l.place-index l.place-items) ≡ results_in l.code l.group
