use Rattle.std.proofs.Common.{◌≡◌, [], map, replicate}
use Rattle.single_assign.proofs.program.empty_groups.Given as goal

abbrev pub invariant-loop : goal.invariant-loop
invariant-loop l = map (λ g. g.items) l.groups.items ≡ replicate l.counter []
