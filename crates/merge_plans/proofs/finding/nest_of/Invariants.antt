use Rattle.std.proofs.Common.{All, take}
use Rattle.merge_plans.proofs.Opens.{IsLoopless}
use Rattle.merge_plans.proofs.finding.nest_of.Given as goal

abbrev pub invariant-loop-place : goal.invariant-loop-place
invariant-loop-place l = All IsLoopless (take l.place l.lets)
