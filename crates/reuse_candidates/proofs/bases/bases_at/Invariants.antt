use Rattle.std.proofs.Common.{◌≡◌, map, take}
use Rattle.reuse_candidates.specs.Tables.{bases_of}
use Rattle.reuse_candidates.proofs.bases.bases_at.Given as goal

abbrev pub invariant-loop-var : goal.invariant-loop-var
invariant-loop-var l = l.bases.items ≡ map (bases_of l.table) (take l.var-index l.vars)
