use Rattle.std.proofs.Common.{◌≡◌, ◌++◌, drop}
use Rattle.reuse_candidates.specs.Calls.{bases_of_types}
use Rattle.reuse_candidates.proofs.calls.type_bases.Given as goal

abbrev pub invariant-loop-ty : goal.invariant-loop-ty
invariant-loop-ty l = l.bases.items ++ bases_of_types (drop l.ty-index l.types) ≡ bases_of_types l.types
