use Rattle.std.proofs.Common.{◌≡◌, take}
use Rattle.reuse_candidates.proofs.calls.copy_types.Given as goal

abbrev pub invariant-loop-ty : goal.invariant-loop-ty
invariant-loop-ty l = l.copy.items ≡ take l.ty-index l.types
