use Rattle.std.proofs.Common.{◌≡◌, drop}
use Rattle.sac_ast.specs.Bases.{with_bases}
use Rattle.sac_bases.proofs.bindings.bind_targets.Given as goal

abbrev pub invariant-loop-k : goal.invariant-loop-k
invariant-loop-k l = with_bases (drop l.k l.targets) (drop l.k l.bases) l.known.all.items ≡ with_bases l.targets l.bases l.initial.known.all.items
