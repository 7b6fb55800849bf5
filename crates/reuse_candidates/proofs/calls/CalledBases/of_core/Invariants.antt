use Rattle.std.proofs.Common.{◌≡◌, ◌++◌, drop, map}
use Rattle.core_ir.specs.View.{fun_term}
use Rattle.counted_marks.specs.Bases.{bases_at}
use Rattle.reuse_candidates.proofs.Groups.{group_lists, base_lists}
use Rattle.reuse_candidates.proofs.calls.CalledBases.of_core.Given as goal

abbrev pub invariant-loop-group : goal.invariant-loop-group
invariant-loop-group l =
    base_lists l.groups.items ++ map (bases_at (map fun_term l.core.functions.items)) (group_lists (drop l.group-index l.group-items))
    ≡ map (bases_at (map fun_term l.core.functions.items)) (group_lists l.group-items)
