use Rattle.std.proofs.Common.{◌≡◌, ◌++◌, drop, map}
use Rattle.core_ir.specs.View.{fun_term}
use Rattle.core_facts.specs.constants.Called.{shapes_at}
use Rattle.plain_facts.proofs.Groups.{group_lists, shape_lists}
use Rattle.plain_facts.proofs.called.CalledShapes.of_core.Given as goal

abbrev pub invariant-loop-group : goal.invariant-loop-group
invariant-loop-group l =
    shape_lists l.groups.items ++ map (shapes_at (map fun_term l.core.functions.items)) (group_lists (drop l.group-index l.group-items))
    ≡ map (shapes_at (map fun_term l.core.functions.items)) (group_lists l.group-items)
