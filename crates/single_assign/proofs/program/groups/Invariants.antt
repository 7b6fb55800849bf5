use Rattle.std.proofs.Common.{◌≡◌, drop, map, length}
use Rattle.sac_ast.specs.View.{functions}
use Rattle.core_lowering.specs.Programs.{places_of}
use Rattle.core_scopes.specs.Looks.{texts}
use Rattle.single_assign.proofs.Groups.{joined}
use Rattle.single_assign.proofs.program.groups.Given as goal

abbrev pub invariant-loop-k : goal.invariant-loop-k
invariant-loop-k l =
    (length l.groups.items ≡ length l.names.keys)
    × (joined (functions (drop l.k l.functions)) l.k (texts l.names.keys) (map (λ g. g.items) l.groups.items)
    ≡ map (λ x. places_of x 0 (functions l.functions)) (texts l.names.keys))
