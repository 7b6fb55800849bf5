use Rattle.std.proofs.Common.{◌≡◌, ◌++◌, drop, map}
use Rattle.core_facts.specs.constants.Called.{shape_of_type}
use Rattle.plain_facts.proofs.called.type_shapes.Given as goal

abbrev pub invariant-loop-ty : goal.invariant-loop-ty
invariant-loop-ty l = l.shapes.items ++ map shape_of_type (drop l.ty-index l.types) ≡ map shape_of_type l.types
