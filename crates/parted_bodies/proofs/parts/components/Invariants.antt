use Rattle.std.proofs.Common.{◌≡◌, ◌+◌, ◌++◌, drop, map, pos}
use Rattle.core_ir.specs.declared.tree.Var.{Var as Variable}
use Rattle.core_ir.specs.View.{let_term}
use Rattle.parted_bodies.specs.Numbering.{named_in}
use Rattle.parted_bodies.specs.Making.{component_lets, component_names}
use Rattle.parted_bodies.proofs.parts.components.Given as goal

abbrev pub invariant-loop-name : goal.invariant-loop-name
invariant-loop-name l =
    (map let_term l.lets.items ++ component_lets l.site l.index l.name-index (drop l.name-index l.components) l.progress.next
    ≡ component_lets l.site l.index 0 l.components l.initial.progress.next)
    × ((z : Variable) → component_names (named_in l.names) (drop l.name-index l.components) l.progress.next z
    ≡ component_names (named_in l.initial.names) l.components l.initial.progress.next z)
    × (l.progress ≡ record l.initial.progress { next = l.initial.progress.next + (l.name-index + l.name-index) })
    × (l.place ≡ pos l.name-index)
