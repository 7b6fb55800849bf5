use Rattle.std.proofs.Common.{◌≡◌, ◌+◌, drop}
use Rattle.core_ir.specs.declared.tree.Var.{Var as Variable}
use Rattle.parted_bodies.specs.Numbering.{named_in, numbered}
use Rattle.parted_bodies.proofs.names.Names.set_all.Given as goal

abbrev pub invariant-loop-x : goal.invariant-loop-x
invariant-loop-x l =
    ((z : Variable) → numbered (named_in l.self) (drop l.x-index l.xs) l.progress.next z ≡ numbered (named_in l.initial.self) l.xs l.initial.progress.next z)
    × (l.progress ≡ record l.initial.progress { next = l.initial.progress.next + l.x-index })
