use Rattle.std.proofs.Common.{◌≡◌, drop, length, map}
use Rattle.core_ir.specs.declared.tree.Var.{Var}
use Rattle.core_facts.specs.Facts.{row_of, row_shape, shared_shape}
use Rattle.fact_table.specs.Table.{facts_of}
use Rattle.plain_facts.proofs.rows.row_shape.Given as goal

abbrev pub invariant-loop-k : goal.invariant-loop-k
invariant-loop-k l =
    row_of (length l.xs) (shared_shape l.shared (map (λ (x : Var). (facts_of l.facts x).shape) (drop l.k l.xs)))
    ≡ row_shape (map (λ (x : Var). (facts_of l.facts x).shape) l.xs)
