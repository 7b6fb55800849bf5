-- What notes say of variables, as the table below keeps them.
use Rattle.std.proofs.Common.{◌≡◌, ℕ, ◌-◌, List, map, length, refl}
use Rattle.std.specs.Prelude.{drop}
use Rattle.core_ir.specs.declared.tree.Var.{Var}
use Rattle.fact_table.specs.scoped_table.Notes as scoped
use Rattle.fact_table.specs.scoped_table.Notes.{noted}
use Rattle.fact_table.proofs.scoped_table.Mapped
use Rattle.index_table.specs.declared.relation.Relation.{Relation}
use Rattle.index_table.specs.Table.{indices_of, index_or_other, index_note}

-- the latest note of a variable says what it is
pub found : (ns : List (scoped.Note Relation)) (x : Var) → index_or_other (noted ns x) ≡ indices_of (map index_note ns) x
found = Mapped.found index_or_other (λ ns. indices_of (map index_note ns)) (λ x. refl) (λ n ns x. refl)

pub undone : (mark : ℕ) (old : List (scoped.Note Relation)) → map index_note (drop (length old - mark) old) ≡ drop (length (map index_note old) - mark) (map index_note old)
undone = Mapped.undone index_note
