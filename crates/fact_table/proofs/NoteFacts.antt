-- The facts of notes as the table below keeps them.
use Rattle.std.proofs.Common.{◌≡◌, ℕ, ◌-◌, List, map, length, refl}
use Rattle.std.specs.Prelude.{drop}
use Rattle.core_ir.specs.declared.tree.Var.{Var}
use Rattle.fact_table.specs.scoped_table.Notes as scoped
use Rattle.fact_table.specs.scoped_table.Notes.{noted}
use Rattle.fact_table.specs.declared.known.Known.{Known}
use Rattle.fact_table.specs.Table.{facts_of, fact_or_none, fact_note}
use Rattle.fact_table.proofs.scoped_table.Mapped

-- the latest note of a variable is its fact
pub found : (ns : List (scoped.Note Known)) (x : Var) → fact_or_none (noted ns x) ≡ facts_of (map fact_note ns) x
found = Mapped.found fact_or_none (λ ns. facts_of (map fact_note ns)) (λ x. refl) (λ n ns x. refl)

pub undone : (mark : ℕ) (old : List (scoped.Note Known)) → map fact_note (drop (length old - mark) old) ≡ drop (length (map fact_note old) - mark) (map fact_note old)
undone = Mapped.undone fact_note
