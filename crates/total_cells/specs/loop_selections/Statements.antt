-- What the test decides.
use Rattle.std.specs.Prelude.{◌≡◌, IsTrue, ◌↔◌}
use Rattle.core_ir.specs.declared.tree.Var.{Var}
use Rattle.core_ir.specs.Terms.{BlockTerm}
use Rattle.core_loops.specs.Loops.{weight, parted_in}
use Rattle.core_loops.specs.Pairs.{Selects}
use Rattle.total_cells.specs.loop_selections.Selecting.{is_selecting}

-- the block uses the variable in selections from it alone, and has no with-loop and no parted loop
abbrev pub SelectingIsDecided : Type 0
SelectingIsDecided = (p : Var) (b : BlockTerm) → IsTrue (is_selecting p b) ↔ Selects p b × (weight b ≡ 0) × (parted_in b ≡ 0)
