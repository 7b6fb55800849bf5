-- What loops make of their cells.
use Rattle.std.proofs.Common.{◌≡◌, ℕ, ◌+◌, List, [], ◌∷◌, ◌++◌, sym, ap, ◌∙◌, Option, Some, None, append_assoc, append-nil}
use Rattle.std.specs.Prelude.{ℤ, fold, flat_map}
use Rattle.sac_base.specs.declared.op.Op.{Op}
use Rattle.sac_base.specs.Arrays.{ArrayValue}
use Rattle.sac_base.specs.WithLoops.{combined}
use Rattle.core_ir.specs.Meaning.{elements_of}
use Rattle.array_with_loops.specs.Cells.{cell_from, cells_from}
use Rattle.run_loops.specs.Jobs.{cell_over, cells_over}
use Rattle.run_loops.specs.declared.cells.Background.{Background}
use Rattle.run_eval.proofs.CellRuns.{Making, Cells}

-- their elements one after another, over a background if there is one
abbrev pub covering : Option Background → Making (List ℤ) (List ℤ)
covering background x k rest = x ++ cells_over background k rest

pub covered_more : (background : Option Background) (k : ℕ) (x x' : List ℤ) (cell : Option ArrayValue) → x' ≡ x ++ cell_over background k cell
    → (rest : Cells) → covering background x k (cell ∷ rest) ≡ covering background x' (k + 1) rest
covered_more None k x x' cell is rest =
    sym (ap (λ y. y ++ flat_map elements_of rest) is ∙ append_assoc x (elements_of cell) (flat_map elements_of rest))
covered_more (Some b) k x x' cell is rest =
    sym (ap (λ y. y ++ cells_from b.old b.array.now b.size (k + 1) rest) is
    ∙ append_assoc x (cell_from b.old b.array.now b.size k cell) (cells_from b.old b.array.now b.size (k + 1) rest))

pub covered_all : (background : Option Background) (k : ℕ) (x x0 : List ℤ) (found : Cells)
    → covering background x k [] ≡ covering background x0 0 found → x ≡ x0 ++ cells_over background 0 found
covered_all None k x x0 found is = sym (append-nil x) ∙ is
covered_all (Some b) k x x0 found is = sym (append-nil x) ∙ is

-- their combination
abbrev pub folding : Op → Making ArrayValue ArrayValue
folding op x k rest = fold (combined op) x rest

pub folded_more : (op : Op) (k : ℕ) (x x' : ArrayValue) (cell : Option ArrayValue) → x' ≡ combined op x cell → (rest : Cells) → folding op x k (cell ∷ rest) ≡ folding op x' (k + 1) rest
folded_more op k x x' cell is rest = ap (λ y. fold (combined op) y rest) (sym is)
