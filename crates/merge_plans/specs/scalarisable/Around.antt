-- Bindings around an inner loop, as tests on terms.
use Rattle.std.specs.Prelude.{ℕ, Bool, true, ◌&&◌, List, [], ◌∷◌, length, Option, Some}
use Rattle.sac_base.specs.declared.grid.Grid1.{Grid1}
use Rattle.core_ir.specs.declared.tree.Var.{Var}
use Rattle.core_ir.specs.Terms.{LetTerm, Gives, chain}
use Rattle.core_facts.specs.Facts.{Facts, note, shape_fact}
use Rattle.core_loops.specs.Indices.{own_index, total_block}
use Rattle.core_uses.specs.Tests.{is_avoided_right}

-- one list of bindings and then another never fault, in the body of a part of this grid and index
abbrev pub are_total : (ℕ → List (Option (List ℕ))) → List Grid1 → Facts → Var → List LetTerm → List LetTerm → Bool
are_total called grid k index before after =
    total_block called grid (chain before (chain after (Gives []))) (note k index (shape_fact (Some (length grid ∷ [])))) (own_index (length grid) index)

-- no right side uses the variable
abbrev pub none_uses : Var → List LetTerm → Bool
none_uses x [] = true
none_uses x (l ∷ ls) = is_avoided_right x l.right && none_uses x ls
