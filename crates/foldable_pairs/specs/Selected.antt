-- A part that uses a producer in selections at its index plus numbers alone.
use Rattle.std.specs.Prelude.{◌≡◌, ◌⊎◌, ℕ, List, [], ◌∷◌, map, length, replicate, ℤ, pos, Option, Some}
use Rattle.sac_base.specs.declared.grid.Grid1.{Grid1}
use Rattle.core_ir.specs.declared.tree.Var.{Var}
use Rattle.core_ir.specs.Terms.{BlockTerm, PartTerm}
use Rattle.core_facts.specs.Facts.{Facts, note, shape_fact}
use Rattle.core_loops.specs.Indices.{note_index, Plus, Other}
use Rattle.core_loops.specs.Loops.{weight, parted_in}
use Rattle.core_loops.specs.Pairs.{Selects, offsets}

-- the offsets of the selections in a part's body
abbrev pub body_offsets : (ℕ → List (Option (List ℕ))) → Facts → Var → List Grid1 → Var → BlockTerm → List (Option (List ℤ))
body_offsets called k p grid index b =
    offsets called p (length grid) b (note k index (shape_fact (Some (length grid ∷ []))))
    (note_index (λ x. Other) index (Plus (replicate (length grid) (pos 0))))

abbrev pub part_offsets : (ℕ → List (Option (List ℕ))) → Facts → Var → PartTerm → List (Option (List ℤ))
part_offsets called k p part = body_offsets called k p part.head.grid part.head.index part.body

-- all of them are these
abbrev pub SelectsAt : (ℕ → List (Option (List ℕ))) → Facts → Var → PartTerm → List (List ℤ) → Type 0
SelectsAt called k p part at = map (λ (c : List ℤ). Some c) at ≡ part_offsets called k p part

-- where it selects it has no with-loop and no parted loop
pub record OnlySelects (called : ℕ → List (Option (List ℕ))) (k : Facts) (p : Var) (part : PartTerm) (at : List (List ℤ)) : Type 0 where
  pub only : Selects p part.body
  pub offsets : SelectsAt called k p part at
  pub flat : (at ≡ []) ⊎ ((weight part.body ≡ 0) × (parted_in part.body ≡ 0))

-- it has none at all
pub record FlatSelects (called : ℕ → List (Option (List ℕ))) (k : Facts) (p : Var) (part : PartTerm) (at : List (List ℤ)) : Type 0 where
  pub only : Selects p part.body
  pub offsets : SelectsAt called k p part at
  pub weightless : weight part.body ≡ 0
  pub loopless : parted_in part.body ≡ 0
