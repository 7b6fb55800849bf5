-- The statements of the laws.
use Rattle.std.specs.Prelude.{◌≡◌, ℕ, List, ℤ, Option, None, false, map}
use Rattle.sac_base.specs.Grids.{has_vector, times_vector}
use Rattle.std.specs.List.{list_any}
use Rattle.sac_base.specs.declared.base.Base.{Base}
use Rattle.sac_base.specs.declared.grid.Grid1.{Grid1}
use Rattle.sac_base.specs.declared.site.Site.{Site}
use Rattle.sac_base.specs.Arrays.{ArrayValue}
use Rattle.sac_base.specs.WithLoops.{Generator, Operation, Plan, Range, holder, with_value}
use Rattle.core_ir.specs.declared.tree.PartedOp.{PartedOp}
use Rattle.core_ir.specs.Meaning.{Env, Cells, parted_value}
use Rattle.core_loops.specs.norm.Norm.{IsParted, Match, NameFirst, Labelled, PartFits, held_by}

-- a parted loop whose parts have at each index what the with-loop has there gives the with-loop's value, faults and their sites included
abbrev pub WithLoopsAreParted : Type 0
WithLoopsAreParted =
    (gs : List Generator) (op : Operation) (p : Plan) (other : List ℤ → Option ArrayValue) (frame : List Grid1) (base : Base) (cell : List ℕ)
    (made : PartedOp) (parts : List Cells) (s : Site) (e : Env) →
    IsParted gs op p other frame base cell made parts e → parted_value frame base cell made parts s e ≡ with_value gs op

-- where the parts of a partition have a vector once, and each has the cells of its first generator, the part that has the vector has what the with-
-- loop has there
abbrev pub PartitionsFit : Type 0
PartitionsFit =
    (form : ArrayValue) (grids : List (List Grid1)) (rs : List Range) (gs : List Generator) (other : List ℤ → Option ArrayValue) (v : List ℤ)
    (parts : List (List Grid1 × Option ℕ)) (cs : List Cells) →
    Match grids rs gs → NameFirst grids parts → Labelled form gs other v parts cs → times_vector (map (λ p. p.0) parts) v ≡ 1 →
    PartFits form v (holder gs rs v) (other v) (held_by cs v)

-- the same of a vector that no part and no generator has, where nothing stands
abbrev pub GapsFit : Type 0
GapsFit =
    (form : ArrayValue) (grids : List (List Grid1)) (rs : List Range) (gs : List Generator) (v : List ℤ) (cs : List Cells) → Match grids rs gs →
    list_any (λ g. has_vector g v) grids ≡ false → list_any (λ (c : Cells). has_vector c.grid v) cs ≡ false →
    PartFits form v (holder gs rs v) None (held_by cs v)
