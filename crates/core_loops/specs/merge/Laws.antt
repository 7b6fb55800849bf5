-- The statements of the laws.
use Rattle.std.specs.Prelude.{◌≡◌, ℕ, List, [], ◌++◌, map, flat_map, All, true, Some, Ok, ℤ, pos}
use Rattle.sac_base.specs.declared.base.Base.{Base}
use Rattle.sac_base.specs.declared.grid.Grid1.{Grid1}
use Rattle.sac_base.specs.declared.site.Site.{Site}
use Rattle.sac_base.specs.Grids.{has_vector, members}
use Rattle.sac_base.specs.Outcomes.{and_then}
use Rattle.sac_base.specs.WithLoops.{each}
use Rattle.core_ir.specs.declared.tree.PartedOp.TheVariants.{Genarray}
use Rattle.core_ir.specs.Meaning.{Env, Cells, cell_at, cell_form, extents, joined, parted_value}

-- the members of a frame followed by another are those of the first, each with those of the second, in row-major order
abbrev pub ProductsOfFrames : Type 0
ProductsOfFrames =
    (f g : List Grid1) → All (λ (a : Grid1). a.step ≡ pos 1) f → All (λ (a : Grid1). a.step ≡ pos 1) g →
    members (f ++ g) ≡ flat_map (λ v. map (λ w. v ++ w) (members g)) (members f)

-- a loop over a frame followed by another, with the cells of inner loops, gives what the loop of these inner loops gives, the first fault included
abbrev pub NestsMayBeMerged : Type 0
NestsMayBeMerged =
    (f g : List Grid1) (t : Base) (cell : List ℕ) (new old : List Cells) (s : Site) (e : Env) → All (λ (a : Grid1). a.step ≡ pos 1) f →
    All (λ (a : Grid1). a.step ≡ pos 1) g → extents g ≡ cell →
    ((v : List ℤ) → has_vector f v ≡ true → (inner : List Cells) ×
    (cell_at (cell_form t cell) old v ≡
    and_then (and_then (each (cell_at (cell_form t []) inner) (members g)) (λ found. Ok (joined t (extents g ++ []) found))) (λ a. Ok (Some a))) ×
    ((w : List ℤ) → has_vector g w ≡ true → cell_at (cell_form t []) new (v ++ w) ≡ cell_at (cell_form t []) inner w)) →
    parted_value (f ++ g) t [] Genarray new s e ≡ parted_value f t cell Genarray old s e
