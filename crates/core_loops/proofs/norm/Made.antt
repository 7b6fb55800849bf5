-- What is made of the cells: genarray, modarray and fold.
use Rattle.std.proofs.Common.{◌≡◌, ℕ, suc, List, [], ◌∷◌, ◌++◌, length, Option, Some, None, refl, sym, ap, ◌∙◌, ℤ, arith}
use Rattle.std.specs.Prelude.{flat_map, fold}
use Rattle.std.specs.List.{zip}
use Rattle.sac_base.specs.declared.base.Base.{Base}
use Rattle.sac_base.specs.declared.op.Op.{Op}
use Rattle.sac_base.specs.declared.grid.Grid1.{Grid1}
use Rattle.sac_base.specs.declared.site.Site.{Site}
use Rattle.sac_base.specs.Arrays.{ArrayValue}
use Rattle.sac_base.specs.Grids.{members}
use Rattle.sac_base.specs.Parts.{part_at}
use Rattle.sac_base.specs.WithLoops.{Plan, genarray, modarray, fold_by, cell_or, cell_or_old, cells_of_part, combined, finish}
use Rattle.core_ir.specs.declared.tree.Var.{Var}
use Rattle.core_ir.specs.declared.tree.PartedOp.TheVariants as parted
use Rattle.core_ir.specs.Meaning.{Env, elements_of, extents, made_of}
use Rattle.core_loops.specs.norm.Norm.{filled, or_else}

none_left : (A : Type 0) (n : ℕ) → 0 ≡ suc n → A
none_left A n p = absurd (omega arith)

gen_cells : (default : ArrayValue) (vs : List (List ℤ)) (os : List (Option ArrayValue)) → length os ≡ length vs → flat_map elements_of (filled (or_else (λ v. Some default)) vs os) ≡ flat_map (cell_or default) os
gen_cells default [] [] h = refl
gen_cells default [] (o ∷ os) h = none_left _ (length os) (sym h)
gen_cells default (v ∷ vs) [] h = none_left _ (length vs) h
gen_cells default (v ∷ vs) (None ∷ os) h = ap (λ zs. default.cells ++ zs) (gen_cells default vs os (omega (arith, h)))
gen_cells default (v ∷ vs) (Some c ∷ os) h = ap (λ zs. c.cells ++ zs) (gen_cells default vs os (omega (arith, h)))

-- the default stands where no generator holds
pub genarray_made : (shape default : ArrayValue) (s : Site) (p : Plan) (frame : List Grid1) (base : Base) (cell : List ℕ) (e : Env) (os : List (Option ArrayValue)) → base ≡ default.base → p.shape ≡ extents frame ++ cell → length os ≡ length (members frame)
    → made_of frame base cell parted.Genarray e (filled (or_else (λ v. Some default)) (members frame) os) ≡ finish (genarray shape default s) p os
genarray_made shape default s p frame base cell e os b h l = λ i. record { base = b i; shape = sym h i; cells = gen_cells default (members frame) os l i }

-- the old cell at an index
abbrev pub old_cell : ArrayValue → List ℕ → List ℤ → ArrayValue
old_cell array cell v = record { base = array.base; shape = cell; cells = cells_of_part array (part_at array.shape v) }

old_cells : (array : ArrayValue) (cell : List ℕ) (vs : List (List ℤ)) (os : List (Option ArrayValue)) → length os ≡ length vs
    → flat_map elements_of (filled (or_else (λ v. Some (old_cell array cell v))) vs os) ≡ flat_map (λ (q : List ℤ × Option ArrayValue). cell_or_old array q.0 q.1) (zip vs os)
old_cells array cell [] [] h = refl
old_cells array cell [] (o ∷ os) h = none_left _ (length os) (sym h)
old_cells array cell (v ∷ vs) [] h = none_left _ (length vs) h
old_cells array cell (v ∷ vs) (None ∷ os) h = ap (λ zs. cells_of_part array (part_at array.shape v) ++ zs) (old_cells array cell vs os (omega (arith, h)))
old_cells array cell (v ∷ vs) (Some c ∷ os) h = ap (λ zs. c.cells ++ zs) (old_cells array cell vs os (omega (arith, h)))

pub modarray_made : (array : ArrayValue) (s : Site) (p : Plan) (frame : List Grid1) (base : Base) (cell : List ℕ) (x : Var) (e : Env) (os : List (Option ArrayValue)) → base ≡ array.base → p.shape ≡ extents frame ++ cell → p.indices ≡ members frame → length os ≡ length (members frame)
    → made_of frame base cell (parted.Modarray x) e (filled (or_else (λ v. Some (old_cell array cell v))) (members frame) os) ≡ finish (modarray array s) p os
modarray_made array s p frame base cell x e os b h q l =
    (λ i. record { base = b i; shape = sym h i; cells = old_cells array cell (members frame) os l i })
    ∙ (λ i. record { base = array.base; shape = p.shape; cells = flat_map (λ (r : List ℤ × Option ArrayValue). cell_or_old array r.0 r.1) (zip (sym q i) os) })

same_cells : (vs : List (List ℤ)) (os : List (Option ArrayValue)) → length os ≡ length vs → filled (or_else (λ v. None)) vs os ≡ os
same_cells [] [] h = refl
same_cells [] (o ∷ os) h = none_left _ (length os) (sym h)
same_cells (v ∷ vs) [] h = none_left _ (length vs) h
same_cells (v ∷ vs) (None ∷ os) h = ap (λ zs. None ∷ zs) (same_cells vs os (omega (arith, h)))
same_cells (v ∷ vs) (Some c ∷ os) h = ap (λ zs. Some c ∷ zs) (same_cells vs os (omega (arith, h)))

pub fold_made : (o : Op) (x : Var) (s : Site) (p : Plan) (frame : List Grid1) (base : Base) (cell : List ℕ) (e : Env) (os : List (Option ArrayValue)) → length os ≡ length (members frame)
    → made_of frame base cell (parted.Fold o x) e (filled (or_else (λ v. None)) (members frame) os) ≡ finish (fold_by o (e x) s) p os
fold_made o x s p frame base cell e os l = ap (fold (combined o) (e x)) (same_cells (members frame) os l)
