-- A selection from a parted loop whose cells never fault is its cell.
use Rattle.std.proofs.Common.{◌≡◌, ℕ, zero, suc, ◌*◌, ◌<◌, List, [], ◌∷◌, ◌++◌, length, get_or, take, drop, map, Bool, true, false, refl, sym, ap, ◌∙◌, arith, ℤ, cond, Option, Some, Ok}
use Rattle.std.specs.Prelude.{filter, flat_map, if◌then◌else◌}
use Rattle.sac_base.specs.declared.base.Base.{Base}
use Rattle.sac_base.specs.declared.base.Base.TheVariants.{Int}
use Rattle.sac_base.specs.declared.faults.FaultKind.TheVariants.{F6}
use Rattle.sac_base.specs.declared.grid.Grid1.{Grid1}
use Rattle.sac_base.specs.declared.site.Site.{Site}
use Rattle.sac_base.specs.Arrays.{ArrayValue, size, scalar, vector}
use Rattle.sac_base.specs.Grids.{has_vector, members, box_indices}
use Rattle.sac_base.specs.Operators.{all_of, with_first}
use Rattle.sac_base.specs.Outcomes.{Ends, and_then, fault}
use Rattle.sac_base.specs.Parts.{part_at, select, selected}
use Rattle.sac_base.specs.WithLoops.{box, shape_spans, each}
use Rattle.core_ir.specs.declared.tree.PartedOp.{PartedOp}
use Rattle.core_ir.specs.declared.tree.PartedOp.TheVariants as parted
use Rattle.core_ir.specs.Meaning.{Env, Cells, cell_at, cell_form, elements_of, extents, made_of, neutral_fits, parted_value}
use Rattle.array_with_loops.proofs.CellSteps.{length_indices, part_at_front}
use Rattle.core_loops.specs.folds.Cells.{IsBox, HasCells, MakesArray}
use Rattle.core_loops.proofs.folds.Places.{members_are, index_of_place, place_found}

abbrev held_scalar : Base → (List ℤ → ℤ) → List ℤ → Option ArrayValue
held_scalar base at v = Some (scalar base (at v))

-- cells that never fault are all made
each_made : (f : List ℤ → Ends (Option ArrayValue)) (g : List ℤ → Option ArrayValue) (p : List ℤ → Bool) (vs : List (List ℤ)) → ((v : List ℤ) → p v ≡ true → f v ≡ Ok (g v)) → each f (filter p vs) ≡ Ok (map g (filter p vs))
each_made f g p [] h = refl
each_made f g p (v ∷ vs) h = go (p v) refl (each_made f g p vs h)
  where
    go : (b : Bool) → p v ≡ b → each f (filter p vs) ≡ Ok (map g (filter p vs)) → each f (cond b (v ∷ filter p vs) (filter p vs)) ≡ Ok (map g (cond b (v ∷ filter p vs) (filter p vs)))
    go true e r = (λ i. all_of (h v e i ∷ map f (filter p vs))) ∙ (λ i. with_first (g v) (r i))
    go false e r = r

scalars_joined : (base : Base) (at : List ℤ → ℤ) (vs : List (List ℤ)) → flat_map elements_of (map (held_scalar base at) vs) ≡ map at vs
scalars_joined base at [] = refl
scalars_joined base at (v ∷ vs) = λ i. at v ∷ scalars_joined base at vs i

-- the array that a parted loop with these cells makes
abbrev pub array_of : List Grid1 → Base → (List ℤ → ℤ) → ArrayValue
array_of frame base at = record { base = base; shape = extents frame ++ []; cells = map at (members frame) }

made_is : (frame : List Grid1) (base : Base) (op : PartedOp) (e : Env) (at : List ℤ → ℤ) → MakesArray op → made_of frame base [] op e (map (held_scalar base at) (members frame)) ≡ array_of frame base at
made_is frame base parted.Genarray e at m = λ i. record { base = base; shape = extents frame ++ []; cells = scalars_joined base at (members frame) i }
made_is frame base (parted.Modarray x) e at m = λ i. record { base = base; shape = extents frame ++ []; cells = scalars_joined base at (members frame) i }
made_is frame base (parted.Fold o x) e at m = absurd m

fits : (form : ArrayValue) (op : PartedOp) (e : Env) → MakesArray op → neutral_fits form op e ≡ true
fits form parted.Genarray e m = refl
fits form (parted.Modarray x) e m = refl
fits form (parted.Fold o x) e m = absurd m

-- a parted loop whose cells never fault has a value
pub parted_made : (frame : List Grid1) (base : Base) (op : PartedOp) (parts : List Cells) (s : Site) (e : Env) (at : List ℤ → ℤ) → MakesArray op → HasCells frame base parts at → parted_value frame base [] op parts s e ≡ Ok (array_of frame base at)
parted_made frame base op parts s e at m h =
    (λ i. if fits (cell_form base []) op e m i then and_then (each_made (cell_at (cell_form base []) parts) (held_scalar base at) (has_vector frame) (box_indices (map (λ (a : Grid1). a.lo) frame) (map (λ (a : Grid1). a.hi) frame)) h i) (λ found. Ok (made_of frame base [] op e found)) else fault F6 s)
    ∙ (λ i. Ok (made_is frame base op e at m i))

one_cell : (at : List ℤ → ℤ) (vs : List (List ℤ)) (p : ℕ) (d : List ℤ) → p < length vs → take 1 (drop p (map at vs)) ≡ at (get_or vs p d) ∷ []
one_cell at [] p d h = absurd (omega arith)
one_cell at (v ∷ vs) zero d h = refl
one_cell at (v ∷ vs) (suc p) d h = one_cell at vs p d (omega arith)

-- a selection at an index of the frame
pub selected_cell : (frame : List Grid1) (base : Base) (at : List ℤ → ℤ) (v : List ℤ) → IsBox frame → has_vector frame v ≡ true → select (array_of frame base at) (vector Int v) ≡ Ok (scalar base (at v))
selected_cell frame base at v b h =
    let ns = extents frame in
    let q = place_found frame v b.low h in
    let p = q.0 in
    let there : part_at (ns ++ []) v ≡ Some (record { start = p * size []; shape = [] }) = ap (part_at (ns ++ [])) (sym q.2) ∙ part_at_front ns [] p q.1 in
    let index : get_or (box (shape_spans ns)) p [] ≡ v = index_of_place ns p [] q.1 ∙ q.2 in
    let start : p * size [] ≡ p = omega arith in
    let inside : p < length (box (shape_spans ns)) = omega (arith, q.1, length_indices ns) in
    let cells : take 1 (drop (p * size []) (map at (members frame))) ≡ at v ∷ [] =
    ap (λ k. take 1 (drop k (map at (members frame)))) start ∙ ap (λ vs. take 1 (drop p (map at vs))) (members_are frame b) ∙ one_cell at (box (shape_spans ns)) p [] inside ∙ ap (λ u. at u ∷ []) index in
    ap (selected (array_of frame base at)) there ∙ (λ i. Ok (record { base = base; shape = []; cells = cells i }))
