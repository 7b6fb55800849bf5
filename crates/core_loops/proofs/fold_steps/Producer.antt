-- A producer with total parts has its cells.
use Rattle.std.proofs.Common.{◌≡◌, ℕ, zero, suc, ◌*◌, ◌<◌, Bool, true, false, ◌&&◌, cond, eqb, List, [], ◌∷◌, map, length, get_or, Option, Some, None, Result, Ok, Err, refl, sym, ap, subst, ◌∙◌, arith, ℤ, pos, All, FitsSigned, w32}
use Rattle.std.specs.Prelude.{if◌then◌else◌, Contains}
use Rattle.std.proofs.lemmas.Slice.Eq.{bytes_eq-Decides}
use Rattle.sac_base.specs.declared.base.Base.{Base}
use Rattle.sac_base.specs.declared.base.Base.TheVariants.{Int, Bool as Truth}
use Rattle.sac_base.specs.declared.faults.FaultKind.TheVariants.{F6}
use Rattle.sac_base.specs.declared.grid.Grid1.{Grid1}
use Rattle.sac_base.specs.declared.site.Site.{Site}
use Rattle.sac_base.specs.Arrays.{ArrayValue, IsFull, scalar, vector, first_cell, same_form, same_base, size}
use Rattle.sac_base.specs.Grids.{has_vector}
use Rattle.sac_base.specs.Outcomes.{Ends, and_then, fault, first_result}
use Rattle.core_ir.specs.declared.tree.Var.{Var}
use Rattle.core_ir.specs.Binders.{bound_in, bound_in_parts}
use Rattle.core_ir.specs.Terms.{BlockTerm, PartsTerm, PartHead, CoreTerm, NoParts, Part}
use Rattle.core_ir.specs.Meaning.{Env, CallMeaning, bind, first, held, cell_at, cell_form, run, cells}
use Rattle.core_ir.specs.WellFormed.{Bases, PartsBases, BlockBases, Distinct, Covered, part_grids}
use Rattle.core_facts.specs.Facts.{Fact, Facts, ShapeIs, DescribeAll, AreSound, block_facts, in_part, shape_fact, CallsFit}
use Rattle.core_facts.specs.Full.{FullInside, FullInsideParts}
use Rattle.core_facts.proofs.Shapes.{ok_same}
use Rattle.core_facts.proofs.Sound.{noted_one, block_sound}
use Rattle.core_facts.proofs.Settle.{has_length, vector_full}
use Rattle.core_facts.specs.bases.Typed.{HaveBases, Typed, CallsTyped}
use Rattle.core_facts.proofs.bases.Bound.{distinct_left, distinct_right, typed_one}
use Rattle.core_facts.proofs.bases.Whole.{block_typed}
use Rattle.core_loops.specs.folds.Cells.{HasCells}
use Rattle.core_loops.specs.Indices.{own_index, is_scalar_shape, total_block}
use Rattle.core_loops.specs.Pairs.{one_scalar, TotalParts}
use Rattle.core_loops.proofs.index_facts.Indices.{says_own}
use Rattle.core_loops.proofs.index_facts.Blocks.{block_total}

not_false : (A : Type 0) → false ≡ true → A
not_false A p = absurd (cc)

both : {b : Bool} {A : Type 0} → b ≡ true → b ≡ false → A
both p q = absurd (let z = sym p ∙ q in cc)

-- what is known where the body of a part begins
pub entered : (k : Facts) (e : Env) (h : PartHead) (v : List ℤ) → AreSound k e → has_vector h.grid v ≡ true → AreSound (in_part k h) (bind e h.index (vector Int v))
entered k e h v s q = noted_one k e h.index (shape_fact (Some (length h.grid ∷ []))) (vector Int v) s (record { shape = λ i. has_length h.grid v q i ∷ []; literal = tt; full = vector_full v })

scalar_of : (o : Option (List ℕ)) (a : ArrayValue) → is_scalar_shape o ≡ true → ShapeIs o a → a.shape ≡ []
scalar_of None a p h = not_false _ p
scalar_of (Some s) a p h = h ∙ (bytes_eq-Decides s []).0 p

-- a full array of this base and of rank 0
is_scalar : (a : ArrayValue) (t : Base) → a.base ≡ t → a.shape ≡ [] → IsFull a → a ≡ scalar t (first_cell a.cells)
is_scalar a t b s f = λ i. record { base = b i; shape = s i; cells = cell a.cells (f ∙ ap size s) i }
  where
    cell : (zs : List ℤ) → length zs ≡ 1 → zs ≡ first_cell zs ∷ []
    cell [] l = absurd (omega (arith, l))
    cell (z ∷ []) l = refl
    cell (z ∷ y ∷ zs) l = absurd (omega (arith, l))

one_value : (t : Base) (fs : List Fact) (vs : List ArrayValue) → one_scalar fs ≡ true → HaveBases (t ∷ []) vs → DescribeAll fs vs → (z : ℤ) × (first_result vs ≡ scalar t z)
one_value t [] vs p h d = not_false _ p
one_value t (f ∷ g ∷ fs) vs p h d = not_false _ p
one_value t (f ∷ []) [] p h d = absurd h
one_value t (f ∷ []) (v ∷ []) p h d = (first_cell v.cells, is_scalar v t h.0 (scalar_of f.shape v p d.0.shape) d.0.full)
one_value t (f ∷ []) (v ∷ w ∷ vs) p h d = absurd h.1

keeps_form : (t : Base) (z : ℤ) (s : Site) → held (cell_form t []) s (scalar t z) ≡ Ok (Some (scalar t z))
keeps_form Int z s = refl
keeps_form Truth z s = refl

elsewhere : (g h : List Grid1) (gs : List (List Grid1)) (v : List ℤ) → Contains (h ∷ gs) g → has_vector h v ≡ false → has_vector g v ≡ true → Contains gs g
elsewhere g h gs v c p q = go c.0 c.1 c.2
  where
    go : (i : ℕ) → i < length (h ∷ gs) → get_or (h ∷ gs) i g ≡ g → Contains gs g
    go zero l e = both {b = has_vector g v} q (sym (λ i. has_vector (e i) v) ∙ p)
    go (suc i) l e = (i, omega (arith, l), e)

abbrev cell_number : Ends (Option ArrayValue) → ℤ
cell_number (Ok (Some a)) = first_cell a.cells
cell_number _ = pos 0

module _ (core : CoreTerm) (calls : CallMeaning) (turns : ℕ) (typed : CallsTyped core calls) (called : ℕ → List (Option (List ℕ))) (fit : CallsFit called calls) where
  part_cell : (h : PartHead) (b : BlockTerm) (k : Facts) (g : Bases) (t : Base) (e : Env) (v : List ℤ) → total_block called h.grid b (in_part k h) (own_index (length h.grid) h.index) ≡ true → one_scalar (block_facts called b (in_part k h)) ≡ true → BlockBases core ((h.index, Int) ∷ g) b (t ∷ []) → Distinct (bound_in b) → FullInside calls turns b → Typed g e → AreSound k e → has_vector h.grid v ≡ true → All (FitsSigned w32) v
      → (z : ℤ) × (first (run calls turns b (bind e h.index (vector Int v))) ≡ Ok (scalar t z))
  part_cell h b k g t e v total single bases once full ty s inside words =
      let f = bind e h.index (vector Int v) in
      let long = has_length h.grid v inside in
      let ty' = typed_one g e h.index Int (vector Int v) ty refl in
      let s' = entered k e h v s inside in
      let r = block_total core calls turns typed called fit h.grid v inside long b ((h.index, Int) ∷ g) (t ∷ []) (in_part k h) (own_index (length h.grid) h.index) f total bases once full ty' s' (says_own (length h.grid) h.index e v long words) in
      let z = one_value t (block_facts called b (in_part k h)) r.0 single (block_typed core calls turns typed b ((h.index, Int) ∷ g) (t ∷ []) f r.0 bases once ty' r.1) (block_sound calls turns called fit b (in_part k h) f r.0 full s' r.1) in
      (z.0, ap first r.1 ∙ (λ i. Ok (z.1 i)))

  parts_cell : (parts : PartsTerm) (k : Facts) (g : Bases) (t : Base) (e : Env) (v : List ℤ) (c : List Grid1) → TotalParts called k parts → PartsBases core g parts t → Distinct (bound_in_parts parts) → FullInsideParts calls turns parts → Typed g e → AreSound k e → All (FitsSigned w32) v → Contains (part_grids parts) c → has_vector c v ≡ true
      → (z : ℤ) × (cell_at (cell_form t []) (cells calls turns parts e) v ≡ Ok (Some (scalar t z)))
  parts_cell NoParts k g t e v c total bases once full ty s words has q = absurd (omega (arith, has.1))
  parts_cell (Part h b rest) k g t e v c total bases once full ty s words has q =
      go (has_vector h.grid v) refl
      (λ inside. part_cell h b k g t e v total.0 total.1 bases.0 (distinct_left (bound_in b) (bound_in_parts rest) once.1) full.0 ty s inside words)
      (λ outside. parts_cell rest k g t e v c total.2 bases.1 (distinct_right (bound_in b) (bound_in_parts rest) once.1) full.1 ty s words (elsewhere c h.grid (part_grids rest) v has outside q) q)
    where
      go : (d : Bool) → has_vector h.grid v ≡ d → (has_vector h.grid v ≡ true → (z : ℤ) × (first (run calls turns b (bind e h.index (vector Int v))) ≡ Ok (scalar t z)))
          → (has_vector h.grid v ≡ false → (z : ℤ) × (cell_at (cell_form t []) (cells calls turns rest e) v ≡ Ok (Some (scalar t z))))
          → (z : ℤ) × ((if d then and_then (first (run calls turns b (bind e h.index (vector Int v)))) (held (cell_form t []) h.site) else cell_at (cell_form t []) (cells calls turns rest e) v) ≡ Ok (Some (scalar t z)))
      go true p f n = let w = f p in (w.0, (λ i. and_then (w.1 i) (held (cell_form t []) h.site)) ∙ keeps_form t w.0 h.site)
      go false p f n = n p

  -- the cell of each index of a covered frame
  pub producer_cells : (frame : List Grid1) (parts : PartsTerm) (k : Facts) (g : Bases) (t : Base) (e : Env) → TotalParts called k parts → PartsBases core g parts t → Distinct (bound_in_parts parts) → FullInsideParts calls turns parts → Typed g e → AreSound k e → ((v : List ℤ) → has_vector frame v ≡ true → All (FitsSigned w32) v) → Covered frame (part_grids parts)
      → (at : List ℤ → ℤ) × HasCells frame t (cells calls turns parts e) at
  producer_cells frame parts k g t e total bases once full ty s words covered = (
    (λ v. cell_number (cell_at (cell_form t []) (cells calls turns parts e) v)),
    λ v q.
        let c = covered v q in
        let w = parts_cell parts k g t e v c.0 total bases once full ty s (words v q) c.1.0 c.1.1 in
        w.1 ∙ (λ i. Ok (Some (scalar t (sym (ap cell_number w.1) i)))),
  )
